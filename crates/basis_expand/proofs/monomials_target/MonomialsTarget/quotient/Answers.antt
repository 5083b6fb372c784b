use Rattle.std.proofs.Common.{refl, arith, ◌∙◌, to_z-of_z, subst, pos, ℤ, [], ◌∷◌, ◌≡◌}
use Rattle.std.specs.Prelude.{nat_abs}
use Rattle.std.proofs.lemmas.Int.{ints}
use Rattle.sym_model.specs.Polynomial.{Same}
use Rattle.sym_model.specs.WholeTerms.{WholeTerms}
use Rattle.basis_expand.proofs.Making.{done}
use Rattle.basis_expand.specs.Clearing.{ClearsTo, IsHeavyInMonomials}
use Rattle.basis_expand.proofs.Conversions.{converted-number, converted-fraction}
use Rattle.basis_expand.proofs.monomials_target.MonomialsTarget.quotient.Goals as goal

-- the list of one term with the empty label and the coefficient z
abbrev numeral : ℤ → WholeTerms
numeral z = ([], z) ∷ []

pub returns-clause-number : goal.returns-clause-number
returns-clause-number c one =
    let size : c.args.num ≡ pos (nat_abs c.args.num) = omega (arith, ints, c.requires.sign) in
    done ClearsTo IsHeavyInMonomials _ _ (converted-number (nat_abs c.args.num) _ one
    (subst (λ z. Same c.in_ok-terms.terms (numeral z)) (to_z-of_z c.ranges.num ∙ size)
    c.in_ok-terms.ensures.value))

pub returns-clause-fraction : goal.returns-clause-fraction
returns-clause-fraction c =
    let size : c.args.num ≡ pos (nat_abs c.args.num) = omega (arith, ints, c.requires.sign) in
    done ClearsTo IsHeavyInMonomials _ _ (converted-fraction (nat_abs c.args.num) c.args.den _ refl
    (subst (λ z. Same c.in_ok-terms.terms (numeral z)) (to_z-of_z c.ranges.num ∙ size)
    c.in_ok-terms.ensures.value))
