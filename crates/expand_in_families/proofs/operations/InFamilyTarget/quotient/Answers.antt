use Rattle.std.proofs.Common.{refl, arith, ◌∙◌, to_z-of_z, subst, pos, ℤ, [], ◌∷◌, ◌≡◌}
use Rattle.std.specs.Prelude.{nat_abs}
use Rattle.std.proofs.lemmas.Int.{ints}
use Rattle.sym_model.specs.Polynomial.{Same}
use Rattle.sym_model.specs.WholeTerms.{WholeTerms}
use Rattle.basis_expand.proofs.Making.{done}
use Rattle.sparse_polys.specs.Families.{polynomial_of}
use Rattle.expand_in_families.specs.Nodes.{ClearsTo, IsHeavyInFamilies}
use Rattle.expand_in_families.proofs.Nodes.{clears-number, clears-fraction}
use Rattle.expand_in_families.proofs.operations.InFamilyTarget.quotient.Goals as goal

-- the list of one term with the empty label and the coefficient z
abbrev numeral : ℤ → WholeTerms
numeral z = ([], z) ∷ []

pub returns-clause-number : goal.returns-clause-number
returns-clause-number c one =
    let size : c.args.num ≡ pos (nat_abs c.args.num) = omega (arith, ints, c.requires.sign) in
    done (ClearsTo (polynomial_of c.args.self.now.family)) IsHeavyInFamilies _ _
    (clears-number (polynomial_of c.args.self.now.family) (nat_abs c.args.num) _ one refl
    (subst (λ z. Same c.in_ok-terms.terms (numeral z)) (to_z-of_z c.ranges.num ∙ size)
    c.in_ok-terms.ensures.value))

pub returns-clause-fraction : goal.returns-clause-fraction
returns-clause-fraction c =
    let size : c.args.num ≡ pos (nat_abs c.args.num) = omega (arith, ints, c.requires.sign) in
    done (ClearsTo (polynomial_of c.args.self.now.family)) IsHeavyInFamilies _ _
    (clears-fraction (polynomial_of c.args.self.now.family) (nat_abs c.args.num) c.args.den _
    refl refl (subst (λ z. Same c.in_ok-terms.terms (numeral z)) (to_z-of_z c.ranges.num ∙ size)
    c.in_ok-terms.ensures.value))
