use Rattle.std.proofs.Common.{ℕ, List, subst}
use Rattle.sym_model.specs.Expansion.{schurs, Fraction, Terms, denominators, value, IsExpansionOf}
use Rattle.sym_model.specs.Polynomial.{times}
use Rattle.sparse_polys.specs.Combination.{terms_of}
use Rattle.sparse_polys.proofs.Coefficients.{if_answered}
use Rattle.sparse_polys.proofs.Tables.{terms-fractions}
use Rattle.sparse_polys.specs.Families.{polynomial_of}
use Rattle.basis_expand.proofs.SchurExpansions.{expansion_times}
use Rattle.basis_expand.proofs.strips_added.times_part.Goals as goal

pub times_family-requires-clause-room : goal.times_family-requires-clause-room
times_family-requires-clause-room c = c.has_room.ensures.0 c.if-not-has_room.false

pub returns : goal.returns
returns c =
    if_answered c.times_family.result c.times_family.ensures.value
    (λ product made n f q is.
    let h = polynomial_of c.args.family c.args.k n in
    let list = c.args.list in
    expansion_times list product n h f q
    (subst (λ (l : Terms (List ℕ)). IsExpansionOf schurs l n (times h (value schurs list n))
    (denominators list)) (terms-fractions product)
    (subst (λ (l : Terms (List ℕ)). IsExpansionOf schurs (terms_of (λ (r : Fraction). r) product) n
    (times h (value schurs l n)) (denominators l)) (terms-fractions list) (made n))) is)
