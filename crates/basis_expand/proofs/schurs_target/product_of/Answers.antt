use Rattle.std.proofs.Common.{◌≡◌, ◌≤◌, List, ℕ, sym, ap, subst, arith}
use Rattle.std.specs.Prelude.{IfOk}
use Rattle.sym_model.specs.Expansion.{Basis}
use Rattle.sym_model.specs.Expression.{Tree, atom, product, degree}
use Rattle.sym_model.specs.Partition.{size}
use Rattle.sparse_polys.proofs.Coefficients.{if_answered}
use Rattle.sparse_polys.specs.Families.{basis_in}
use Rattle.basis_expand.specs.SchurLists.{StandsFor}
use Rattle.basis_expand.proofs.FamilyFactors.{factor_times}
use Rattle.basis_expand.proofs.Expressions.{right_factor, left_factor}
use Rattle.basis_expand.proofs.schurs_target.product_of.Goals as goal

small : (e : Tree) (basis : Basis) (label parts : List ℕ) → e ≡ atom basis label → degree e ≤ 20 →
    parts ≡ label → size parts ≤ 512
small e basis label parts is low same =
    let cells = ap degree is in subst (λ (l : List ℕ). size l ≤ 512) (sym same) (omega arith)

pub times_parts-requires-clause-low : goal.times_parts-requires-clause-low
times_parts-requires-clause-low c =
    let e = c.requires.right in small e.0 _ _ _ (c.in-Some.ensures e.0 e.1) e.2
    c.parts.ensures.value

pub times_parts-requires-in-Some-factors_of-clause-low
    : goal.times_parts-requires-in-Some-factors_of-clause-low
times_parts-requires-in-Some-factors_of-clause-low c =
    let e = c.requires.left in small e.0 _ _ _ (c.in-Some-factors_of.ensures e.0 e.1) e.2
    c.parts-in-Some-factors_of.ensures.value

pub returns-in-Some : goal.returns-in-Some
returns-in-Some c e f h k =
    let family = c.in-Some.family in
    let factor = c.in-Some.ensures f k in
    let left = c.in_ok-list_of.ensures e h in
    subst (λ g. IfOk c.times_parts.result (StandsFor (product e g))) (sym factor)
    (if_answered c.times_parts.result c.times_parts.ensures
    (λ list w. right_factor e (basis_in family) c.in-Some.label.now list
    (factor_times family e c.parts.result.now c.in-Some.label.now c.in_ok-list_of.field-0 list
    c.parts.ensures.value w left)))

pub returns-in-Some-factors_of : goal.returns-in-Some-factors_of
returns-in-Some-factors_of c e f h k =
    let family = c.in-Some-factors_of.family in
    let factor = c.in-Some-factors_of.ensures e h in
    let right = c.in_ok-list_of-2.ensures f k in
    subst (λ g. IfOk c.times_parts-in-Some-factors_of.result (StandsFor (product g f))) (sym factor)
    (if_answered c.times_parts-in-Some-factors_of.result c.times_parts-in-Some-factors_of.ensures
    (λ list w. left_factor f (basis_in family) c.in-Some-factors_of.label.now list
    (factor_times family f c.parts-in-Some-factors_of.result.now c.in-Some-factors_of.label.now
    c.in_ok-list_of-2.field-0 list c.parts-in-Some-factors_of.ensures.value w right)))

pub returns : goal.returns
returns c e f h k =
    if_answered c.product.result c.product.ensures
    (λ list w n. w n _ _ _ _ (c.in_ok-first.ensures e h n) (c.in_ok-second.ensures f k n))
