use Rattle.std.proofs.Common.{◌≡◌, ℕ, ◌+◌, ◌^◌, ◌≤◌, max, length, ap, ◌∙◌, subst, arith}
use Rattle.std.specs.Prelude.{Err, Option, Some, None, IfSome, nat_abs}
use Rattle.sym_model.specs.DoubleSchubert.{double_schubert_in, shifted_in}
use Rattle.sym_model.specs.PastLimit.{value_at_ones}
use Rattle.sym_model.specs.PlaceOrders.{inversions}
use Rattle.sym_model.specs.Polynomial.{pair, times}
use Rattle.sym_model.specs.Schubert as polynomials
use Rattle.linear_combinations.proofs.Steps.{error_is}
use Rattle.linear_combinations.proofs.Masses.{represents_sums}
use Rattle.transition_walk.proofs.Shares.{ones_positive, ones_limit}
use Rattle.double_schubert.proofs.FactorProducts.{within_more, general_value, whole_product, positive_times}
use Rattle.double_schubert.proofs.product.act_by_factors.Goals as goal
use Rattle.std.proofs.lemmas.Option.{IfSome_then}

if_some : {T : Type 0} (P : T → Type 0) (o : Option T) (x : T) → o ≡ Some x → IfSome o P → P x
if_some P None x e h = cc
if_some P (Some y) x e h = let i : y ≡ x = cc in subst P i h

pub times_factors-requires-clause-places : goal.times_factors-requires-clause-places
times_factors-requires-clause-places c =
    within_more (length c.args.w.now) 8 c.in-Some.factors.items c.requires.first
    (if_some _ c.in_ok-factors.field-0 c.in-Some.factors c.in-Some.is c.in_ok-factors.ensures.places)

pub returns-in_err-sum-clause-large : goal.returns-in_err-sum-clause-large
returns-in_err-sum-clause-large c err =
    let count : length c.in-Some.factors.items ≡ inversions c.args.w.now =
    if_some _ c.in_ok-factors.field-0 c.in-Some.factors c.in-Some.is c.in_ok-factors.ensures.count in
    let large = c.in_err-sum.ensures.large (ap Err (error_is _ _ _ c.from_residual-in_err-sum.ensures.1 err))
    (max (length c.args.w.now) (length c.args.other.now))
    (within_more (length c.args.w.now) (max (length c.args.w.now) (length c.args.other.now)) c.in-Some.factors.items (omega arith)
    (if_some _ c.in_ok-factors.field-0 c.in-Some.factors c.in-Some.is c.in_ok-factors.ensures.places)) (omega arith) in
    let some = ones_positive (length c.args.w.now) c.args.w.now
    (record { one_line = c.inversions.ensures.limits.kept.one_line; few = omega arith }) in
    let same = ones_limit c.args.w.now in
    positive_times (nat_abs (value_at_ones (polynomials.schubert c.args.w.now)))
    ((max (length c.args.w.now) (length c.args.other.now) + inversions c.args.w.now + 2) ^ inversions c.args.w.now) (2 ^ 127)
    (omega arith)
    (subst (λ (k : ℕ). 2 ^ 127 ≤ (max (length c.args.w.now) (length c.args.other.now) + k + 2) ^ k) count large)

pub returns-clause-value : goal.returns-clause-value
returns-clause-value c =
    IfSome_then c.in_ok-terms_of.field-0 c.in_ok-terms_of.ensures (λ terms h n.
    represents_sums (λ label. shifted_in label n) terms
    (times (double_schubert_in c.args.w.now n) (double_schubert_in c.args.other.now n))
    (λ φ.
    h (λ label. pair (shifted_in label n) φ)
    ∙ general_value n φ c.in_ok-sum.sum.items
    ∙ c.in_ok-sum.ensures.value n φ
    ∙ whole_product n φ c.args.w.now c.args.other.now c.in-Some.factors.items
    (if_some _ c.in_ok-factors.field-0 c.in-Some.factors c.in-Some.is c.in_ok-factors.ensures.value n)))
