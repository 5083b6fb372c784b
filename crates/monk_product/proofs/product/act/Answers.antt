use Rattle.std.proofs.Common.{◌≡◌, ◌+◌, ◌*◌, ◌^◌, ◌≤◌, max, length, sym, ap, ◌∙◌, subst, arith}
use Rattle.std.specs.Prelude.{Err, nat_abs}
use Rattle.std.specs.Cmp.Lexicographic.{nat_list_eq_equiv}
use Rattle.sym_model.specs.PastLimit.{value_at_ones}
use Rattle.sym_model.specs.PlaceOrders.{inversions}
use Rattle.sym_model.specs.Polynomial.{pair, times}
use Rattle.sym_model.specs.Schubert as polynomials
use Rattle.sym_model.specs.Schubert.{schubert_in}
use Rattle.linear_combinations.proofs.Labels.{same_partition}
use Rattle.linear_combinations.proofs.Steps.{error_is}
use Rattle.linear_combinations.proofs.Masses.{over_same, represents_sums}
use Rattle.monk_product.proofs.product.act.Goals as goal

pub returns-clause-value : goal.returns-clause-value
returns-clause-value c n =
    represents_sums (λ x. schubert_in x n) c.in_ok-sorted_terms.field-0
    (times (schubert_in c.args.w.now n) (schubert_in c.args.other.now n))
    (λ φ.
    sym (over_same nat_list_eq_equiv same_partition c.in_ok-sum.sum c.in_ok-sorted_terms.field-0
    c.in_ok-sum.ensures.table c.in_ok-sorted_terms.ensures.combination
    c.in_ok-sorted_terms.ensures.same (λ x. pair (schubert_in x n) φ))
    ∙ c.in_ok-sum.ensures.value n φ)

pub returns-in_err-sum-clause-large : goal.returns-in_err-sum-clause-large
returns-in_err-sum-clause-large c err =
    let large = c.in_err-sum.ensures.large (ap Err (error_is _ _ _ c.from_residual.ensures.1 err))
    in
    let base : max (length c.args.w.now) (length c.args.other.now) + inversions c.args.w.now + 0
    ≡ max (length c.args.w.now) (length c.args.other.now) + inversions c.args.w.now =
    omega arith in
    subst (λ b. 2 ^ 127 ≤ nat_abs (value_at_ones (polynomials.schubert c.args.w.now)) * b ^
    inversions c.args.w.now) base large
