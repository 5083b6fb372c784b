use Rattle.std.proofs.Common.{◌≡◌, ℕ, ◌+◌, ◌*◌, ◌^◌, ◌≤◌, max, sym, ap, ◌∙◌, subst, arith, ◌+ℤ◌}
use Rattle.std.specs.Prelude.{Err}
use Rattle.sym_model.specs.DoubleSchubert.{difference_in, shifted_in}
use Rattle.sym_model.specs.Polynomial.{pair, times}
use Rattle.sym_model.specs.WholeTerms.{combined}
use Rattle.linear_combinations.proofs.Labels.{same_pair}
use Rattle.linear_combinations.proofs.Steps.{error_is}
use Rattle.linear_combinations.specs.Gains.{over, mass, replaced, HaveLabels}
use Rattle.linear_combinations.proofs.Masses.{overflow_mass, represents_sums, weight_is}
use Rattle.linear_combinations.proofs.Masses.{weight_grows}
use Rattle.transition_laws.specs.Shifts.{ShiftedSum, IsWithin, equal, factor_terms, greatest_length}
use Rattle.double_schubert.proofs.FactorGains.{label_laws, over_product, product_mass}
use Rattle.double_schubert.proofs.FactorGains.{product_labels, pair_product, longest}
use Rattle.double_schubert.proofs.factor.times_factor.Goals as goal
use native.Mathlib.Nat.{mul-le-mul_left}
use Rattle.linear_combinations.proofs.Weighed.{gains_mass}
use lib.IntN.{+ℤ_idl}

pub add_by-requires : goal.add_by-requires
add_by-requires c t m = (
  record {
    first = c.requires.first;
    last = c.requires.last;
    column =
        c.requires.column;
    last_column = c.requires.last_column;
  },
  c.requires.labels t m,
)

pub returns-in_err-add_by-clause-large : goal.returns-in_err-add_by-clause-large
returns-in_err-add_by-clause-large c err =
    let most = max c.args.r (greatest_length c.args.list) in
    let large = overflow_mass equal c.new-product.result (replaced (factor_terms c.args.r c.args.c)
    c.args.list) (c.in_err-add_by.ensures.large
    (ap Err (error_is _ _ _ c.from_residual.ensures.1 err))) in
    let more = product_mass c.args.r c.args.c c.requires.first c.args.list
    (max c.args.r (greatest_length c.args.list)) 32384 (longest c.args.list c.args.r 254 32384
    c.requires.labels) (omega arith) in
    let none = ap mass c.new-product.ensures in
    let w = weight_is c.args.list in
    by (mass c.args.list) (max c.args.r (greatest_length c.args.list) + 2) _ _ _ large more none w
  where
    by : (a b m g w : ℕ) → 2 ^ 127 ≤ m + g → g ≤ a * b → m ≡ 0 → w ≡ max 1 a → 2 ^ 127 ≤ w * b
    by a b m g w h k e f =
        let x : a ≤ max 1 a = omega arith in
        let p = mul-le-mul_left b x in
        let q = ap (λ z. z * b) f in
        omega arith

pub returns-clause-value : goal.returns-clause-value
returns-clause-value c n =
    represents_sums (λ label. shifted_in label n) c.add_by.new.self
    (times (difference_in c.args.r c.args.c n) (combined (λ label. shifted_in label n)
    c.args.list))
    (λ φ.
    c.in_ok-add_by.ensures.gains.sums (λ label. pair (shifted_in label n) φ)
    ∙ ap (λ (ts : ShiftedSum). over (λ label. pair (shifted_in label n) φ) ts +ℤ over
    (λ label. pair (shifted_in label n) φ) (replaced (factor_terms c.args.r c.args.c)
    c.args.list)) c.new-product.ensures
    ∙ +ℤ_idl (over (λ label. pair (shifted_in label n) φ) (replaced (factor_terms c.args.r c.args.c)
    c.args.list))
    ∙ over_product c.args.r c.args.c c.requires.first c.args.list
    (λ label. pair (shifted_in label n) φ)
    ∙ pair_product c.args.r c.args.c c.requires.first c.args.list n φ c.in_ok-add_by.ensures.list)

pub returns-clause-weight : goal.returns-clause-weight
returns-clause-weight c =
    let g = gains_mass same_pair label_laws c.new-product.result
    (replaced (factor_terms c.args.r c.args.c) c.args.list) c.add_by.new.self
    c.in_ok-add_by.ensures.table c.in_ok-add_by.ensures.gains in
    let more = product_mass c.args.r c.args.c c.requires.first c.args.list
    (max c.args.r (greatest_length c.args.list)) 32384 (longest c.args.list c.args.r 254 32384
    c.requires.labels) (omega arith) in
    let none = ap mass c.new-product.ensures in
    weight_grows c.args.list c.add_by.new.self (max c.args.r (greatest_length c.args.list) + 2)
    (omega arith) (omega arith)

pub returns-clause-labels : goal.returns-clause-labels
returns-clause-labels c letters degree list last =
    product_labels c.args.r c.args.c c.requires.first c.args.list c.new-product.result
    c.add_by.new.self c.in_ok-add_by.ensures.table c.in_ok-add_by.ensures.gains letters degree
    list last
    (subst (λ (ts : ShiftedSum). HaveLabels (IsWithin (letters + 1) (degree + 1)) ts)
    (sym c.new-product.ensures) (λ t m. absurd m))
