-- Sums over the letters allowed at a place of a column.
use Rattle.std.proofs.Common.{◌≡◌, ℕ, zero, suc, ◌+◌, ◌-◌, ◌*◌, ◌<◌, ◌≤◌, ◌⊎◌, inl, inr, sym, ap, ◌∙◌, arith, rules}
use Rattle.std.proofs.lemmas.Bool.{cases_lt}
use Rattle.lr_product.specs.Capped.{Agree}
use Rattle.lr_product.specs.Extension.{numbers_from}
use Rattle.sym_model.specs.Sum.{sum_by}
use Rattle.lr_product.proofs.Agreeing.{agree_same, agree_then, agree_sum}

pub sum-step : (X : ℕ → ℕ) (low end : ℕ) → low < end
    → sum_by X (numbers_from low (end - low)) ≡ X low + sum_by X (numbers_from (low + 1) (end - (low + 1)))
sum-step X low end h = let e : end - low ≡ suc (end - (low + 1)) = omega arith in ap (λ k. sum_by X (numbers_from low k)) e

pub sum-end : (X : ℕ → ℕ) (low end : ℕ) → end ≤ low → sum_by X (numbers_from low (end - low)) ≡ 0
sum-end X low end h = let e : end - low ≡ 0 = omega arith in ap (λ k. sum_by X (numbers_from low k)) e

-- if X is 0 at low, .., low + d - 1, the sum of X over the numbers from low to end - 1 is that over the numbers from low + d to end - 1
pub numbers-skipped : (X : ℕ → ℕ) (low end d : ℕ) → ((x : ℕ) → low ≤ x → x < low + d → X x ≡ 0) → sum_by X (numbers_from low (end - low)) ≡ sum_by X (numbers_from (low + d) (end - (low + d)))
numbers-skipped X low end zero none = let e : low + 0 ≡ low = omega arith in ap (λ x. sum_by X (numbers_from x (end - x))) (sym e)
numbers-skipped X low end (suc d) none = search (rules, cases_lt, sum-step, sum-end, (numbers-skipped X (low + 1) end d))

-- let first ≤ end, and let low ≤ first unless first = end: if X is 0 at the numbers from low to first - 1, the sum of X over the numbers from low to
-- end - 1 is that over the numbers from `first` to end - 1
pub sum-from : (X : ℕ → ℕ) (low end first : ℕ) → first ≤ end → (first < end → low ≤ first) → ((x : ℕ) → low ≤ x → x < first → X x ≡ 0)
    → sum_by X (numbers_from low (end - low)) ≡ sum_by X (numbers_from first (end - first))
sum-from X low end first within least none = by (cases_lt first low) (cases_lt first end)
  where
    by : (first < low) ⊎ (low ≤ first) → (first < end) ⊎ (end ≤ first) → sum_by X (numbers_from low (end - low)) ≡ sum_by X (numbers_from first (end - first))
    by (inr l) h =
        let e : low + (first - low) ≡ first = omega arith in
        numbers-skipped X low end (first - low) (λ x g q. none x g (omega arith)) ∙ ap (λ x. sum_by X (numbers_from x (end - x))) e
    by (inl l) (inl h) = let g = least h in absurd (omega arith)
    by (inl l) (inr h) = sum-end X low end (omega arith) ∙ sym (sum-end X first end h)

-- one pass of a loop over the letters less than `end`: the pass adds ways·X(letter) to `now`, and `next` agrees (`Agree`) with the result. If `now`
-- plus ways·(the sum of X over the letters from `letter` on) agrees with `all`, then `next` plus ways·(the sum of X over the letters from letter + 1
-- on) agrees with `all`.
pub agree_step : (now next all ways : ℕ) (X : ℕ → ℕ) (letter end : ℕ) → letter < end
    → Agree (now + ways * sum_by X (numbers_from letter (end - letter))) all
    → Agree next (now + ways * X letter)
    → Agree (next + ways * sum_by X (numbers_from (letter + 1) (end - (letter + 1)))) all
agree_step now next all ways X letter end h p q =
    let rest = sum_by X (numbers_from (letter + 1) (end - (letter + 1))) in
    let s : sum_by X (numbers_from letter (end - letter)) ≡ X letter + rest = sum-step X letter end h in
    let e : now + ways * X letter + ways * rest ≡ now + ways * (X letter + rest) = omega arith in
    agree_then _ _ _ (agree_sum next (now + ways * X letter) (ways * rest) q)
    (agree_then _ _ _ (agree_same _ _ (e ∙ ap (λ x. now + ways * x) (sym s))) p)

pub agree_end : (now all ways : ℕ) (X : ℕ → ℕ) (letter end : ℕ) → end ≤ letter
    → Agree (now + ways * sum_by X (numbers_from letter (end - letter))) all → Agree now all
agree_end now all ways X letter end h p = search rules
