-- Sums over ranges of numbers, and over those numbers of a range that pass a test.
use Rattle.std.proofs.Common.{◌≡◌, ℕ, zero, suc, ◌+◌, ◌-◌, ◌<◌, ◌≤◌, ◌⊎◌, inl, inr, Bool, true, false, cond, ◌∷◌, refl, sym, ap, ap₂, ◌∙◌, arith}
use Rattle.std.proofs.lemmas.Bool.{cases_lt}
use Rattle.sym_model.specs.Partition.{after}
use Rattle.lr_product.specs.Extension.{numbers_from}
use Rattle.sym_model.specs.Sum.{sum_by}
use Rattle.lr_product.proofs.LetterSums.{sum-step, sum-end}

pub after-numbers : (a k : ℕ) → after a k ≡ numbers_from (a + 1) k
after-numbers a zero = refl
after-numbers a (suc k) = ap (λ l. (a + 1) ∷ l) (after-numbers (a + 1) k)

module _ (test : ℕ → Bool) (S : ℕ → ℕ) (end : ℕ) where
  pub range-front : (low k : ℕ) → ((b : ℕ) → low ≤ b → b < end → test b ≡ true) → ((b : ℕ) → low ≤ b → end ≤ b → b < low + k → test b ≡ false) → end ≤ low + k
      → sum_by (λ b. cond (test b) (S b) 0) (numbers_from low k) ≡ sum_by S (numbers_from low (end - low))
  range-front low zero inside outside h = sym (sum-end S low end (omega arith))
  range-front low (suc k) inside outside h = by (cases_lt low end) (λ l. range-front (low + 1) k (λ b g. inside b (omega arith)) (λ b g m q. outside b (omega arith) m (omega arith)) (omega arith))
      (λ l. range-front (low + 1) k (λ b g m. absurd (omega arith)) (λ b g m q. outside b (omega arith) m (omega arith)) (omega arith))
    where
      by : (low < end) ⊎ (end ≤ low) → (low < end → sum_by (λ b. cond (test b) (S b) 0) (numbers_from (low + 1) k) ≡ sum_by S (numbers_from (low + 1) (end - (low + 1))))
          → (end ≤ low → sum_by (λ b. cond (test b) (S b) 0) (numbers_from (low + 1) k) ≡ sum_by S (numbers_from (low + 1) (end - (low + 1))))
          → cond (test low) (S low) 0 + sum_by (λ b. cond (test b) (S b) 0) (numbers_from (low + 1) k) ≡ sum_by S (numbers_from low (end - low))
      by (inl l) rest other = ap₂ ◌+◌ (ap (λ t. cond t (S low) 0) (inside low (omega arith) l)) (rest l) ∙ sym (sum-step S low end l)
      by (inr l) other rest = ap₂ ◌+◌ (ap (λ t. cond t (S low) 0) (outside low (omega arith) l (omega arith))) (rest l ∙ sum-end S (low + 1) end (omega arith)) ∙ sym (sum-end S low end l)

  pub range-passing : (from low k : ℕ) → from ≤ low → ((b : ℕ) → from ≤ b → b < low → test b ≡ false) → ((b : ℕ) → low ≤ b → b < end → test b ≡ true)
      → ((b : ℕ) → low ≤ b → end ≤ b → b < from + k → test b ≡ false) → end ≤ from + k
      → sum_by (λ b. cond (test b) (S b) 0) (numbers_from from k) ≡ sum_by S (numbers_from low (end - low))
  range-passing from low zero l below inside outside h = sym (sum-end S low end (omega arith))
  range-passing from low (suc k) l below inside outside h = by (cases_lt from low)
      (λ m. range-passing (from + 1) low k (omega arith) (λ b g. below b (omega arith)) inside (λ b g q r. outside b g q (omega arith)) (omega arith))
    where
      by : (from < low) ⊎ (low ≤ from) → (from < low → sum_by (λ b. cond (test b) (S b) 0) (numbers_from (from + 1) k) ≡ sum_by S (numbers_from low (end - low)))
          → cond (test from) (S from) 0 + sum_by (λ b. cond (test b) (S b) 0) (numbers_from (from + 1) k) ≡ sum_by S (numbers_from low (end - low))
      by (inl m) rest = ap₂ ◌+◌ (ap (λ t. cond t (S from) 0) (below from (omega arith) m)) (rest m) ∙ (let e : 0 + sum_by S (numbers_from low (end - low)) ≡ sum_by S (numbers_from low (end - low)) = omega arith in e)
      by (inr m) rest =
          let e : low ≡ from = omega arith in
          range-front from (suc k) (λ b g. inside b (omega arith)) (λ b g q. outside b (omega arith) q) h ∙ ap (λ x. sum_by S (numbers_from x (end - x))) (sym e)

pub numbers-ext : (f g : ℕ → ℕ) (low k : ℕ) → ((b : ℕ) → low ≤ b → b < low + k → f b ≡ g b) → sum_by f (numbers_from low k) ≡ sum_by g (numbers_from low k)
numbers-ext f g low zero e = refl
numbers-ext f g low (suc k) e = ap₂ ◌+◌ (e low (omega arith) (omega arith)) (numbers-ext f g (low + 1) k (λ b l h. e b (omega arith) (omega arith)))
