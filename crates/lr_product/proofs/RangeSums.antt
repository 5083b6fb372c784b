-- Sums over two ranges of numbers that have the same terms, apart from terms that are 0.
use Rattle.std.proofs.Common.{◌≡◌, ℕ, ◌+◌, ◌-◌, ◌<◌, ◌≤◌, ◌⊎◌, inl, inr, max, min, sym, ap, ◌∙◌, arith}
use Rattle.std.proofs.lemmas.Bool.{cases_lt}
use Rattle.sym_model.specs.Sum.{sum_by}
use Rattle.lr_product.specs.Extension.{numbers_from}
use Rattle.lr_product.proofs.LetterSums.{sum-end, sum-from}
use Rattle.lr_product.proofs.Ranges.{numbers-ext}
use Rattle.lr_product.proofs.RowPruning.{numbers-cut}

-- let a ≤ c and d ≤ b: if X is 0 at those numbers from a to b - 1 that are less than c or at least d, its sum from a to b - 1 is that from c to d - 1
pub sum-narrowed : (X : ℕ → ℕ) (a b c d : ℕ) → a ≤ c → d ≤ b → ((x : ℕ) → a ≤ x → x < b → x < c → X x ≡ 0) → ((x : ℕ) → a ≤ x → x < b → d ≤ x → X x ≡ 0)
    → sum_by X (numbers_from a (b - a)) ≡ sum_by X (numbers_from c (d - c))
sum-narrowed X a b c d low high below past = by (cases_lt c b)
  where
    by : (c < b) ⊎ (b ≤ c) → sum_by X (numbers_from a (b - a)) ≡ sum_by X (numbers_from c (d - c))
    by (inl h) =
        let g : b - c ≡ (d - c) + (b - c - (d - c)) = omega arith in
        sum-from X a b c (omega arith) (λ q. low) (λ x l q. below x l (omega arith) q)
        ∙ ap (λ k. sum_by X (numbers_from c k)) g
        ∙ numbers-cut X c (d - c) (b - c - (d - c)) (λ x l q. past x (omega arith) (omega arith) (omega arith))
    by (inr h) =
        sum-from X a b b (omega arith) (λ q. absurd (omega arith)) (λ x l q. below x l q (omega arith))
        ∙ sum-end X b b (omega arith) ∙ sym (sum-end X c d (omega arith))

-- G and H are equal at the numbers that lie in both ranges, and 0 at those that lie in one of them
pub sum-matched : (G H : ℕ → ℕ) (a b c d : ℕ) → ((x : ℕ) → a ≤ x → x < b → c ≤ x → x < d → G x ≡ H x)
    → ((x : ℕ) → a ≤ x → x < b → x < c → G x ≡ 0) → ((x : ℕ) → a ≤ x → x < b → d ≤ x → G x ≡ 0)
    → ((x : ℕ) → c ≤ x → x < d → x < a → H x ≡ 0) → ((x : ℕ) → c ≤ x → x < d → b ≤ x → H x ≡ 0)
    → sum_by G (numbers_from a (b - a)) ≡ sum_by H (numbers_from c (d - c))
sum-matched G H a b c d same g-low g-high h-low h-high =
    sum-narrowed G a b (max a c) (min b d) (omega arith) (omega arith) (λ x l h q. g-low x l h (omega arith)) (λ x l h q. g-high x l h (omega arith))
    ∙ numbers-ext G H (max a c) (min b d - max a c) (λ x l h. same x (omega arith) (omega arith) (omega arith) (omega arith))
    ∙ sym (sum-narrowed H c d (max a c) (min b d) (omega arith) (omega arith) (λ x l h q. h-low x l h (omega arith)) (λ x l h q. h-high x l h (omega arith)))

-- if X is 0 at all numbers of a range but one, its sum is the term at this number
pub sum-single : (X : ℕ → ℕ) (a b y : ℕ) → a ≤ y → y < b → ((x : ℕ) → a ≤ x → x < b → (x ≡ y → ⊥) → X x ≡ 0) → sum_by X (numbers_from a (b - a)) ≡ X y
sum-single X a b y low high none =
    let one : (y + 1) - y ≡ 1 = omega arith in
    let e : X y + 0 ≡ X y = omega arith in
    sum-narrowed X a b y (y + 1) low (omega arith) (λ x l h q. none x l h (λ p. absurd (omega arith))) (λ x l h q. none x l h (λ p. absurd (omega arith)))
    ∙ ap (λ k. sum_by X (numbers_from y k)) one ∙ e
