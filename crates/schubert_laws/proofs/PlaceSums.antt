-- Sums of f(0), f(1), .., f(n - 1) for a function f of places (`sum_below`).
use Rattle.std.proofs.Common.{◌≡◌, ℕ, zero, suc, ◌<◌, refl, sym, ◌∙◌, ap, ap₂, arith, ℤ, pos, ◌+ℤ◌, neg_ℤ, rules}
use Rattle.std.proofs.lemmas.Int.{ints}
use Rattle.schubert_laws.proofs.Swaps.{moved}

abbrev pub sum_below : ℕ → (ℕ → ℤ) → ℤ
sum_below zero f = pos 0
sum_below (suc n) f = f 0 +ℤ sum_below n (λ b. f (suc b))

pub sum_below_ext : (n : ℕ) (f g : ℕ → ℤ) → ((b : ℕ) → b < n → f b ≡ g b) → sum_below n f ≡ sum_below n g
sum_below_ext zero f g e = refl
sum_below_ext (suc n) f g e = ap₂ ◌+ℤ◌ (e 0 (omega arith)) (sum_below_ext n (λ b. f (suc b)) (λ b. g (suc b)) (λ b h. e (suc b) (omega arith)))

pub sum_below_add : (n : ℕ) (f g : ℕ → ℤ) → sum_below n (λ b. f b +ℤ g b) ≡ sum_below n f +ℤ sum_below n g
sum_below_add zero f g = refl
sum_below_add (suc n) f g = let e = sum_below_add n (λ b. f (suc b)) (λ b. g (suc b)) in omega (arith, ints)

pub sum_below_none : (n : ℕ) (f : ℕ → ℤ) → ((b : ℕ) → b < n → f b ≡ pos 0) → sum_below n f ≡ pos 0
sum_below_none zero f e = refl
sum_below_none (suc n) f e = search (rules, ints, (sum_below_none n))

-- if f(b) = 0 for all b < n except c, the sum of f over the places below n is f(c)
pub sum_below_only : (n c : ℕ) (f : ℕ → ℤ) → c < n → ((b : ℕ) → b < n → (b ≡ c → ⊥) → f b ≡ pos 0) → sum_below n f ≡ f c
sum_below_only zero c f h e = absurd (omega arith)
sum_below_only (suc n) zero f h e = search (rules, sum_below_none, ints)
sum_below_only (suc n) (suc c) f h e = search (rules, ints, (sum_below_only n c))

-- the sum of f over the places below n does not change if the values at two neighbouring places k and k + 1 are exchanged
pub sum_below_moved : (k n : ℕ) (f : ℕ → ℤ) → suc k < n → sum_below n (λ b. f (moved k b)) ≡ sum_below n f
sum_below_moved k zero f h = absurd (omega arith)
sum_below_moved zero (suc zero) f h = absurd (omega arith)
sum_below_moved zero (suc (suc n)) f h = omega (arith, ints)
sum_below_moved (suc k) (suc n) f h = ap (λ z. f 0 +ℤ z) (sum_below_moved k n (λ b. f (suc b)) (omega arith))

pub sum_below_last : (n : ℕ) (f : ℕ → ℤ) → sum_below (suc n) f ≡ sum_below n f +ℤ f n
sum_below_last zero f = omega (arith, ints)
sum_below_last (suc n) f = let e = sum_below_last n (λ b. f (suc b)) in omega (arith, ints)

pub sum_below_neg : (n : ℕ) (f : ℕ → ℤ) → sum_below n (λ b. neg_ℤ (f b)) ≡ neg_ℤ (sum_below n f)
sum_below_neg zero f = refl
sum_below_neg (suc n) f = let e = sum_below_neg n (λ b. f (suc b)) in omega (arith, ints)

-- if f and g agree at all places below n except c, their sums over these places differ by f(c) - g(c)
pub sum_below_differ : (n c : ℕ) (f g : ℕ → ℤ) → c < n → ((b : ℕ) → b < n → (b ≡ c → ⊥) → f b ≡ g b) → sum_below n f +ℤ g c ≡ sum_below n g +ℤ f c
sum_below_differ zero c f g h e = absurd (omega arith)
sum_below_differ (suc n) zero f g h e =
    let r = sum_below_ext n (λ b. f (suc b)) (λ b. g (suc b)) (λ b l. e (suc b) (omega arith) (λ t. omega arith)) in
    omega (arith, ints)
sum_below_differ (suc n) (suc c) f g h e =
    let r = sum_below_differ n c (λ b. f (suc b)) (λ b. g (suc b)) (omega arith) (λ b l d. e (suc b) (omega arith) (λ t. d (omega arith))) in
    let s = e 0 (omega arith) (λ t. omega arith) in
    omega (arith, ints)

pub sum_below_exchange : (n k : ℕ) (f : ℕ → ℕ → ℤ) → sum_below n (λ b. sum_below k (λ a. f a b)) ≡ sum_below k (λ a. sum_below n (f a))
sum_below_exchange zero k f = sym (sum_below_none k (λ a. pos 0) (λ a l. refl))
sum_below_exchange (suc n) k f =
    ap (λ z. sum_below k (λ a. f a 0) +ℤ z) (sum_below_exchange n k (λ a b. f a (suc b)))
    ∙ sym (sum_below_add k (λ a. f a 0) (λ a. sum_below n (λ b. f a (suc b))))
