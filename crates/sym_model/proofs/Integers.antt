-- Integers: absolute values, products and signs, and the test `is_past` of specs/PastLimit, whether an integer exceeds
-- 2^127 - 1.
use Rattle.std.proofs.Common.{ℕ, ◌+◌, ◌+ℤ◌, arith, negsuc, pos, ℤ, ◌≤◌, inl, inr, refl, suc, zero, ◌≡◌, ◌⊎◌, ◌*ℤ◌, ◌^◌, true, neg_ℤ, ◌*◌, Bool, cond, false, ◌<◌, ◌&&◌, rules}
use Rattle.std.proofs.lemmas.Int.{ints}
use Rattle.std.specs.Prelude.{nat_abs, ◌≤ℤ◌}
use native.Mathlib.Nat.{eq_of_mul-eq-mul_right, add-mul, mul-le-mul_left}
use borrow.Author.Differences.{up, down}
use Rattle.std.proofs.Math.Nat.{mul-suc}
use Rattle.std.proofs.lemmas.Bool.{leb-true, le-leb}
use Rattle.sym_model.specs.PastLimit.{is_past}
use Rattle.sym_model.specs.PlaceOrders.{minus_one_to}

pub nat_abs-sum : (x y : ℤ) → nat_abs (x +ℤ y) ≤ nat_abs x + nat_abs y
nat_abs-sum (pos a) (pos b) = omega (arith, ints)
nat_abs-sum (pos a) (negsuc b) = omega (arith, ints)
nat_abs-sum (negsuc a) (pos b) = omega (arith, ints)
nat_abs-sum (negsuc a) (negsuc b) = omega (arith, ints)

pub zero_or_not : (z : ℤ) → (z ≡ pos 0) ⊎ (z ≡ pos 0 → ⊥)
zero_or_not (pos zero) = inl refl
zero_or_not (pos (suc n)) = inr (λ e. absurd (omega (arith, ints)))
zero_or_not (negsuc n) = inr (λ e. absurd (omega (arith, ints)))

pub product-at_least : (a b : ℤ) → pos 0 ≤ℤ a → pos 1 ≤ℤ b → a ≤ℤ (a *ℤ b)
product-at_least (pos a) (pos zero) h k = absurd (omega (arith, ints))
product-at_least (pos a) (pos (suc b)) h k = let e = mul-suc a b in omega (arith, ints)
product-at_least (pos a) (negsuc b) h k = absurd (omega (arith, ints))
product-at_least (negsuc a) b h k = absurd (omega (arith, ints))

pub product-nonnegative : (a b : ℤ) → pos 0 ≤ℤ a → pos 0 ≤ℤ b → pos 0 ≤ℤ (a *ℤ b)
product-nonnegative (pos a) (pos b) h k = omega (arith, ints)
product-nonnegative (negsuc a) b h k = absurd (omega (arith, ints))
product-nonnegative (pos a) (negsuc b) h k = absurd (omega (arith, ints))

pub is_past-tells : (z : ℤ) → is_past z ≡ true → pos (2 ^ 127) ≤ℤ z
is_past-tells (pos n) h = let l = leb-true (2 ^ 127) n h in omega (arith, ints)
is_past-tells (negsuc n) h = cc

pub is_past-from : (z : ℤ) → pos (2 ^ 127) ≤ℤ z → is_past z ≡ true
is_past-from (pos n) h = le-leb (2 ^ 127) n (omega (arith, ints))
is_past-from (negsuc n) h = absurd (omega (arith, ints))

pub nat_abs-product : (a b : ℤ) → nat_abs (a *ℤ b) ≡ nat_abs a * nat_abs b
nat_abs-product (pos m) (pos n) = omega (arith, ints)
nat_abs-product (pos m) (negsuc n) = omega (arith, ints)
nat_abs-product (negsuc m) (pos n) = omega (arith, ints)
nat_abs-product (negsuc m) (negsuc n) = omega (arith, ints)

pub cond-nonnegative : (b : Bool) (z : ℤ) → pos 0 ≤ℤ z → pos 0 ≤ℤ cond b z (pos 0)
cond-nonnegative true z h = h
cond-nonnegative false z h = omega (arith, ints)

pub times_chosen : (b : Bool) (c x : ℤ) → cond b (c *ℤ x) (pos 0) ≡ c *ℤ cond b x (pos 0)
times_chosen true c x = refl
times_chosen false c x = omega (arith, ints)

pub chosen_as_product : (b : Bool) (c : ℤ) → cond b c (pos 0) ≡ c *ℤ cond b (pos 1) (pos 0)
chosen_as_product true c = omega (arith, ints)
chosen_as_product false c = omega (arith, ints)

pub single_term : (z : ℤ) → pos 1 *ℤ z +ℤ pos 0 ≡ z
single_term z = omega (arith, ints)

pub nested_tests : (p q : Bool) (z : ℤ) → cond p (cond q z (pos 0)) (pos 0) ≡ cond (p && q) z (pos 0)
nested_tests true q z = refl
nested_tests false q z = refl

pub tests_exchanged : (p q : Bool) (z : ℤ) → cond p (cond q z (pos 0)) (pos 0) ≡ cond q (cond p z (pos 0)) (pos 0)
tests_exchanged true q z = refl
tests_exchanged false true z = refl
tests_exchanged false false z = refl

pub at_most_absolute : (z : ℤ) → z ≤ℤ pos (nat_abs z)
at_most_absolute (pos n) = omega (arith, ints)
at_most_absolute (negsuc n) = omega (arith, ints)

pub at_least_one : (z : ℤ) → pos 0 ≤ℤ z → (z ≡ pos 0 → ⊥) → pos 1 ≤ℤ z
at_least_one (pos zero) g n = absurd (n refl)
at_least_one (pos (suc a)) g n = omega (arith, ints)
at_least_one (negsuc a) g n = absurd (omega (arith, ints))

pub sum_left_comm : (x y z : ℤ) → x +ℤ (y +ℤ z) ≡ y +ℤ (x +ℤ z)
sum_left_comm x y z = omega (arith, ints)

pub le_trans_ℤ : (a b c : ℤ) → a ≤ℤ b → b ≤ℤ c → a ≤ℤ c
le_trans_ℤ a b c h k = omega (arith, ints)

-- the sign of an integer: -1 if it is negative, and 1 otherwise
abbrev pub sign_of : ℤ → ℤ
sign_of (pos n) = pos 1
sign_of (negsuc n) = negsuc 0

pub product_cancel : (x y : ℤ) (d : ℕ) → 0 < d → x *ℤ pos d ≡ y *ℤ pos d → x ≡ y
product_cancel x y d some e = search (rules, up, down, ints, add-mul, eq_of_mul-eq-mul_right)

pub product-neg_one : (c : ℤ) → c *ℤ negsuc 0 ≡ neg_ℤ c
product-neg_one c = omega (arith, ints)

pub neg_one-product : (c : ℤ) → negsuc 0 *ℤ c ≡ neg_ℤ c
neg_one-product c = omega (arith, ints)

pub pos_equal : {a b : ℕ} → pos a ≡ pos b → a ≡ b
pos_equal {a} {b} e = omega (arith, ints)

pub nothing_either : (b : Bool) → cond b (pos 0) (pos 0) ≡ pos 0
nothing_either true = refl
nothing_either false = refl

pub pos-cond : (b : Bool) (n : ℕ) → pos (cond b n 0) ≡ cond b (pos n) (pos 0)
pos-cond true n = refl
pos-cond false n = refl

pub sign_size : (n : ℕ) → nat_abs (minus_one_to n) ≡ 1
sign_size zero = refl
sign_size (suc n) = let h = sign_size n in omega (arith, ints)

pub nat_abs-multiple : (c : ℤ) (n most : ℕ) → (c ≡ pos 0 → ⊥) → most ≤ n → most ≤ nat_abs (c *ℤ pos n)
nat_abs-multiple c n most some h = search (rules, nat_abs-product, mul-le-mul_left)
