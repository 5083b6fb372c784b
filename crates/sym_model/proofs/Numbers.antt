-- Natural numbers: powers, factorials, products, and tests that compare them.
use Rattle.std.proofs.Common.{arith, nat_le, suc, ℕ, ◌≡◌, ◌⊎◌, inl, inr, ◌^◌, pow-suc, zero, ◌≤◌, ◌<◌, ◌==◌, sym, cond, nat_lt, ap, true, false, ◌*◌, List, [], ◌∷◌, Bool, ◌||◌, refl, ◌+◌, ◌∙◌, ◌&&◌, ◌-◌, rules}
use Rattle.std.proofs.lemmas.Bool.Decides.{nat_tests}
use Rattle.std.proofs.Math.Nat.{pow-zero, le_of_mul-le-mul_right}
use Rattle.std.proofs.lemmas.Bool.{eq-eqb, eqb-true, cases_lt, ne_eqb, cond_below}
use native.Mathlib.Nat.{mul-pos, mul-le-mul_left}
use Rattle.sym_model.proofs.Exponents.{tests_agree}
use Rattle.sym_model.specs.Bounded.{AreBelow}
use Rattle.sym_model.specs.BetaList.{greater}

pub positive-test : (n : ℕ) → 0 < n → (n == 0) ≡ false
positive-test n h = ne_eqb n 0 (λ e. absurd (omega arith))

pub second_false : (t : Bool) {u : Bool} → t ≡ true → (t && u) ≡ false → u ≡ false
second_false true e g = g
second_false false e g = absurd (cc)

pub zero_either : (t : Bool) {x : ℕ} → x ≡ 0 → cond t x 0 ≡ 0
zero_either true e = e
zero_either false e = refl

pub or_left_comm : (x y z : Bool) → (x || (y || z)) ≡ (y || (x || z))
or_left_comm true true z = refl
or_left_comm true false z = refl
or_left_comm false y z = refl

pub pow_next : (d : ℕ) → 2 ^ (d + 1) ≡ 2 * 2 ^ d
pow_next d = ap (λ n. 2 ^ n) (let e : d + 1 ≡ suc d = omega arith in e) ∙ (let e : 2 ^ suc d ≡ 2 * 2 ^ d = omega arith in e)

pub power-positive : (a d : ℕ) → 0 < a → 0 < a ^ d
power-positive a zero h = rw (pow-zero a) (omega arith)
power-positive a (suc d) h = rw (pow-suc a d) (mul-pos (power-positive a d h) h)

pub equal-sym : (a b : ℕ) → (a == b) ≡ (b == a)
equal-sym a b = tests_agree (a == b) (b == a) (λ e. eq-eqb b a (sym (eqb-true a b e))) (λ e. eq-eqb a b (sym (eqb-true b a e)))

pub nat_lt-suc : (a b : ℕ) → nat_lt (suc a) (suc b) ≡ nat_lt a b
nat_lt-suc a b = grind (arith, nat_tests)

pub one_before : (from r : ℕ) → from ≡ r → 1 ≤ r → from - 1 + 1 ≡ r
one_before from r e h = omega arith

pub counts-not_less : (x a : ℕ) → a ≤ x → cond {A = ℕ} (nat_lt x a) 1 0 ≡ 0
counts-not_less x a h = grind (arith, nat_tests)

pub greater_fewer : (x y : ℕ) (w : List ℕ) → y ≤ x → greater x w ≤ greater y w
greater_fewer x y [] h = omega arith
greater_fewer x y (z ∷ w) h = search (rules, cases_lt, cond_below, counts-not_less, (greater_fewer x y w h))

pub nat_le-trans : (a b c : ℕ) → nat_le a b ≡ true → nat_le b c ≡ true → nat_le a c ≡ true
nat_le-trans a b c h k = grind (arith, nat_tests)

pub not_le-trans : (a b c : ℕ) → nat_le a b ≡ false → nat_le b c ≡ false → nat_le a c ≡ false
not_le-trans a b c h k = grind (arith, nat_tests)

pub times-more : (a b : ℕ) → 0 < b → a ≤ a * b
times-more a b h = let p = mul-le-mul_left a h in omega arith

pub positive_factor : (q a m : ℕ) → q * a ≡ m → 0 < m → 0 < q
positive_factor zero a m e h = absurd (let z : 0 * a ≡ 0 = omega arith in omega arith)
positive_factor (suc q) a m e h = omega arith

pub below_more : (k l : ℕ) (w : List ℕ) → k ≤ l → AreBelow k w → AreBelow l w
below_more k l [] le h = tt
below_more k l (a ∷ w) le h = (omega (arith, h.0), below_more k l w le h.1)

pub other_factor : (a b c d : ℕ) → a * b ≡ c * d → 0 < b → b ≤ d → c ≤ a
other_factor a b c d e some h = le_of_mul-le-mul_right (let l = mul-le-mul_left c h in omega arith) some

pub grows_from_steps : (f : ℕ → ℕ) (n : ℕ) → ((i : ℕ) → i < n → f i ≤ f (suc i)) → (i j : ℕ) → i ≤ j → j ≤ n → f i ≤ f j
grows_from_steps f n step i zero h l = let z : i ≡ 0 = omega arith in omega (arith, ap f z)
grows_from_steps f n step i (suc j) h l = by (cases_lt j i) (λ g. grows_from_steps f n step i j g (omega arith))
  where
    by : (j < i) ⊎ (i ≤ j) → (i ≤ j → f i ≤ f j) → f i ≤ f (suc j)
    by (inl m) r = let e : i ≡ suc j = omega arith in omega (arith, ap f e)
    by (inr m) r = omega (arith, r m, step j (omega arith))
