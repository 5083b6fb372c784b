-- Powers of -1: the product of two of them is the power whose exponent is the sum of the exponents; a power is 1 if its exponent is even, and -1 if
-- it is odd.
use Rattle.std.proofs.Common.{◌≡◌, ℕ, zero, suc, ◌+◌, ◌%◌, ◌==◌, cond, refl, sym, ◌∙◌, ap, arith, pos, negsuc, ℤ, ◌*ℤ◌, neg_ℤ, rules}
use Rattle.std.proofs.lemmas.Int.{ints}
use Rattle.std.proofs.lemmas.Bool.{cases_eq, eq-eqb, ne_eqb}
use Rattle.sym_model.specs.PlaceOrders.{minus_one_to}
use Rattle.sym_model.proofs.Integers.{neg_one-product}
use Rattle.sym_model.proofs.Ring.{one-product, negation-product}

pub minus_one_to_add : (a b : ℕ) → minus_one_to (a + b) ≡ minus_one_to a *ℤ minus_one_to b
minus_one_to_add zero b = let e : 0 + b ≡ b = omega arith in ap minus_one_to e ∙ sym (one-product (minus_one_to b))
minus_one_to_add (suc a) b =
    let e : suc a + b ≡ suc (a + b) = omega arith in
    ap minus_one_to e ∙ ap neg_ℤ (minus_one_to_add a b) ∙ sym (negation-product (minus_one_to a) (minus_one_to b))

twice : (k : ℕ) → minus_one_to (suc (suc k)) ≡ minus_one_to k
twice k = omega (arith, ints)

pub sign-even : (k : ℕ) → k % 2 ≡ 0 → minus_one_to k ≡ pos 1
sign-even zero h = refl
sign-even (suc zero) h = absurd (let e : 1 % 2 ≡ 1 = refl in omega arith)
sign-even (suc (suc k)) h = twice k ∙ sign-even k (omega arith)

pub sign-odd : (k : ℕ) → k % 2 ≡ 1 → minus_one_to k ≡ negsuc 0
sign-odd zero h = absurd (let e : 0 % 2 ≡ 0 = refl in omega arith)
sign-odd (suc zero) h = refl
sign-odd (suc (suc k)) h = twice k ∙ sign-odd k (omega arith)

pub sign-parity : (k : ℕ) → minus_one_to k ≡ cond (k % 2 == 1) (negsuc 0) (pos 1)
sign-parity k = search (rules, cases_eq, sign-odd, eq-eqb, sign-even, ne_eqb)

pub even_sign : (m : ℕ) (z : ℤ) → m % 2 ≡ 0 → z ≡ minus_one_to m *ℤ z
even_sign m z h = sym (ap (λ s. s *ℤ z) (sign-even m h) ∙ one-product z)

pub odd_sign : (m : ℕ) (z : ℤ) → (m % 2 ≡ 0 → ⊥) → neg_ℤ z ≡ minus_one_to m *ℤ z
odd_sign m z n = sym (ap (λ s. s *ℤ z) (sign-odd m (omega (arith, n))) ∙ neg_one-product z)
