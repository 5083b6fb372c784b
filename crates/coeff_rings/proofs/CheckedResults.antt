-- Results of checked operations on integers of 128 bits: the exact integer if it fits in 128 bits, and otherwise None or an error.
use Rattle.std.proofs.Common.{◌≡◌, ℕ, ◌%◌, ◌^◌, ◌≤◌, Bool, true, false, sym, ap, ◌∙◌, refl, subst, arith, ℤ, neg_ℤ, ◌*ℤ◌}
use Rattle.std.proofs.lemmas.Int.{ints}
use Rattle.std.specs.Prelude.{Option, Some, None, Result, MatchOption, MatchResult, nat_abs}
use Rattle.std.specs.Option.{ok_or}
use Rattle.fraction_laws.specs.Checked.{checked_i128, where_fits}
use Rattle.coeff_rings.proofs.Sizes.{refused_size}
use Rattle.sym_model.specs.Canonical.{fits_128_bits}
use Rattle.sym_model.specs.PlaceOrders.{minus_one_to}
use Rattle.sym_model.proofs.Signs.{odd_sign}

pub checked-tells : (z : ℤ) → MatchOption (checked_i128 z) (2 ^ 127 ≤ nat_abs z) (λ w. w ≡ z)
checked-tells z = by (fits_128_bits z) refl
  where
    by : (b : Bool) → fits_128_bits z ≡ b → MatchOption (where_fits b z) (2 ^ 127 ≤ nat_abs z) (λ w. w ≡ z)
    by true e = refl
    by false e = refused_size z (ap (λ b. where_fits b z) e)

-- let r be `Ok z` if the integer z fits in 128 bits, and otherwise the error e: if r is an `Ok`, its value is z, and
-- if r is an error, then |z| ≥ 2^127
pub checked-answers : {E : Type 0} (z : ℤ) (o : Option ℤ) (e : E) (r : Result ℤ E) → o ≡ checked_i128 z → r ≡ ok_or o e
    → MatchResult r (λ w. w ≡ z) (λ _. 2 ^ 127 ≤ nat_abs z)
checked-answers {E} z o e r is answer =
    subst (λ s. MatchResult s (λ w. w ≡ z) (λ _. 2 ^ 127 ≤ nat_abs z)) (sym answer)
    (by o (subst (λ p. MatchOption p (2 ^ 127 ≤ nat_abs z) (λ w. w ≡ z)) (sym is) (checked-tells z)))
  where
    by : (p : Option ℤ) → MatchOption p (2 ^ 127 ≤ nat_abs z) (λ w. w ≡ z) → MatchResult (ok_or p e) (λ w. w ≡ z) (λ _. 2 ^ 127 ≤ nat_abs z)
    by None h = h
    by (Some w) h = h

-- for odd m: if -z fits in 128 bits, it is (-1)^m·z; otherwise |z| ≥ 2^127
pub negated_number : (m : ℕ) (z : ℤ) (o : Option ℤ) → o ≡ checked_i128 (neg_ℤ z) → (m % 2 ≡ 0 → ⊥) → MatchOption o (2 ^ 127 ≤ nat_abs z) (λ v. v ≡ minus_one_to m *ℤ z)
negated_number m z o h n = by o (subst (λ p. MatchOption p (2 ^ 127 ≤ nat_abs (neg_ℤ z)) (λ w. w ≡ neg_ℤ z)) (sym h) (checked-tells (neg_ℤ z)))
  where
    by : (p : Option ℤ) → MatchOption p (2 ^ 127 ≤ nat_abs (neg_ℤ z)) (λ w. w ≡ neg_ℤ z) → MatchOption p (2 ^ 127 ≤ nat_abs z) (λ v. v ≡ minus_one_to m *ℤ z)
    by None r = omega (arith, ints)
    by (Some v) r = r ∙ odd_sign m z n
