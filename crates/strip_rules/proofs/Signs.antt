-- The signs of rim hooks by their heights.
--     signed_one, _odd, _even     a coefficient times the sign of a height
--     negation_large              a negation overflows only if the coefficient is too large
--     height_here                 the height that an iterator of rim hooks returns is that of its current partition
use Rattle.std.proofs.Common.{◌≡◌, ◌⊎◌, ℕ, ◌-◌, ◌/◌, ◌%◌, ◌^◌, ◌<◌, ◌≤◌, inl, inr, refl, sym, ap, ◌∙◌, subst, arith, pos, neg_ℤ, unsigned_abs}
use Rattle.std.specs.Prelude.{◌≢◌, List, Option, Some, None, IfSome}
use Rattle.std.proofs.Math.Nat.{div-le_of_le-mul}
use Rattle.std.proofs.lemmas.Bool.{cases_lt}
use Rattle.sym_model.specs.PlaceOrders.{minus_one_to}
use Rattle.sym_model.specs.Strip.{height}
use Rattle.sym_model.specs.Expansion.{Fraction}
use Rattle.beta_list_laws.proofs.NeighbourExchanges.{parity_of}
use Rattle.fraction_laws.specs.Room.{magnitude}
use Rattle.fraction_laws.specs.Answers.{AnswersNegation}
use Rattle.fraction_laws.proofs.Divisors.{quotient_positive}
use Rattle.linear_combinations.specs.Cleared.{IsDenominator}
use Rattle.strip_rules.specs.Adding.{IsSigned}
use Rattle.sym_model.proofs.Ring.{product-one, product-negation, negation-product}
use Rattle.fraction_laws.specs.Fractions.{scaled, fraction_negation}
use native.Mathlib.Nat.{mul-le-mul_left}

pub signed_one : (c : Fraction) → IsSigned c (pos 1) c
signed_one c = record { denominator = refl; value = λ q. sym (product-one (scaled q c)) }

pub signed_odd : (h : ℕ) (c : Fraction) → h % 2 ≡ 1 → IsSigned c (minus_one_to (h - 1)) c
signed_odd h c e = elim (parity_of (h - 1)) [
  | inl p ↦ subst (λ s. IsSigned c s c) (sym p.1) (signed_one c)
  | inr p ↦ absurd (let m = p.0 in omega arith)
]

pub signed_even : (h : ℕ) (c d : Fraction) → 1 ≤ h → h % 2 ≢ 1 → d ≡ fraction_negation c → IsSigned c (minus_one_to (h - 1)) d
signed_even h c d l e f = elim (parity_of (h - 1)) [
  | inl p ↦ absurd (e (let m = p.0 in omega arith))
  | inr p ↦ subst (λ s. IsSigned c s d) (sym p.1) negated
]
  where
    negated : IsSigned c (neg_ℤ (pos 1)) d
    negated = record {
      denominator = ap (λ (r : Fraction). r.1) f;
      value =
          λ q.
          ap (scaled q) f
          ∙ negation-product c.0 (pos (q / c.1))
          ∙ ap neg_ℤ (sym (product-one (scaled q c)))
          ∙ sym (product-negation (scaled q c) (pos 1));
    }

-- if the negation of a coefficient c overflows in the ring of coefficients (the result is None), then |q·c| is at least 2^127 for each common
-- denominator q of c
pub negation_large : {R : Type 0} (value : R → Fraction) (c : R) → AnswersNegation value c None → (q : ℕ) → IsDenominator q (value c) → 2 ^ 127 ≤ magnitude q (value c)
negation_large value c answers q d = by (cases_lt (magnitude (value c).1 (value c)) (2 ^ 127))
  where
    by : (magnitude (value c).1 (value c) < 2 ^ 127) ⊎ (2 ^ 127 ≤ magnitude (value c).1 (value c)) → 2 ^ 127 ≤ magnitude q (value c)
    by (inl l) = let some = answers.room l in cc
    by (inr l) =
        let one = div-le_of_le-mul (value c).1 {m = (value c).1} {n = 1} (omega arith) in
        let more = quotient_positive q (value c).1 d.positive d.multiple in
        let x = mul-le-mul_left (unsigned_abs (value c).0) one in
        let y = mul-le-mul_left (unsigned_abs (value c).0) (let o : 1 ≤ q / (value c).1 = omega arith in o) in
        omega arith

-- if an iterator over the rim hooks added to `base` returns the partition `label`, and `high` is the height that it then returns, then `high` is the
-- height of label/base
pub height_here : (item : Option (List ℕ)) (now base label : List ℕ) → (high : ℕ) → IfSome item (λ ν. high ≡ height ν now) → item ≡ Some label → now ≡ base → high ≡ height label base
height_here item now base label high h e b =
    subst (λ o. IfSome o (λ ν. high ≡ height ν now)) e h ∙ ap (height label) b
