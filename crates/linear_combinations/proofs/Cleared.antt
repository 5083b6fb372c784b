-- Terms added to a table, a list of labels with fractions as coefficients, by several additions, one after another. `GainsCleared` of specs/Cleared
-- states that q·new = q·old + (the added terms), where q is a common denominator.
use Rattle.std.proofs.Common.{◌≡◌, ℕ, ◌*◌, Bool, List, [], ◌∷◌, ◌++◌, refl, sym, ap, ◌∙◌, subst}
use Rattle.std.proofs.Common.{arith, ℤ}
use Rattle.std.specs.Int.{◌∣◌}
use Rattle.sym_model.specs.Expansion.{Fraction, Terms}
use Rattle.sym_model.specs.Sum.{Among}
use Rattle.linear_combinations.specs.Gains.{WholeTermsOf, over}
use Rattle.linear_combinations.specs.Cleared.{IsDenominator, IsCommonDenominator, numerators_over}
use Rattle.linear_combinations.specs.Cleared.{AreCleared, GainsCleared, OverflowsCleared}
use Rattle.linear_combinations.proofs.Gains.{gains_none, gains_as, gains_both, pairs_overflow}
use native.Mathlib.Nat.{dvd-mul_left}

pub denominator_among : {L : Type 0} {q : ℕ} {terms : Terms L} → IsCommonDenominator q terms
    → (t : L × Fraction) → Among t terms → IsDenominator q t.1
denominator_among common t m = record {
  positive = common.positive;
  multiple = common.multiple t m;
}

pub AreCleared-nothing : {L : Type 0} (eq : L → L → Bool) (q : ℕ) → AreCleared eq q []
AreCleared-nothing eq q label =
    subst (λ n. 1 ∣ n) (let m : q * 1 ≡ q = omega arith in m) (dvd-mul_left 1 q)

module _ {L : Type 0} {eq : L → L → Bool} {is_label : L → Bool} (q : ℕ) (old : Terms L) where
  pub Gains-none : AreCleared eq q old → GainsCleared eq is_label q old [] old
  Gains-none cleared = record {
    table = λ is. is;
    cleared = cleared;
    gains = gains_none (numerators_over q old);
  }

  pub Gains-as : (g h : WholeTermsOf L) (new : Terms L) → ((φ : L → ℤ) → over φ g ≡ over φ h)
      → GainsCleared eq is_label q old g new → GainsCleared eq is_label q old h new
  Gains-as g h new e a = record {
    table = a.table;
    cleared = a.cleared;
    gains = gains_as (numerators_over q old) g h (numerators_over q new) e a.gains;
  }

  pub Gains-both : (g : WholeTermsOf L) (mid : Terms L) (h : WholeTermsOf L) (new : Terms L)
      → GainsCleared eq is_label q old g mid → GainsCleared eq is_label q mid h new
      → GainsCleared eq is_label q old (g ++ h) new
  Gains-both g mid h new a b = record {
    table = λ is. b.table (a.table is);
    cleared = b.cleared;
    gains =
        gains_both (numerators_over q old) g (numerators_over q mid) h (numerators_over q new)
        a.gains b.gains;
  }

-- one more step of a loop that adds the terms gained(p ∷ []) of each element p, where gained(xs ++ ys) = gained(xs) ++ gained(ys). If q·cur is q·old
-- plus gained(done), adding gained(p ∷ []) to q·cur gives q·old plus gained(done ++ p ∷ []). If this addition overflows, so does adding the terms of
-- a whole list that begins with `done` and p to q·old
module _ {A L : Type 0} (gained : List A → WholeTermsOf L)
    (pieces : (xs ys : List A) → gained (xs ++ ys) ≡ gained xs ++ gained ys)
    {eq : L → L → Bool} {is_label : L → Bool} (q : ℕ) (done : List A) (p : A) (old cur : Terms L)
    (so_far : GainsCleared eq is_label q old (gained done) cur) where
  pub Gains-next : (next : List A) (new : Terms L) → done ++ p ∷ [] ≡ next
      → GainsCleared eq is_label q cur (gained (p ∷ [])) new
      → GainsCleared eq is_label q old (gained next) new
  Gains-next next new pushed more =
      subst (λ l. GainsCleared eq is_label q old l new)
      (sym (pieces done (p ∷ [])) ∙ ap gained pushed)
      (Gains-both q old (gained done) cur (gained (p ∷ [])) new so_far more)

  pub Overflows-next : (rest : List A) → OverflowsCleared eq q cur (gained (p ∷ []))
      → OverflowsCleared eq q old (gained (done ++ p ∷ rest))
  Overflows-next rest large =
      pairs_overflow gained pieces done p (numerators_over q old) (numerators_over q cur)
      so_far.gains eq rest (done ++ p ∷ rest) refl large
