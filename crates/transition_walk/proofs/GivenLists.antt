-- The sum of two lists of terms (label, c), computed by adding the shorter list to the longer one.
use Rattle.std.proofs.Common.{◌≡◌, ◌+◌, Bool, true, false, cond, [], ◌∷◌, refl, ap, ap₂, ◌∙◌, arith, ℤ, pos, ◌+ℤ◌, ◌*ℤ◌}
use Rattle.std.specs.Prelude.{Option, nat_abs}
use Rattle.std.specs.Cmp.{IsEquivalence}
use Rattle.std.specs.List.{IsDistinct}
use Rattle.std.specs.Map.{keys_of}
use Rattle.std.specs.Option.{unwrap_or}
use Rattle.std.proofs.lemmas.Int.{ints}
use Rattle.std.proofs.lemmas.Map.{lookup-none}
use Rattle.std.proofs.lemmas.Map.Keys.{IsDistinct-tail}
use Rattle.std.proofs.lemmas.Map.Entries.{none_past_head}
use Rattle.fraction_laws.specs.Fractions.{whole}
use Rattle.sym_model.proofs.Ring.{product-one}
use Rattle.linear_combinations.specs.Entries.{IsCombination}
use Rattle.linear_combinations.specs.Gains.{WholeTermsOf, over, only, mass_at, Gains, Overflows}
use Rattle.linear_combinations.proofs.Gains.{over_at, over_only_within}
use lib.IntN.{+ℤ_idr, *ℤ-zero}

pub given_gains : {L : Type 0} (sum list longer shorter new : WholeTermsOf L) → shorter ≡ sum → longer ≡ list → Gains longer shorter new → Gains sum list new
given_gains sum list longer shorter new first second h =
    record { sums = λ φ. let a = h.sums φ in let b = ap (over φ) first in let d = ap (over φ) second in omega (arith, ints) }

module _ {L : Type 0} {eq : L → L → Bool} (laws : IsEquivalence eq) (same : (x y : L) → eq x y ≡ true → x ≡ y) where
  mass_once : (x : L) (terms : WholeTermsOf L) → IsDistinct eq (keys_of terms) → mass_at eq x terms ≡ nat_abs (over (only eq x) terms)
  mass_once x [] distinct = refl
  mass_once x (t ∷ terms) distinct = by (eq x t.0) refl (mass_once x terms (IsDistinct-tail eq t.0 (keys_of terms) distinct))
    where
      by : (b : Bool) → eq x t.0 ≡ b → mass_at eq x terms ≡ nat_abs (over (only eq x) terms)
          → cond b (nat_abs t.1) 0 + mass_at eq x terms ≡ nat_abs (t.1 *ℤ cond b (pos 1) (pos 0) +ℤ over (only eq x) terms)
      by true p r =
          let none = lookup-none (eq x) terms (none_past_head laws x t terms distinct p) in
          let zero : over (only eq x) terms ≡ pos 0 =
          over_at laws same terms (IsDistinct-tail eq t.0 (keys_of terms) distinct) x ∙ ap (λ (o : Option ℤ). unwrap_or o (pos 0)) none in
          let a : mass_at eq x terms ≡ 0 = r ∙ ap nat_abs zero in
          let d : nat_abs (t.1 *ℤ pos 1 +ℤ over (only eq x) terms) ≡ nat_abs t.1 = ap nat_abs (ap₂ (λ u v. u +ℤ v) (product-one t.1) zero ∙ +ℤ_idr t.1) in
          omega arith
      by false p r =
          let d : nat_abs (t.1 *ℤ pos 0 +ℤ over (only eq x) terms) ≡ nat_abs (over (only eq x) terms) =
          ap nat_abs (ap (λ z. z +ℤ over (only eq x) terms) (*ℤ-zero t.1) ∙ (let e : pos 0 +ℤ over (only eq x) terms ≡ over (only eq x) terms = omega (arith, ints) in e)) in
          omega arith

  pub given_overflow : {is_label : L → Bool} (sum list longer shorter : WholeTermsOf L) → shorter ≡ sum → longer ≡ list → IsCombination eq is_label whole sum
      → Overflows eq longer shorter → Overflows eq sum list
  given_overflow sum list longer shorter first second is o =
      let l = o.1 in
      let a = over_only_within eq o.0 list in
      let b = mass_once o.0 sum is.distinct in
      let d = ap (mass_at eq o.0) first in
      let e = ap (λ (l : WholeTermsOf L). nat_abs (over (only eq o.0) l)) second in
      (o.0, omega arith)
