-- The mass of a list of terms, which is the sum of the absolute values of its coefficients, for any type of labels: the masses of sums, of multiples
-- and of images of lists under linear maps. Also the labels of such lists, and the polynomials that lists of terms represent.
use Rattle.std.proofs.Common.{◌≡◌, ℕ, ◌+◌, ◌*◌, ◌^◌, ◌<◌, ◌≤◌, max, Bool, true, false, cond, List, [], ◌∷◌, ◌++◌, length, refl, sym, ap, ◌∙◌, subst, inl, inr, arith, ℤ, pos, ◌*ℤ◌}
use Rattle.std.specs.Prelude.{nat_abs, Result, Ok, Err, OnOk}
use Rattle.std.proofs.lemmas.Bool.{and_parts}
use Rattle.std.specs.Cmp.{IsEquivalence}
use Rattle.fraction_laws.specs.Fractions.{whole}
use Rattle.sym_model.specs.Sum.{Among}
use Rattle.sym_model.specs.Polynomial.{Poly, Same, pair, scale}
use Rattle.sym_model.specs.Expansion.{Represents, value_by}
use Rattle.sym_model.specs.ListWeight.{common_denominator, absolute_sum, list_weight}
use Rattle.sym_model.specs.Expression.{lcm}
use Rattle.sym_model.specs.WholeTerms.{WholeTermsOf, as_fractions, combined}
use Rattle.sym_model.proofs.Integers.{nat_abs-product}
use Rattle.sym_model.proofs.Polynomials.{same_from_pair, scale_respects}
use Rattle.sym_model.proofs.WholeTerms.{labels_append, labels_scaled, pair_of_combined, denominators-as_fractions, value_by-as_fractions}
use Rattle.linear_combinations.proofs.LowestTerms.{not_zero-is_reduced}
use Rattle.linear_combinations.specs.Entries.{IsCombination, HasSameCoefficients}
use Rattle.linear_combinations.specs.Gains.{over, mass, mass_at, scaled, each_with, replaced, HaveLabels, Gains, Overflows}
use Rattle.linear_combinations.proofs.Totals.{term-among, total_same}
use Rattle.linear_combinations.proofs.Gains.{mass_at_append, over_only_within, mass_at_within, gains_labels}
use native.Mathlib.Nat.{mul-le-mul_left}

pub on_both : {A E P Q R : Type 0} (r : Result A E) → OnOk r P → OnOk r Q → (P → Q → R) → OnOk r R
on_both (Ok x) h k f = f h k
on_both (Err e) h k f = tt

module _ {L : Type 0} where
  pub mass_append : (xs ys : WholeTermsOf L) → mass (xs ++ ys) ≡ mass xs + mass ys
  mass_append [] ys = omega arith
  mass_append (x ∷ xs) ys = let h = mass_append xs ys in omega arith

  pub mass_each : (a : ℤ) (xs : List L) → mass (each_with a xs) ≡ nat_abs a * length xs
  mass_each a [] = omega arith
  mass_each a (x ∷ xs) = let h = mass_each a xs in omega arith

  pub mass_scaled : (c : ℤ) (xs : WholeTermsOf L) → mass (scaled c xs) ≡ nat_abs c * mass xs
  mass_scaled c [] = omega arith
  mass_scaled c (x ∷ xs) =
      let h = mass_scaled c xs in
      let p = nat_abs-product c x.1 in
      let d : nat_abs c * (nat_abs x.1 + mass xs) ≡ nat_abs c * nat_abs x.1 + nat_abs c * mass xs = omega arith in
      omega arith

  pub mass_at_scaled : (eq : L → L → Bool) (x : L) (c : ℤ) (xs : WholeTermsOf L) → mass_at eq x (scaled c xs) ≡ nat_abs c * mass_at eq x xs
  mass_at_scaled eq x c [] = omega arith
  mass_at_scaled eq x c (t ∷ xs) = by (eq x t.0) (mass_at_scaled eq x c xs) (nat_abs-product c t.1)
    where
      by : (b : Bool) → mass_at eq x (scaled c xs) ≡ nat_abs c * mass_at eq x xs → nat_abs (c *ℤ t.1) ≡ nat_abs c * nat_abs t.1
          → cond b (nat_abs (c *ℤ t.1)) 0 + mass_at eq x (scaled c xs) ≡ nat_abs c * (cond b (nat_abs t.1) 0 + mass_at eq x xs)
      by true h p = let d : nat_abs c * (nat_abs t.1 + mass_at eq x xs) ≡ nat_abs c * nat_abs t.1 + nat_abs c * mass_at eq x xs = omega arith in omega arith
      by false h p = let d : nat_abs c * (0 + mass_at eq x xs) ≡ nat_abs c * mass_at eq x xs = omega arith in omega arith

  pub scaled_each : (c a : ℤ) (xs : List L) → scaled c (each_with a xs) ≡ each_with (c *ℤ a) xs
  scaled_each c a [] = refl
  scaled_each c a (x ∷ xs) = ap (λ l. (x, c *ℤ a) ∷ l) (scaled_each c a xs)

  pub labels_each : (P : L → Type 0) (a : ℤ) (xs : List L) → ((x : L) → Among x xs → P x) → HaveLabels P (each_with a xs)
  labels_each P a [] h t m = absurd m
  labels_each P a (x ∷ xs) h t (inl e) = subst P (sym (ap (λ (u : L × ℤ). u.0) e)) (h x (inl refl))
  labels_each P a (x ∷ xs) h t (inr m) = labels_each P a xs (λ y n. h y (inr n)) t m

  pub label_held : (eq : L → L → Bool) → ((x y : L) → eq x y ≡ true → x ≡ y) → (P : L → Type 0) (terms : WholeTermsOf L) (x : L)
      → HaveLabels P terms → 0 < mass_at eq x terms → P x
  label_held eq same P [] x h l = absurd (omega arith)
  label_held eq same P (t ∷ terms) x h l = by (eq x t.0) refl (label_held eq same P terms x (λ u m. h u (inr m))) l
    where
      by : (b : Bool) → eq x t.0 ≡ b → (0 < mass_at eq x terms → P x) → 0 < cond b (nat_abs t.1) 0 + mass_at eq x terms → P x
      by true e rest l = subst P (sym (same x t.0 e)) (h t (inl refl))
      by false e rest l = rest (omega (arith, l))

  pub overflow_mass : (eq : L → L → Bool) (old g : WholeTermsOf L) → Overflows eq old g → 2 ^ 127 ≤ mass old + mass g
  overflow_mass eq old g o =
      let l = o.1 in
      let a = over_only_within eq o.0 old in
      let b = mass_at_within eq o.0 old in
      let d = mass_at_within eq o.0 g in
      omega arith

  module _ {eq : L → L → Bool} (laws : IsEquivalence eq) (same : (x y : L) → eq x y ≡ true → x ≡ y) {is_label : L → Bool} where
    pub labels_gained : (old g new : WholeTermsOf L) → IsCombination eq is_label whole new → Gains old g new → (P : L → Type 0) → HaveLabels P old → HaveLabels P g → HaveLabels P new
    labels_gained old g new is a P hold gained =
        gains_labels laws same old g new is a P
        (λ t m e. not_zero-is_reduced (whole t.1) (and_parts _ _ (term-among is_label whole new is.proper t m)).0 (ap whole e)) hold gained

    pub over_same : (first second : WholeTermsOf L) → IsCombination eq is_label whole first → IsCombination eq is_label whole second → HasSameCoefficients eq (pos 0) first second
        → (φ : L → ℤ) → over φ first ≡ over φ second
    over_same first second is also equal φ = total_same laws same (pos 0) whole refl first second is also (λ (t : L × ℤ). t.1 *ℤ φ t.0) equal

  pub represents_sums : (polynomial : L → Poly) (terms : WholeTermsOf L) (f : Poly) → ((φ : List ℕ → ℤ) → over (λ x. pair (polynomial x) φ) terms ≡ pair f φ)
      → Represents polynomial (as_fractions terms) f 1
  represents_sums polynomial terms f h =
      let e : Same (combined polynomial terms) f = same_from_pair (combined polynomial terms) f (λ φ. pair_of_combined polynomial terms φ ∙ h φ) in
      record {
        positive = omega (arith, denominators-as_fractions terms);
        equal = subst
            (λ d. Same (scale (pos 1) (value_by polynomial (as_fractions terms))) (scale (pos d) f))
            (sym (denominators-as_fractions terms))
            (scale_respects (pos 1) (value_by polynomial (as_fractions terms)) f (subst (λ g. Same g f) (sym (value_by-as_fractions polynomial terms)) e));
      }

  common_one : (terms : WholeTermsOf L) → common_denominator (as_fractions terms) ≡ 1
  common_one [] = refl
  common_one (t ∷ terms) = ap (lcm 1) (common_one terms)

  absolute_mass : (terms : WholeTermsOf L) → absolute_sum 1 (as_fractions terms) ≡ mass terms
  absolute_mass [] = refl
  absolute_mass (t ∷ terms) = let r = absolute_mass terms in omega arith

  pub weight_is : (terms : WholeTermsOf L) → list_weight (as_fractions terms) ≡ max 1 (mass terms)
  weight_is terms =
      ap (λ d. max 1 (absolute_sum d (as_fractions terms)) * d) (common_one terms) ∙ ap (λ a. max 1 a * 1) (absolute_mass terms) ∙ (let m : max 1 (mass terms) * 1 ≡ max 1 (mass terms) = omega arith in m)

  pub weight_grows : (list product : WholeTermsOf L) (most : ℕ) → 1 ≤ most → mass product ≤ mass list * most → list_weight (as_fractions product) ≤ list_weight (as_fractions list) * most
  weight_grows list product most h l =
      let a = weight_is list in
      let b = weight_is product in
      let p = by (mass list) (mass product) l in
      let q = ap (λ n. n * most) a in
      omega arith
    where
      by : (a b : ℕ) → b ≤ a * most → max 1 b ≤ max 1 a * most
      by a b l =
          let x : a ≤ max 1 a = omega arith in
          let y : 1 ≤ max 1 a = omega arith in
          let m = mul-le-mul_left most x in
          let n = mul-le-mul_left most y in
          omega arith

module _ {K L : Type 0} (image : K → WholeTermsOf L) where
  pub labels_replaced : (P : L → Type 0) (terms : WholeTermsOf K) → ((t : K × ℤ) → Among t terms → HaveLabels P (image t.0)) → HaveLabels P (replaced image terms)
  labels_replaced P [] h t m = absurd m
  labels_replaced P (u ∷ terms) h t m =
      labels_append P (scaled u.1 (image u.0)) (replaced image terms) (labels_scaled P u.1 (image u.0) (h u (inl refl))) (labels_replaced P terms (λ v n. h v (inr n))) t m

  pub mass_replaced : (most : ℕ) (terms : WholeTermsOf K) → ((t : K × ℤ) → Among t terms → mass (image t.0) ≤ most) → mass (replaced image terms) ≤ mass terms * most
  mass_replaced most [] h = omega arith
  mass_replaced most (u ∷ terms) h =
      let a = mass_append (scaled u.1 (image u.0)) (replaced image terms) in
      let b = mass_scaled u.1 (image u.0) in
      let r = mass_replaced most terms (λ v n. h v (inr n)) in
      let m = mul-le-mul_left (nat_abs u.1) (h u (inl refl)) in
      let s : (nat_abs u.1 + mass terms) * most ≡ nat_abs u.1 * most + mass terms * most = omega arith in
      omega arith

  pub mass_at_replaced : (eq : L → L → Bool) (x : L) (terms : WholeTermsOf K) → ((t : K × ℤ) → Among t terms → mass_at eq x (image t.0) ≤ 1) → mass_at eq x (replaced image terms) ≤ mass terms
  mass_at_replaced eq x [] h = omega arith
  mass_at_replaced eq x (u ∷ terms) h =
      let a = mass_at_append eq x (scaled u.1 (image u.0)) (replaced image terms) in
      let b = mass_at_scaled eq x u.1 (image u.0) in
      let r = mass_at_replaced eq x terms (λ v n. h v (inr n)) in
      let m = mul-le-mul_left (nat_abs u.1) (h u (inl refl)) in
      omega arith
