-- Lists of labels whose coefficients are the values of a function at the labels (`each_by`), and lists in which no coefficient is negative.
--     each_by-over, -labels, -append    the sum Σ c·φ(label) for a list made by `each_by`, its labels, and the list for xs ++ ys
--     counted_counts                    coefficients that are natural numbers are not negative
--     counts_gain                       suppose that Σ c·φ(label) is the same for the lists g and h, for every φ. If a list is `old` plus a multiple
--                                       of g, then it is `old` plus the same multiple of h
--     counts_overflow                   suppose moreover that g and h have no negative coefficient. If adding a multiple of g to `old` overflows,
--                                       then so does adding the same multiple of h
--     replaced_at, replaced_mass        the image of a list under a linear map whose value at each label is known
use Rattle.std.proofs.Common.{◌≡◌, ℕ, ◌+◌, ◌*◌, Bool, List, [], ◌∷◌, ◌++◌, refl, sym, ap, ap₂, ◌∙◌, subst, inl, inr, arith, ℤ, pos, ◌+ℤ◌, ◌*ℤ◌}
use Rattle.std.specs.Prelude.{nat_abs, ◌≤ℤ◌}
use Rattle.std.proofs.lemmas.Int.{ints}
use Rattle.std.proofs.lemmas.List.{map-append}
use Rattle.sym_model.specs.Sum.{total, Among}
use Rattle.sym_model.specs.WholeTerms.{AreCounts}
use Rattle.sym_model.proofs.Sums.{total_map, total_among, Among_from_map}
use Rattle.linear_combinations.specs.Gains.{WholeTermsOf, over, only, mass_at, scaled, each_by, counted, replaced, HaveLabels, Gains, Overflows}
use Rattle.linear_combinations.proofs.Gains.{scaled_over, scaled_append, replaced_over, gains_as, overflows_as, mass_at_append}
use Rattle.linear_combinations.proofs.Masses.{mass_at_scaled}
use Rattle.linear_combinations.proofs.Found.{counts_at}
use Rattle.sym_model.proofs.Integers.{pos_equal}

module _ {L : Type 0} (coefficient : L → ℤ) where
  pub each_by-over : (φ : L → ℤ) (labels : List L) → over φ (each_by coefficient labels) ≡ total (λ (x : L). coefficient x *ℤ φ x) labels
  each_by-over φ labels = total_map (λ (t : L × ℤ). t.1 *ℤ φ t.0) (λ (x : L). (x, coefficient x)) labels

  pub each_by-labels : (P : L → Type 0) (labels : List L) → ((x : L) → Among x labels → P x) → HaveLabels P (each_by coefficient labels)
  each_by-labels P labels h t m =
      let r = Among_from_map (λ (x : L). (x, coefficient x)) t labels m in
      subst (λ (u : L × ℤ). P u.0) (sym r.2) (h r.0 r.1)

  pub each_by-append : (xs ys : List L) → each_by coefficient (xs ++ ys) ≡ each_by coefficient xs ++ each_by coefficient ys
  each_by-append xs ys = map-append (λ (x : L). (x, coefficient x)) xs ys

  pub scaled_each_by-append : (c : ℤ) (xs ys : List L) → scaled c (each_by coefficient (xs ++ ys)) ≡ scaled c (each_by coefficient xs) ++ scaled c (each_by coefficient ys)
  scaled_each_by-append c xs ys = ap (scaled c) (each_by-append xs ys) ∙ scaled_append c (each_by coefficient xs) (each_by coefficient ys)

pub counted_counts : {L : Type 0} (count : L → ℕ) (labels : List L) → AreCounts (counted count labels)
counted_counts {L} count labels t m =
    let r = Among_from_map (λ (x : L). (x, pos (count x))) t labels m in
    subst (λ (u : L × ℤ). pos 0 ≤ℤ u.1) (sym r.2) (omega (arith, ints))

module _ {L : Type 0} (g h : WholeTermsOf L) (same : (φ : L → ℤ) → over φ g ≡ over φ h) where
  pub counts_gain : (c : ℤ) (old new : WholeTermsOf L) → Gains old (scaled c g) new → Gains old (scaled c h) new
  counts_gain c old new a =
      gains_as old (scaled c g) (scaled c h) new (λ φ. scaled_over c φ g ∙ ap (λ z. c *ℤ z) (same φ) ∙ sym (scaled_over c φ h)) a

  pub counts_overflow : (eq : L → L → Bool) (c : ℤ) (old : WholeTermsOf L) → AreCounts g → AreCounts h → Overflows eq old (scaled c g) → Overflows eq old (scaled c h)
  counts_overflow eq c old p q o =
      overflows_as eq old (scaled c g) (scaled c h)
      (λ x.
      let a = mass_at_scaled eq x c g in
      let b = mass_at_scaled eq x c h in
      let e = ap (λ n. nat_abs c * n) (pos_equal (sym (counts_at eq x g p) ∙ same (only eq x) ∙ counts_at eq x h q)) in
      omega arith) o

module _ {K L : Type 0} (image : K → WholeTermsOf L) (value : K → ℤ) where
  pub replaced_at : (φ : L → ℤ) (terms : WholeTermsOf K) → ((t : K × ℤ) → Among t terms → over φ (image t.0) ≡ value t.0)
      → over φ (replaced image terms) ≡ over value terms
  replaced_at φ terms h =
      replaced_over image φ terms
      ∙ total_among (λ (t : K × ℤ). t.1 *ℤ over φ (image t.0)) (λ (t : K × ℤ). t.1 *ℤ value t.0) terms (λ t m. ap (λ z. t.1 *ℤ z) (h t m))

  pub replaced_mass : (eq : L → L → Bool) (x : L) (terms : WholeTermsOf K) → ((k : K) → AreCounts (image k))
      → ((t : K × ℤ) → Among t terms → over (only eq x) (image t.0) ≡ value t.0)
      → pos (mass_at eq x (replaced image terms)) ≡ total (λ (t : K × ℤ). pos (nat_abs t.1) *ℤ value t.0) terms
  replaced_mass eq x [] counts h = refl
  replaced_mass eq x (t ∷ terms) counts h =
      joined (nat_abs t.1) (mass_at eq x (image t.0)) (mass_at eq x (replaced image terms))
      (mass_at_append eq x (scaled t.1 (image t.0)) (replaced image terms)) (mass_at_scaled eq x t.1 (image t.0))
      ∙ ap₂ (λ (y z : ℤ). pos (nat_abs t.1) *ℤ y +ℤ z) (sym (counts_at eq x (image t.0) (counts t.0)) ∙ h t (inl refl))
      (replaced_mass eq x terms counts (λ u m. h u (inr m)))
    where
      joined : (b m r : ℕ) {s a : ℕ} → s ≡ a + r → a ≡ b * m → pos s ≡ pos b *ℤ pos m +ℤ pos r
      joined b m r {s} {a} e d = omega (arith, ints)
