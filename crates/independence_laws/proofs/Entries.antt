-- Two lists of terms with strictly increasing labels, reduced coefficients and the same coefficient at each label are
-- the same list.
use Rattle.std.proofs.Common.{◌&&◌}
use Rattle.std.proofs.lemmas.Bool.{and_parts}
use Rattle.sym_model.specs.Polynomial.{same}
use Rattle.sym_model.specs.WholeTerms.{same_pair}
use Rattle.sym_model.proofs.Exponents.{same_true, same_refl}
use Rattle.std.proofs.Common.{◌≡◌, ◌⊎◌, ℕ, Bool, true, false, cond, [], ◌∷◌, map, refl, sym, ap, ap₂, ◌∙◌, subst, inl}
use Rattle.std.proofs.Common.{inr, arith, ℤ, pos, ◌*ℤ◌, ◌+ℤ◌, ◌/◌}
use Rattle.std.specs.Int.{◌∣◌}
use Rattle.std.specs.Ordering.{ordering_reverse}
use Rattle.std.specs.declared.cmp.Ordering.{Ordering}
use Rattle.std.specs.declared.cmp.Ordering.TheVariants.{Less, Equal, Greater}
use Rattle.std.specs.Cmp.{IsTotalOrder}
use Rattle.std.proofs.lemmas.Cmp.{tied_itself}
use Rattle.std.proofs.lemmas.Bool.{cases_Bool}
use Rattle.std.proofs.lemmas.Int.{ints}
use Rattle.std.proofs.Math.Nat.{div-mul_cancel}
use lib.IntN.{zero-*ℤ}
use Rattle.sym_model.specs.Sum.{Among}
use Rattle.sym_model.specs.Expansion.{Fraction, Terms}
use Rattle.sym_model.specs.WholeTerms.{WholeTermsOf, coefficient_by}
use Rattle.sym_model.proofs.CanonicalLists.{StandsBefore, IsOrdered, stands_before-weaker}
use Rattle.sym_model.proofs.Ring.{product_assoc}
use Rattle.fraction_laws.specs.Fractions.{InLowestTerms}
use Rattle.fraction_laws.proofs.Fractions.{same_fraction}

-- `test` decides whether two labels are equal
pub record Decides {Label : Type 0} (test : Label → Label → Bool) : Type 0 where
  pub tells : (x y : Label) → test x y ≡ true → x ≡ y
  pub itself : (x : Label) → test x x ≡ true

pub same-decides : Decides same
same-decides = record { tells = same_true; itself = same_refl }

pub same_pair-decides : Decides same_pair
same_pair-decides = record {
  tells =
      λ x y h. let p =
      and_parts (same x.0 y.0) (same x.1 y.1) h in ap₂ (λ a b. (a, b)) (same_true x.0 y.0 p.0) (same_true x.1 y.1 p.1);
  itself = λ x. ap₂ (λ a b. a && b) (same_refl x.0) (same_refl x.1);
}

-- the coefficient of the first term with the given label; 0 if no term has it
abbrev pub entry : {Label : Type 0} → (Label → Label → Bool) → Terms Label → Label → Fraction
entry test [] label = (pos 0, 1)
entry test (t ∷ terms) label = cond (test t.0 label) t.1 (entry test terms label)

-- a/b = c/d for the fractions (a, b) and (c, d) with positive denominators
abbrev pub AreEqual : Fraction → Fraction → Type 0
AreEqual a b = a.0 *ℤ pos b.1 ≡ b.0 *ℤ pos a.1

-- the list with the coefficient of each term multiplied by q, if q is a multiple of all denominators
abbrev pub cleared_terms : {Label : Type 0} → ℕ → Terms Label → WholeTermsOf Label
cleared_terms {Label = Label} q terms = map (λ (t : Label × Fraction). (t.0, t.1.0 *ℤ pos (q / t.1.1))) terms

-- c is the coefficient if b is true, and r otherwise; w is q times r
abbrev Claim : ℕ → Fraction → ℤ → Fraction → Bool → Type 0
Claim q c w r b = (cond b (c.0 *ℤ pos (q / c.1)) (pos 0) +ℤ w) *ℤ pos (cond b c r).1 ≡ (cond b c r).0 *ℤ pos q

-- the labels are strictly increasing and have the property P; each coefficient is reduced and not 0
pub record IsGood {Label : Type 0} (order : Label → Label → Ordering) (P : Label → Type 0) (terms : Terms Label) : Type 0 where
  pub ordered : IsOrdered order terms
  pub labels : (t : Label × Fraction) → Among t terms → P t.0
  pub lowest : (t : Label × Fraction) → Among t terms → InLowestTerms t.1
  pub nonzero : (t : Label × Fraction) → Among t terms → t.1.0 ≡ pos 0 → ⊥

module _ {Label : Type 0} (order : Label → Label → Ordering) (total_order : IsTotalOrder order) (test : Label → Label → Bool) (decides : Decides test) where
  pub test-apart : (x y : Label) → (x ≡ y → ⊥) → test x y ≡ false
  test-apart x y d = elim (cases_Bool (test x y)) [ inl e ↦ absurd (d (decides.tells x y e)) | inr e ↦ e ]

  not_less_itself : (x y : Label) → order x y ≡ Less → y ≡ x → ⊥
  not_less_itself x y h e =
      let same_label : order x x ≡ Less = subst (λ z. order x z ≡ Less) e h in
      let itself = tied_itself total_order x in cc

  pub entry-absent : (label : Label) (terms : Terms Label) → StandsBefore order label terms
      → entry test terms label ≡ (pos 0, 1)
  entry-absent label [] h = refl
  entry-absent label (t ∷ terms) h =
      ap (λ b. cond b t.1 (entry test terms label)) (test-apart t.0 label (not_less_itself label t.0 h.0))
      ∙ entry-absent label terms h.1

  pub entry-first : (t : Label × Fraction) (terms : Terms Label) → entry test (t ∷ terms) t.0 ≡ t.1
  entry-first t terms = ap (λ b. cond b t.1 (entry test terms t.0)) (decides.itself t.0)

  weight-absent : (q : ℕ) (label : Label) (terms : Terms Label) → StandsBefore order label terms
      → coefficient_by test (cleared_terms q terms) label ≡ pos 0
  weight-absent q label [] h = refl
  weight-absent q label (t ∷ terms) h =
      ap₂ (λ b rest. cond b (t.1.0 *ℤ pos (q / t.1.1)) (pos 0) +ℤ rest) (test-apart t.0 label (not_less_itself label t.0 h.0)) (weight-absent q label terms h.1)

  -- q times the coefficient of the label, over its denominator
  pub weight-entry : (q : ℕ) (terms : Terms Label) (label : Label) → IsOrdered order terms
      → ((t : Label × Fraction) → Among t terms → t.1.1 ∣ q)
      → coefficient_by test (cleared_terms q terms) label *ℤ pos (entry test terms label).1 ≡ (entry test terms label).0 *ℤ pos q
  weight-entry q [] label h k = zero-*ℤ (pos 1) ∙ sym (zero-*ℤ (pos q))
  weight-entry q (t ∷ terms) label h k =
      by (cases_Bool (test t.0 label)) (weight-entry q terms label h.1 (λ u m. k u (inr m)))
    where
      first : test t.0 label ≡ true
          → (t.1.0 *ℤ pos (q / t.1.1) +ℤ coefficient_by test (cleared_terms q terms) label) *ℤ pos t.1.1 ≡ t.1.0 *ℤ pos q
      first e =
          let none : coefficient_by test (cleared_terms q terms) label ≡ pos 0 = weight-absent q label terms (subst (λ x. StandsBefore order x terms) (decides.tells t.0 label e) h.0) in
          ap (λ z. (t.1.0 *ℤ pos (q / t.1.1) +ℤ z) *ℤ pos t.1.1) none
          ∙ ap (λ z. z *ℤ pos t.1.1) (omega (arith, ints))
          ∙ product_assoc t.1.0 (pos (q / t.1.1)) (pos t.1.1)
          ∙ ap (λ n. t.1.0 *ℤ pos n) (div-mul_cancel t.1.1 (k t (inl refl)))

      by : (test t.0 label ≡ true) ⊎ (test t.0 label ≡ false)
          → coefficient_by test (cleared_terms q terms) label *ℤ pos (entry test terms label).1 ≡ (entry test terms label).0 *ℤ pos q → Claim q t.1 (coefficient_by test (cleared_terms q terms) label) (entry test terms label) (test t.0 label)
      by (inl e) later =
          subst (Claim q t.1 (coefficient_by test (cleared_terms q terms) label) (entry test terms label)) (sym e) (first e)
      by (inr e) later =
          subst (Claim q t.1 (coefficient_by test (cleared_terms q terms) label) (entry test terms label)) (sym e) (ap (λ z. z *ℤ pos (entry test terms label).1) (omega (arith, ints)) ∙ later)

  pub same_lists : (P : Label → Type 0) → ((x y : Label) → P x → P y → order x y ≡ Equal → x ≡ y)
      → (xs ys : Terms Label) → IsGood order P xs → IsGood order P ys
      → ((label : Label) → P label → AreEqual (entry test xs label) (entry test ys label)) → xs ≡ ys
  same_lists P ties [] [] g h e = refl
  same_lists P ties [] (u ∷ ys) g h e =
      let at : pos 0 *ℤ pos u.1.1 ≡ u.1.0 *ℤ pos 1 = subst (λ c. AreEqual (pos 0, 1) c) (entry-first u ys) (e u.0 (h.labels u (inl refl))) in
      absurd (h.nonzero u (inl refl) (omega (arith, ints)))
  same_lists P ties (t ∷ xs) [] g h e =
      let at : t.1.0 *ℤ pos 1 ≡ pos 0 *ℤ pos t.1.1 = subst (λ c. AreEqual c (pos 0, 1)) (entry-first t xs) (e t.0 (g.labels t (inl refl))) in
      absurd (g.nonzero t (inl refl) (omega (arith, ints)))
  same_lists P ties (t ∷ xs) (u ∷ ys) g h e =
      by (order t.0 u.0) refl (same_lists P ties xs ys (tail t xs g) (tail u ys h))
    where
      tail : (v : Label × Fraction) (zs : Terms Label) → IsGood order P (v ∷ zs) → IsGood order P zs
      tail v zs k = record { ordered = k.ordered.1; labels = λ w m. k.labels w (inr m); lowest = λ w m. k.lowest w (inr m); nonzero = λ w m. k.nonzero w (inr m) }

      before : (v w : Label × Fraction) (zs : Terms Label) → IsGood order P (w ∷ zs) → order v.0 w.0 ≡ Less
          → entry test (w ∷ zs) v.0 ≡ (pos 0, 1)
      before v w zs k less =
          entry-absent v.0 (w ∷ zs) (less, stands_before-weaker order total_order.trans v.0 w.0 zs less k.ordered.0)

      both : t.0 ≡ u.0 → t.1 ≡ u.1
      both d =
          let other : entry test (u ∷ ys) t.0 ≡ u.1 = ap (entry test (u ∷ ys)) d ∙ entry-first u ys in
          same_fraction t.1 u.1 (g.lowest t (inl refl)) (h.lowest u (inl refl))
          (subst (λ c. AreEqual t.1 c) other (subst (λ c. AreEqual c (entry test (u ∷ ys) t.0)) (entry-first t xs) (e t.0 (g.labels t (inl refl)))))

      later : t.0 ≡ u.0 → (label : Label) → P label → (test t.0 label ≡ true) ⊎ (test t.0 label ≡ false)
          → AreEqual (entry test xs label) (entry test ys label)
      later d label p (inl c) =
          let is : t.0 ≡ label = decides.tells t.0 label c in
          let a : entry test xs label ≡ (pos 0, 1) = entry-absent label xs (subst (λ x. StandsBefore order x xs) is g.ordered.0) in
          let b : entry test ys label ≡ (pos 0, 1) = entry-absent label ys (subst (λ x. StandsBefore order x ys) (sym d ∙ is) h.ordered.0) in
          subst (λ z. AreEqual z (entry test ys label)) (sym a) (subst (λ z. AreEqual (pos 0, 1) z) (sym b) refl)
      later d label p (inr c) =
          let a : entry test (t ∷ xs) label ≡ entry test xs label = ap (λ b. cond b t.1 (entry test xs label)) c in
          let f : test u.0 label ≡ false = subst (λ x. test x label ≡ false) d c in
          let b : entry test (u ∷ ys) label ≡ entry test ys label = ap (λ b. cond b u.1 (entry test ys label)) f in
          subst (λ z. AreEqual z (entry test ys label)) a (subst (λ z. AreEqual (entry test (t ∷ xs) label) z) b (e label p))

      by : (o : Ordering) → order t.0 u.0 ≡ o
          → (((label : Label) → P label → AreEqual (entry test xs label) (entry test ys label)) → xs ≡ ys)
          → t ∷ xs ≡ u ∷ ys
      by Less o rest =
          let at : t.1.0 *ℤ pos 1 ≡ pos 0 *ℤ pos t.1.1 = subst (λ c. AreEqual c (pos 0, 1)) (entry-first t xs) (subst (λ c. AreEqual (entry test (t ∷ xs) t.0) c) (before t u ys h o) (e t.0 (g.labels t (inl refl)))) in
          absurd (g.nonzero t (inl refl) (omega (arith, ints)))
      by Greater o rest =
          let less : order u.0 t.0 ≡ Less = total_order.antisymm u.0 t.0 ∙ ap ordering_reverse o in
          let at : pos 0 *ℤ pos u.1.1 ≡ u.1.0 *ℤ pos 1 = subst (λ c. AreEqual (pos 0, 1) c) (entry-first u ys) (subst (λ c. AreEqual c (entry test (u ∷ ys) u.0)) (before u t xs g less) (e u.0 (h.labels u (inl refl)))) in
          absurd (h.nonzero u (inl refl) (omega (arith, ints)))
      by Equal o rest =
          let d = ties t.0 u.0 (g.labels t (inl refl)) (h.labels u (inl refl)) o in
          ap₂ (λ v zs. v ∷ zs) (ap₂ (λ a b. (a, b)) d (both d)) (rest (λ label p. later d label p (cases_Bool (test t.0 label))))
