-- Two good lists that represent the same polynomial in a linearly independent family are the same list.
use Rattle.std.proofs.Common.{◌≡◌, ℕ, Bool, cond, [], ◌∷◌, ◌++◌, refl, sym, ap, ap₂, ◌∙◌, subst, inl, inr, arith, ℤ}
use Rattle.std.proofs.Common.{pos, ◌*ℤ◌, ◌+ℤ◌, neg_ℤ, ◌/◌, ◌*◌, ◌<◌}
use Rattle.std.specs.Int.{◌∣◌}
use Rattle.std.specs.declared.cmp.Ordering.{Ordering}
use Rattle.std.specs.declared.cmp.Ordering.TheVariants.{Equal}
use Rattle.std.specs.Cmp.{IsTotalOrder}
use Rattle.std.proofs.lemmas.Int.{ints}
use native.Mathlib.Nat.{dvd-mul_left_of_dvd, dvd-mul_right, mul-pos}
use Rattle.independence_laws.specs.Independence.{AreIndependent}
use Rattle.sym_model.specs.Sum.{Among, total}
use Rattle.sym_model.specs.Polynomial.{Poly, Same, coefficient, nothing, plus, scale}
use Rattle.sym_model.specs.Expansion.{Fraction, Terms, denominators, cleared, value_by, Represents}
use Rattle.sym_model.specs.WholeTerms.{WholeTermsOf, coefficient_by, combined, HaveLabels}
use Rattle.sym_model.proofs.Ring.{ring, product_assoc, product_left_comm, negation-product}
use Rattle.sym_model.proofs.Integers.{product_cancel}
use Rattle.sym_model.proofs.Sums.{total_append}
use Rattle.sym_model.proofs.Polynomials.{coefficient_scale}
use Rattle.sym_model.proofs.WholeTerms.{coefficient_of_combined, labels_append, labels_map, labels_scaled}
use Rattle.independence_laws.proofs.Entries.{Decides, entry, AreEqual, cleared_terms, IsGood, weight-entry}
use Rattle.independence_laws.proofs.Entries.{same_lists}
use Rattle.independence_laws.proofs.ScaledLists.{total_of_scaled, coefficient_of_scaled}

pub cleared-combined : {Label : Type 0} (polynomial : Label → Poly) (q : ℕ) (terms : Terms Label)
    → cleared polynomial q terms ≡ combined polynomial (cleared_terms q terms)
cleared-combined polynomial q [] = refl
cleared-combined polynomial q (t ∷ terms) =
    ap (plus (scale (t.1.0 *ℤ pos (q / t.1.1)) (polynomial t.0))) (cleared-combined polynomial q terms)

pub divides-denominators : {Label : Type 0} (terms : Terms Label) (t : Label × Fraction) → Among t terms
    → t.1.1 ∣ denominators terms
divides-denominators [] t m = absurd m
divides-denominators {Label = Label} (u ∷ terms) t (inl e) =
    subst (λ (v : Label × Fraction). v.1.1 ∣ denominators (u ∷ terms)) (sym e) (dvd-mul_right u.1.1 (denominators terms))
divides-denominators (u ∷ terms) t (inr m) = dvd-mul_left_of_dvd t.1.1 (divides-denominators terms t m) u.1.1

cross : (w v n m e k D E d : ℤ) → (E *ℤ d) *ℤ w ≡ (D *ℤ d) *ℤ v → w *ℤ e ≡ n *ℤ D → v *ℤ k ≡ m *ℤ E
    → ((n *ℤ k) *ℤ D) *ℤ (E *ℤ d) ≡ ((m *ℤ e) *ℤ D) *ℤ (E *ℤ d)
cross w v n m e k D E d h a b =
    first n k D (E *ℤ d)
    ∙ ap (λ z. z *ℤ (k *ℤ (E *ℤ d))) (sym a)
    ∙ second w e k (E *ℤ d)
    ∙ ap (λ z. z *ℤ (e *ℤ k)) h
    ∙ third (D *ℤ d) v e k
    ∙ ap (λ z. z *ℤ ((D *ℤ d) *ℤ e)) b
    ∙ fourth m E D d e
  where
    first : (n k D A : ℤ) → ((n *ℤ k) *ℤ D) *ℤ A ≡ (n *ℤ D) *ℤ (k *ℤ A)
    first n k D A = simp ring refl

    second : (w e k A : ℤ) → (w *ℤ e) *ℤ (k *ℤ A) ≡ (A *ℤ w) *ℤ (e *ℤ k)
    second w e k A = simp ring refl

    third : (B v e k : ℤ) → (B *ℤ v) *ℤ (e *ℤ k) ≡ (v *ℤ k) *ℤ (B *ℤ e)
    third B v e k = simp ring refl

    fourth : (m E D d e : ℤ) → (m *ℤ E) *ℤ ((D *ℤ d) *ℤ e) ≡ ((m *ℤ e) *ℤ D) *ℤ (E *ℤ d)
    fourth m E D d e = simp ring refl

opposite : (D E d v w F : ℤ) → d *ℤ v ≡ D *ℤ F → d *ℤ w ≡ E *ℤ F → (E *ℤ d) *ℤ v +ℤ neg_ℤ (D *ℤ d) *ℤ w ≡ pos 0
opposite D E d v w F h k =
    let a : (E *ℤ d) *ℤ v ≡ E *ℤ (D *ℤ F) = product_assoc E d v ∙ ap (λ z. E *ℤ z) h in
    let b : (D *ℤ d) *ℤ w ≡ E *ℤ (D *ℤ F) = product_assoc D d w ∙ (ap (λ z. D *ℤ z) k ∙ product_left_comm D E F) in
    let c : neg_ℤ (D *ℤ d) *ℤ w ≡ neg_ℤ (E *ℤ (D *ℤ F)) = negation-product (D *ℤ d) w ∙ ap neg_ℤ b in
    ap₂ (λ x y. x +ℤ y) a c ∙ omega (arith, ints)

moved : (A w B v : ℤ) → A *ℤ w +ℤ neg_ℤ B *ℤ v ≡ pos 0 → A *ℤ w ≡ B *ℤ v
moved A w B v h =
    let c : neg_ℤ B *ℤ v ≡ neg_ℤ (B *ℤ v) = negation-product B v in
    sums (A *ℤ w) (B *ℤ v) (neg_ℤ B *ℤ v) h c
  where
    sums : (x y z : ℤ) → x +ℤ z ≡ pos 0 → z ≡ neg_ℤ y → x ≡ y
    sums x y z h k = omega (arith, ints)

module _ {Label : Type 0} (order : Label → Label → Ordering) (total_order : IsTotalOrder order) (test : Label → Label → Bool) (decides : Decides test) (P : Label → Type 0)
    (ties : (x y : Label) → P x → P y → order x y ≡ Equal → x ≡ y) where
  module _ (polynomial : Label → Poly) (independent : AreIndependent test P polynomial) (f : Poly) (d : ℕ) (some : 0 < d) where
    both : Terms Label → Terms Label → WholeTermsOf Label
    both xs ys =
        scale (pos (denominators ys) *ℤ pos d) (cleared_terms (denominators xs) xs)
        ++ scale (neg_ℤ (pos (denominators xs) *ℤ pos d)) (cleared_terms (denominators ys) ys)

    both-zero : (xs ys : Terms Label) → Represents polynomial xs f d → Represents polynomial ys f d
        → Same (combined polynomial (both xs ys)) nothing
    unfolding both
    both-zero xs ys r s α =
        coefficient_of_combined polynomial (both xs ys) α
        ∙ total_append G (scale A zs) (scale B us)
        ∙ ap₂ (λ a b. a +ℤ b) (total_of_scaled g A zs) (total_of_scaled g B us)
        ∙ ap₂ (λ a b. A *ℤ a +ℤ B *ℤ b) (value (denominators xs) xs) (value (denominators ys) ys)
        ∙ sum_is (coefficient (value_by polynomial xs) α) (coefficient (value_by polynomial ys) α) (stands xs r) (stands ys s)
      where
        g : Label → ℤ
        g label = coefficient (polynomial label) α

        G : Label × ℤ → ℤ
        G t = t.1 *ℤ coefficient (polynomial t.0) α

        A : ℤ
        A = pos (denominators ys) *ℤ pos d

        B : ℤ
        B = neg_ℤ (pos (denominators xs) *ℤ pos d)

        zs : WholeTermsOf Label
        zs = cleared_terms (denominators xs) xs

        us : WholeTermsOf Label
        us = cleared_terms (denominators ys) ys

        value : (q : ℕ) (terms : Terms Label)
            → total G (cleared_terms q terms) ≡ coefficient (cleared polynomial q terms) α
        value q terms =
            sym (ap (λ h. coefficient h α) (cleared-combined polynomial q terms) ∙ coefficient_of_combined polynomial (cleared_terms q terms) α)

        stands : (terms : Terms Label) → Represents polynomial terms f d
            → pos d *ℤ coefficient (value_by polynomial terms) α ≡ pos (denominators terms) *ℤ coefficient f α
        stands terms q =
            sym (coefficient_scale (pos d) (value_by polynomial terms) α)
            ∙ (q.equal α ∙ coefficient_scale (pos (denominators terms)) f α)

        sum_is : (v w : ℤ) → pos d *ℤ v ≡ pos (denominators xs) *ℤ coefficient f α
            → pos d *ℤ w ≡ pos (denominators ys) *ℤ coefficient f α → A *ℤ v +ℤ B *ℤ w ≡ pos 0
        sum_is v w h k = opposite (pos (denominators xs)) (pos (denominators ys)) (pos d) v w (coefficient f α) h k

    pub same_entries : (xs ys : Terms Label) → IsGood order P xs → IsGood order P ys → Represents polynomial xs f d
        → Represents polynomial ys f d
        → (label : Label) → P label → AreEqual (entry test xs label) (entry test ys label)
    unfolding both
    same_entries xs ys g h r s label p =
        product_cancel ((entry test xs label).0 *ℤ pos (entry test ys label).1) ((entry test ys label).0 *ℤ pos (entry test xs label).1) (denominators xs) r.positive
        (product_cancel (((entry test xs label).0 *ℤ pos (entry test ys label).1) *ℤ D) (((entry test ys label).0 *ℤ pos (entry test xs label).1) *ℤ D) (denominators ys * d) (mul-pos s.positive some)
        (cross w v (entry test xs label).0 (entry test ys label).0 (pos (entry test xs label).1) (pos (entry test ys label).1) D E (pos d) agree
        (weight-entry order total_order test decides (denominators xs) xs label g.ordered (divides-denominators xs))
        (weight-entry order total_order test decides (denominators ys) ys label h.ordered (divides-denominators ys))))
      where
        D : ℤ
        D = pos (denominators xs)

        E : ℤ
        E = pos (denominators ys)

        zs : WholeTermsOf Label
        zs = cleared_terms (denominators xs) xs

        us : WholeTermsOf Label
        us = cleared_terms (denominators ys) ys

        w : ℤ
        w = coefficient_by test zs label

        v : ℤ
        v = coefficient_by test us label

        have_labels : HaveLabels P (both xs ys)
        have_labels =
            labels_append P (scale (E *ℤ pos d) zs) (scale (neg_ℤ (D *ℤ pos d)) us)
            (labels_scaled P (E *ℤ pos d) zs (labels_map P (λ (t : Label × Fraction). (t.0, t.1.0 *ℤ pos (denominators xs / t.1.1))) xs g.labels))
            (labels_scaled P (neg_ℤ (D *ℤ pos d)) us (labels_map P (λ (t : Label × Fraction). (t.0, t.1.0 *ℤ pos (denominators ys / t.1.1))) ys h.labels))

        sums : (E *ℤ pos d) *ℤ w +ℤ neg_ℤ (D *ℤ pos d) *ℤ v ≡ pos 0
        sums =
            sym (total_append (λ (t : Label × ℤ). cond (test t.0 label) t.1 (pos 0)) (scale (E *ℤ pos d) zs) (scale (neg_ℤ (D *ℤ pos d)) us)
            ∙ ap₂ (λ a b. a +ℤ b) (coefficient_of_scaled test (E *ℤ pos d) zs label) (coefficient_of_scaled test (neg_ℤ (D *ℤ pos d)) us label))
            ∙ independent.zero (both xs ys) have_labels (both-zero xs ys r s) label p

        agree : (E *ℤ pos d) *ℤ w ≡ (D *ℤ pos d) *ℤ v
        agree = moved (E *ℤ pos d) w (D *ℤ pos d) v sums

    pub one_list : (xs ys : Terms Label) → IsGood order P xs → IsGood order P ys → Represents polynomial xs f d
        → Represents polynomial ys f d → xs ≡ ys
    one_list xs ys g h r s = same_lists order total_order test decides P ties xs ys g h (same_entries xs ys g h r s)
