-- Two good lists with integer coefficients that are the same formal sum are the same list.
use Rattle.std.proofs.Common.{◌≡◌, Bool, [], ◌∷◌, refl, sym, ap, ap₂, ◌∙◌, subst, inl, inr, ℤ, pos, ◌*ℤ◌, ◌/◌}
use Rattle.std.specs.Int.{◌∣◌}
use Rattle.std.specs.Cmp.{IsTotalOrder}
use Rattle.std.specs.declared.cmp.Ordering.{Ordering}
use Rattle.std.specs.declared.cmp.Ordering.TheVariants.{Equal}
use Rattle.std.proofs.lemmas.Nat.Gcd.{dvd_refl}
use Rattle.sym_model.specs.Sum.{Among}
use Rattle.sym_model.specs.Expansion.{Fraction, Terms}
use Rattle.sym_model.specs.WholeTerms.{WholeTermsOf, coefficient_by, numerators, AreWhole}
use Rattle.sym_model.proofs.Ring.{product-one, product_turned, product_assoc}
use Rattle.independence_laws.proofs.Entries.{Decides, entry, AreEqual, cleared_terms, IsGood, weight-entry}
use Rattle.independence_laws.proofs.Entries.{same_lists}

cleared-whole : {Label : Type 0} (terms : Terms Label) → AreWhole terms → cleared_terms 1 terms ≡ numerators terms
cleared-whole [] h = refl
cleared-whole {Label = Label} (t ∷ terms) h =
    ap₂ (λ c (rest : WholeTermsOf Label). (t.0, c) ∷ rest) (ap (λ d. t.1.0 *ℤ pos (1 / d)) h.0 ∙ product-one t.1.0) (cleared-whole terms h.1)

divides_one : {Label : Type 0} (terms : Terms Label) → AreWhole terms → (t : Label × Fraction) → Among t terms
    → t.1.1 ∣ 1
divides_one [] h t m = absurd m
divides_one {Label = Label} (u ∷ terms) h t (inl e) =
    subst (λ d. d ∣ 1) (sym (ap (λ (v : Label × Fraction). v.1.1) e ∙ h.0)) (dvd_refl 1)
divides_one (u ∷ terms) h t (inr m) = divides_one terms h.1 t m

module _ {Label : Type 0} (order : Label → Label → Ordering) (total_order : IsTotalOrder order) (test : Label → Label → Bool) (decides : Decides test) (P : Label → Type 0)
    (ties : (x y : Label) → P x → P y → order x y ≡ Equal → x ≡ y) where
  -- two good lists of whole coefficients that are the same formal sum are equal
  pub same_sums : (xs ys : Terms Label) → IsGood order P xs → IsGood order P ys → AreWhole xs → AreWhole ys
      → ((label : Label) → coefficient_by test (numerators xs) label ≡ coefficient_by test (numerators ys) label)
      → xs ≡ ys
  same_sums xs ys g h w v e = same_lists order total_order test decides P ties xs ys g h agree
    where
      at : (zs : Terms Label) → IsGood order P zs → AreWhole zs → (label : Label)
          → coefficient_by test (numerators zs) label *ℤ pos (entry test zs label).1 ≡ (entry test zs label).0
      at zs k u label =
          ap (λ l. coefficient_by test l label *ℤ pos (entry test zs label).1) (sym (cleared-whole zs u))
          ∙ weight-entry order total_order test decides 1 zs label k.ordered (divides_one zs u)
          ∙ product-one (entry test zs label).0

      agree : (label : Label) → P label → AreEqual (entry test xs label) (entry test ys label)
      agree label p =
          let N = coefficient_by test (numerators ys) label in
          let a = pos (entry test xs label).1 in
          let b = pos (entry test ys label).1 in
          ap (λ z. z *ℤ b) (sym (at xs g w label) ∙ ap (λ z. z *ℤ a) (e label))
          ∙ (product_turned N a b ∙ sym (product_assoc N b a))
          ∙ ap (λ z. z *ℤ a) (at ys h v label)
