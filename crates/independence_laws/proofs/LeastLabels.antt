-- A family of polynomials is linearly independent if for each label μ some function gives 0 for all other polynomials
-- whose labels are not before μ, and a positive number for that of μ.
use Rattle.std.proofs.Common.{◌≡◌, ◌⊎◌, ℕ, zero, suc, ◌<◌, ◌≤◌, Bool, true, false, not, cond, List, [], ◌∷◌, length}
use Rattle.std.proofs.Common.{filter, refl, sym, ap, ◌∙◌, subst, inl, inr, arith, ℤ, pos, ◌*ℤ◌, ◌+ℤ◌}
use Rattle.std.proofs.lemmas.Bool.{cases_Bool}
use Rattle.std.proofs.lemmas.Int.{ints}
use lib.IntN.{zero-*ℤ, *ℤ-zero, *ℤ_comm}
use Rattle.sym_model.specs.Sum.{Among, total}
use Rattle.sym_model.specs.Polynomial.{Poly, Same, nothing, pair}
use Rattle.sym_model.specs.WholeTerms.{WholeTermsOf, coefficient_by, combined, HaveLabels}
use Rattle.sym_model.proofs.Integers.{product_cancel}
use Rattle.sym_model.proofs.Sums.{total_among, total_select, total_ext, total_split, Among_from_select, total_scale}
use Rattle.sym_model.proofs.Polynomials.{pair_determined, same_from_pair}
use Rattle.sym_model.proofs.WholeTerms.{pair_of_combined}
use Rattle.independence_laws.proofs.Entries.{Decides}
use Rattle.independence_laws.specs.Independence.{AreIndependent}

-- a function of exponents that is u > 0 on the polynomial of μ, and 0 on that of each other label that is not before
-- μ
pub record FindsLeast {Label : Type 0} (test : Label → Label → Bool) (P : Label → Type 0) (Leq : Label → Label → Type 0) (polynomial : Label → Poly) (label : Label) : Type 0 where
  pub φ : List ℕ → ℤ
  pub u : ℕ
  pub some : 0 < u
  pub finds : (x : Label) → P x → Leq label x → pair (polynomial x) φ ≡ cond (test x label) (pos u) (pos 0)

-- let `kills` say: if a sum of multiples is 0 and the label is before or beside all labels, then the coefficients of
-- this label add up to 0
module _ {Label : Type 0} (test : Label → Label → Bool) (decides : Decides test) (P : Label → Type 0) (Leq : Label → Label → Type 0)
    (leq_total : (x y : Label) → Leq x y ⊎ Leq y x) (leq_trans : (x y z : Label) → Leq x y → Leq y z → Leq x z)
    (polynomial : Label → Poly)
    (kills : (label : Label) → P label → (terms : WholeTermsOf Label) → HaveLabels P terms → Same (combined polynomial terms) nothing
    → ((u : Label × ℤ) → Among u terms → Leq label u.0) → coefficient_by test terms label ≡ pos 0) where
  others_of : Label → WholeTermsOf Label → WholeTermsOf Label
  others_of label terms = filter (λ (t : Label × ℤ). not (test t.0 label)) terms

  length-others : (label : Label) (terms : WholeTermsOf Label) → length (others_of label terms) ≤ length terms
  unfolding others_of
  length-others label [] = omega arith
  length-others label (t ∷ terms) = by (test t.0 label) (length-others label terms)
    where
      by : (b : Bool) → length (others_of label terms) ≤ length terms
          → length (cond (not b) (t ∷ others_of label terms) (others_of label terms)) ≤ suc (length terms)
      by true h = omega arith
      by false h = omega arith

  fewer_others : (s : Label × ℤ) (terms : WholeTermsOf Label) → Among s terms
      → length (others_of s.0 terms) < length terms
  unfolding others_of
  fewer_others s [] m = absurd m
  fewer_others s (t ∷ terms) (inl e) =
      let h = length-others s.0 terms in
      let b : test t.0 s.0 ≡ true = subst (λ (v : Label × ℤ). test v.0 s.0 ≡ true) e (decides.itself s.0) in
      subst (λ b. length (cond (not b) (t ∷ others_of s.0 terms) (others_of s.0 terms)) < suc (length terms)) (sym b) (omega arith)
  fewer_others s (t ∷ terms) (inr m) = by (test t.0 s.0) (fewer_others s terms m)
    where
      by : (b : Bool) → length (others_of s.0 terms) < length terms
          → length (cond (not b) (t ∷ others_of s.0 terms) (others_of s.0 terms)) < suc (length terms)
      by true h = omega arith
      by false h = omega arith

  abbrev Least : WholeTermsOf Label → Type 0
  Least terms = (s : Label × ℤ) × Among s terms × ((u : Label × ℤ) → Among u terms → Leq s.0 u.0)

  least : (t : Label × ℤ) (terms : WholeTermsOf Label) → Least (t ∷ terms)
  least t [] = (t, inl refl, only)
    where
      itself : Leq t.0 t.0 ⊎ Leq t.0 t.0 → Leq t.0 t.0
      itself (inl h) = h
      itself (inr h) = h

      only : (u : Label × ℤ) → Among u (t ∷ []) → Leq t.0 u.0
      only u (inl e) = subst (λ (v : Label × ℤ). Leq t.0 v.0) (sym e) (itself (leq_total t.0 t.0))
      only u (inr m) = absurd m
  least t (v ∷ terms) = by (least v terms)
    where
      by : Least (v ∷ terms) → Least (t ∷ v ∷ terms)
      by (s, m, low) = choose (leq_total t.0 s.0) (leq_total t.0 t.0)
        where
          choose : Leq t.0 s.0 ⊎ Leq s.0 t.0 → Leq t.0 t.0 ⊎ Leq t.0 t.0 → Least (t ∷ v ∷ terms)
          choose (inl h) (inl i) =
              (t, inl refl, λ u n. elim n [ inl e ↦ subst (λ (x : Label × ℤ). Leq t.0 x.0) (sym e) i | inr k ↦ leq_trans t.0 s.0 u.0 h (low u k) ])
          choose (inl h) (inr i) =
              (t, inl refl, λ u n. elim n [ inl e ↦ subst (λ (x : Label × ℤ). Leq t.0 x.0) (sym e) i | inr k ↦ leq_trans t.0 s.0 u.0 h (low u k) ])
          choose (inr h) i =
              (s, inr m, λ u n. elim n [ inl e ↦ subst (λ (x : Label × ℤ). Leq s.0 x.0) (sym e) h | inr k ↦ low u k ])

  rest_zero : (label : Label) (terms : WholeTermsOf Label) → Same (combined polynomial terms) nothing
      → coefficient_by test terms label ≡ pos 0 → Same (combined polynomial (others_of label terms)) nothing
  unfolding others_of
  rest_zero label terms z none = same_from_pair (combined polynomial (others_of label terms)) nothing (λ ψ.
      pair_of_combined polynomial (others_of label terms) ψ
      ∙ drop_zero (total (λ (t : Label × ℤ). t.1 *ℤ pair (polynomial t.0) ψ) (filter (λ (t : Label × ℤ). test t.0 label) terms)) (total (λ (t : Label × ℤ). t.1 *ℤ pair (polynomial t.0) ψ) (others_of label terms)) (chosen ψ)
      ∙ sym (total_split (λ (t : Label × ℤ). t.1 *ℤ pair (polynomial t.0) ψ) (λ (t : Label × ℤ). test t.0 label) terms)
      ∙ sym (pair_of_combined polynomial terms ψ)
      ∙ pair_determined (combined polynomial terms) nothing ψ z)
    where
      drop_zero : (x y : ℤ) → x ≡ pos 0 → y ≡ x +ℤ y
      drop_zero x y e = omega (arith, ints)

      here : (b : Bool) (c v w : ℤ) → (b ≡ true → v ≡ w) → cond b (c *ℤ v) (pos 0) ≡ w *ℤ cond b c (pos 0)
      here true c v w e = ap (λ n. c *ℤ n) (e refl) ∙ *ℤ_comm c w
      here false c v w e = sym (*ℤ-zero w)

      chosen : (ψ : List ℕ → ℤ)
          → total (λ (t : Label × ℤ). t.1 *ℤ pair (polynomial t.0) ψ) (filter (λ (t : Label × ℤ). test t.0 label) terms) ≡ pos 0
      chosen ψ =
          total_select (λ (t : Label × ℤ). t.1 *ℤ pair (polynomial t.0) ψ) (λ (t : Label × ℤ). test t.0 label) terms
          ∙ total_ext (λ (t : Label × ℤ). cond (test t.0 label) (t.1 *ℤ pair (polynomial t.0) ψ) (pos 0)) (λ (t : Label × ℤ). pair (polynomial label) ψ *ℤ cond (test t.0 label) t.1 (pos 0))
          (λ t. here (test t.0 label) t.1 (pair (polynomial t.0) ψ) (pair (polynomial label) ψ) (λ e. ap (λ x. pair (polynomial x) ψ) (decides.tells t.0 label e))) terms
          ∙ total_scale (pair (polynomial label) ψ) (λ (t : Label × ℤ). cond (test t.0 label) t.1 (pos 0)) terms
          ∙ ap (λ n. pair (polynomial label) ψ *ℤ n) none
          ∙ *ℤ-zero (pair (polynomial label) ψ)

  rest_same : (least label : Label) (terms : WholeTermsOf Label) → test label least ≡ false
      → coefficient_by test (others_of least terms) label ≡ coefficient_by test terms label
  unfolding others_of
  rest_same least label terms apart =
      total_select (λ (t : Label × ℤ). cond (test t.0 label) t.1 (pos 0)) (λ (t : Label × ℤ). not (test t.0 least)) terms
      ∙ total_ext (λ (t : Label × ℤ). cond (not (test t.0 least)) (cond (test t.0 label) t.1 (pos 0)) (pos 0)) (λ (t : Label × ℤ). cond (test t.0 label) t.1 (pos 0)) (λ t. each t (cases_Bool (test t.0 label))) terms
    where
      each : (t : Label × ℤ) → (test t.0 label ≡ true) ⊎ (test t.0 label ≡ false)
          → cond (not (test t.0 least)) (cond (test t.0 label) t.1 (pos 0)) (pos 0) ≡ cond (test t.0 label) t.1 (pos 0)
      each t (inl e) =
          let is = decides.tells t.0 label e in
          ap (λ b. cond (not b) (cond (test t.0 label) t.1 (pos 0)) (pos 0)) (ap (λ x. test x least) is ∙ apart)
      each t (inr e) =
          subst (λ b. cond (not (test t.0 least)) (cond b t.1 (pos 0)) (pos 0) ≡ cond b t.1 (pos 0)) (sym e) (either (test t.0 least))
        where
          either : (b : Bool) → cond (not b) (pos 0) (pos 0) ≡ pos 0
          either true = refl
          either false = refl

  zero_within : (n : ℕ) (terms : WholeTermsOf Label) → length terms < n → HaveLabels P terms
      → Same (combined polynomial terms) nothing → (label : Label) → P label → coefficient_by test terms label ≡ pos 0
  unfolding others_of
  zero_within zero terms h k z label p = absurd (omega arith)
  zero_within (suc n) [] h k z label p = refl
  zero_within (suc n) (t ∷ terms) h k z label p = by (least t terms) (zero_within n)
    where
      by : Least (t ∷ terms)
          → ((rest : WholeTermsOf Label) → length rest < n → HaveLabels P rest → Same (combined polynomial rest) nothing → (x : Label) → P x → coefficient_by test rest x ≡ pos 0)
          → coefficient_by test (t ∷ terms) label ≡ pos 0
      by (s, m, low) rec = choose (cases_Bool (test label s.0))
        where
          none : coefficient_by test (t ∷ terms) s.0 ≡ pos 0
          none = kills s.0 (k s m) (t ∷ terms) k z low

          choose : (test label s.0 ≡ true) ⊎ (test label s.0 ≡ false) → coefficient_by test (t ∷ terms) label ≡ pos 0
          choose (inl e) =
              subst (λ x. coefficient_by test (t ∷ terms) x ≡ pos 0) (sym (decides.tells label s.0 e)) none
          choose (inr e) =
              let f = fewer_others s (t ∷ terms) m in
              sym (rest_same s.0 label (t ∷ terms) e)
              ∙ rec (others_of s.0 (t ∷ terms)) (omega arith)
              (λ u i. k u (Among_from_select (λ (v : Label × ℤ). not (test v.0 s.0)) u (t ∷ terms) i).0)
              (rest_zero s.0 (t ∷ terms) z none) label p

  pub independent_by_kills : AreIndependent test P polynomial
  independent_by_kills = record { zero = λ terms h z label p. zero_within (suc (length terms)) terms (omega arith) h z label p }

module _ {Label : Type 0} (test : Label → Label → Bool) (P : Label → Type 0) (Leq : Label → Label → Type 0) (polynomial : Label → Poly)
    (dual : (label : Label) → P label → FindsLeast test P Leq polynomial label) where
  least_zero : (s : Label) (p : P s) (terms : WholeTermsOf Label) → HaveLabels P terms
      → Same (combined polynomial terms) nothing → ((u : Label × ℤ) → Among u terms → Leq s u.0)
      → coefficient_by test terms s ≡ pos 0
  least_zero s p terms h z low =
      let δ = dual s p in
      product_cancel (coefficient_by test terms s) (pos 0) δ.u δ.some
      (*ℤ_comm (coefficient_by test terms s) (pos δ.u)
      ∙ sym (total_scale (pos δ.u) (λ (t : Label × ℤ). cond (test t.0 s) t.1 (pos 0)) terms)
      ∙ total_among (λ (t : Label × ℤ). pos δ.u *ℤ cond (test t.0 s) t.1 (pos 0)) (λ (t : Label × ℤ). t.1 *ℤ pair (polynomial t.0) δ.φ) terms
      (λ t m. turned (test t.0 s) δ.u t.1 ∙ ap (λ n. t.1 *ℤ n) (sym (δ.finds t.0 (h t m) (low t m))))
      ∙ sym (pair_of_combined polynomial terms δ.φ)
      ∙ pair_determined (combined polynomial terms) nothing δ.φ z
      ∙ sym (zero-*ℤ (pos δ.u)))
    where
      turned : (b : Bool) (u : ℕ) (c : ℤ) → pos u *ℤ cond b c (pos 0) ≡ c *ℤ cond b (pos u) (pos 0)
      turned true u c = *ℤ_comm (pos u) c
      turned false u c = *ℤ-zero (pos u) ∙ sym (*ℤ-zero c)

pub independent_by_least : {Label : Type 0} (test : Label → Label → Bool) → Decides test
    → (P : Label → Type 0) (Leq : Label → Label → Type 0)
    → ((x y : Label) → Leq x y ⊎ Leq y x) → ((x y z : Label) → Leq x y → Leq y z → Leq x z)
    → (polynomial : Label → Poly)
    → ((label : Label) → P label → FindsLeast test P Leq polynomial label) → AreIndependent test P polynomial
independent_by_least test decides P Leq all both polynomial dual =
    independent_by_kills test decides P Leq all both polynomial (λ label p terms h z low. least_zero test P Leq polynomial dual label p terms h z low)
