-- A list of terms with the terms of equal labels collected: the resulting list has each label once, no coefficient 0, and the same coefficients.
use Rattle.std.proofs.Common.{◌≡◌, ◌⊎◌, zero, suc, Bool, true, false, cond, [], ◌∷◌, ◌∙◌, ap, refl, inl, inr, arith, ℤ, pos, negsuc, ◌+ℤ◌, rules}
use Rattle.std.proofs.lemmas.Int.{ints}
use Rattle.sym_model.specs.Sum.{Among}
use Rattle.sym_model.specs.WholeTerms.{WholeTermsOf, coefficient_by}
use Rattle.sym_model.specs.ReductionSteps.{AreCollected}
use Rattle.sym_model.proofs.Integers.{sum_left_comm}

module _ {L : Type 0} (test : L → L → Bool) (test_true : (a b : L) → test a b ≡ true → a ≡ b) (test_self : (a : L) → test a a ≡ true) where
  -- the list xs with the term of this label and coefficient in front; xs itself if the coefficient is 0
  abbrev kept : L → ℤ → WholeTermsOf L → WholeTermsOf L
  kept label (pos zero) xs = xs
  kept label (pos (suc n)) xs = (label, pos (suc n)) ∷ xs
  kept label (negsuc n) xs = (label, negsuc n) ∷ xs

  -- the list with c added to the coefficient of `label`; if the label does not occur, its term is added at the end, and if its coefficient becomes 0,
  -- its term is dropped
  abbrev put : L → ℤ → WholeTermsOf L → WholeTermsOf L
  put label c [] = kept label c []
  put label c (x ∷ xs) = cond (test x.0 label) (kept x.0 (x.1 +ℤ c) xs) (x ∷ put label c xs)

  abbrev pub gathered : WholeTermsOf L → WholeTermsOf L
  gathered [] = []
  gathered (x ∷ xs) = put x.0 x.1 (gathered xs)

  coefficient-kept : (label : L) (c : ℤ) (xs : WholeTermsOf L) (other : L) → coefficient_by test (kept label c xs) other ≡ cond (test label other) c (pos 0) +ℤ coefficient_by test xs other
  coefficient-kept label (pos zero) xs other = search rules
  coefficient-kept label (pos (suc n)) xs other = refl
  coefficient-kept label (negsuc n) xs other = refl

  coefficient-put : (label : L) (c : ℤ) (xs : WholeTermsOf L) (other : L) → coefficient_by test (put label c xs) other ≡ cond (test label other) c (pos 0) +ℤ coefficient_by test xs other
  coefficient-put label c [] other = coefficient-kept label c [] other
  coefficient-put label c (x ∷ xs) other = search (rules, ints, coefficient-kept, sum_left_comm, (coefficient-put label c xs other))

  pub coefficient-gathered : (xs : WholeTermsOf L) (other : L) → coefficient_by test (gathered xs) other ≡ coefficient_by test xs other
  coefficient-gathered [] other = refl
  coefficient-gathered (x ∷ xs) other = coefficient-put x.0 x.1 (gathered xs) other ∙ ap (λ z. cond (test x.0 other) x.1 (pos 0) +ℤ z) (coefficient-gathered xs other)

  collected-kept : (label : L) (c : ℤ) (xs : WholeTermsOf L) → ((u : L × ℤ) → Among u xs → test label u.0 ≡ false) → AreCollected test xs → AreCollected test (kept label c xs)
  collected-kept label (pos zero) xs apart h = h
  collected-kept label (pos (suc n)) xs apart h = ((λ e. absurd (omega (arith, ints))), apart, h)
  collected-kept label (negsuc n) xs apart h = ((λ e. absurd (omega (arith, ints))), apart, h)

  among-kept : (label : L) (c : ℤ) (xs : WholeTermsOf L) (u : L × ℤ) → Among u (kept label c xs) → (u.0 ≡ label) ⊎ Among u xs
  among-kept label (pos zero) xs u m = inr m
  among-kept label (pos (suc n)) xs u (inl e) = inl (ap (λ (v : L × ℤ). v.0) e)
  among-kept label (pos (suc n)) xs u (inr m) = inr m
  among-kept label (negsuc n) xs u (inl e) = inl (ap (λ (v : L × ℤ). v.0) e)
  among-kept label (negsuc n) xs u (inr m) = inr m

  among-put : (label : L) (c : ℤ) (xs : WholeTermsOf L) (u : L × ℤ) → Among u (put label c xs) → (u.0 ≡ label) ⊎ ((v : L × ℤ) × Among v xs × (u.0 ≡ v.0))
  among-put label c [] u m = elim (among-kept label c [] u m) [ inl e ↦ inl e | inr n ↦ absurd n ]
  among-put label c (x ∷ xs) u m = by (test x.0 label) (among-put label c xs u) m
    where
      by : (b : Bool) → (Among u (put label c xs) → (u.0 ≡ label) ⊎ ((v : L × ℤ) × Among v xs × (u.0 ≡ v.0))) → Among u (cond b (kept x.0 (x.1 +ℤ c) xs) (x ∷ put label c xs)) → (u.0 ≡ label) ⊎ ((v : L × ℤ) × Among v (x ∷ xs) × (u.0 ≡ v.0))
      by true r m = elim (among-kept x.0 (x.1 +ℤ c) xs u m) [ inl e ↦ inr (x, inl refl, e) | inr n ↦ inr (u, inr n, refl) ]
      by false r (inl e) = inr (x, inl refl, ap (λ (v : L × ℤ). v.0) e)
      by false r (inr m) = elim (r m) [ inl e ↦ inl e | inr v ↦ inr (v.0, inr v.1, v.2) ]

  collected-put : (label : L) (c : ℤ) (xs : WholeTermsOf L) → AreCollected test xs → AreCollected test (put label c xs)
  collected-put label c [] h = collected-kept label c [] (λ u m. absurd m) tt
  collected-put label c (x ∷ xs) h = by (test x.0 label) refl (collected-put label c xs h.2)
    where
      apart : test x.0 label ≡ false → (u : L × ℤ) → (u.0 ≡ label) ⊎ ((v : L × ℤ) × Among v xs × (u.0 ≡ v.0)) → test x.0 u.0 ≡ false
      apart e u (inl d) = ap (test x.0) d ∙ e
      apart e u (inr v) = ap (test x.0) v.2 ∙ h.1 v.0 v.1

      by : (b : Bool) → test x.0 label ≡ b → AreCollected test (put label c xs) → AreCollected test (cond b (kept x.0 (x.1 +ℤ c) xs) (x ∷ put label c xs))
      by true e r = collected-kept x.0 (x.1 +ℤ c) xs h.1 h.2
      by false e r = (h.0, (λ u m. apart e u (among-put label c xs u m)), r)

  pub collected-gathered : (xs : WholeTermsOf L) → AreCollected test (gathered xs)
  collected-gathered [] = tt
  collected-gathered (x ∷ xs) = collected-put x.0 x.1 (gathered xs) (collected-gathered xs)
