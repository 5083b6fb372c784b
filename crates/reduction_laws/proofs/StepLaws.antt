-- A step of a product of several factors multiplies a list of terms by one factor and reduces the product. In the list that results, each label
-- occurs once, with a coefficient other than 0. The coefficients of a list are determined by its sums of coefficient times φ(label), for all
-- functions φ.
use Rattle.std.proofs.Common.{◌≡◌, Bool, true, false, cond, ◌&&◌, [], ◌∷◌, sym, ◌∙◌, ap, ℤ, pos}
use Rattle.std.proofs.Common.{◌*ℤ◌, subst, inl, inr, arith}
use Rattle.std.specs.List.{IsDistinct, AllByRecursion}
use Rattle.std.specs.Map.{keys_of}
use Rattle.std.proofs.lemmas.Bool.{and_parts}
use Rattle.std.proofs.lemmas.Int.{ints}
use Rattle.std.proofs.lemmas.Map.Keys.{IsDistinct-head, IsDistinct-tail}
use Rattle.fraction_laws.specs.Fractions.{whole}
use Rattle.sym_model.specs.Canonical.{is_reduced}
use Rattle.sym_model.specs.Sum.{Among}
use Rattle.sym_model.specs.WholeTerms.{WholeTermsOf, coefficient_by}
use Rattle.sym_model.specs.ReductionSteps.{AreCollected}
use Rattle.sym_model.proofs.Exponents.{tests_agree}
use Rattle.sym_model.proofs.Sums.{total_ext}
use Rattle.linear_combinations.specs.Entries.{IsCombination, are_terms}
use Rattle.linear_combinations.specs.Gains.{over, Gains}
use Rattle.linear_combinations.proofs.LowestTerms.{not_zero-is_reduced}
use Rattle.sym_model.proofs.Integers.{chosen_as_product}

module _ {L : Type 0} (eq test : L → L → Bool) (eq_true : (a b : L) → eq a b ≡ true → a ≡ b) (eq_self : (a : L) → eq a a ≡ true)
    (test_true : (a b : L) → test a b ≡ true → a ≡ b) (test_self : (a : L) → test a a ≡ true) where
  same_tests : (a b : L) → eq a b ≡ test a b
  same_tests a b =
      tests_agree (eq a b) (test a b)
      (λ e. subst (λ c. test a c ≡ true) (eq_true a b e) (test_self a))
      (λ e. subst (λ c. eq a c ≡ true) (test_true a b e) (eq_self a))

  all_apart : (x : L) (terms : WholeTermsOf L)
      → AllByRecursion (λ y. eq x y ≡ false) (keys_of terms) → (u : L × ℤ) → Among u terms
      → test x u.0 ≡ false
  all_apart x [] h u m = absurd m
  all_apart x (t ∷ terms) h u (inl e) =
      sym (same_tests x u.0) ∙ ap (λ (v : L × ℤ). eq x v.0) e ∙ h.0
  all_apart x (t ∷ terms) h u (inr m) = all_apart x terms h.1 u m

  collected : (is_label : L → Bool) (terms : WholeTermsOf L) → IsDistinct eq (keys_of terms)
      → are_terms whole is_label terms ≡ true → AreCollected test terms
  collected is_label [] d p = tt
  collected is_label (t ∷ terms) d p =
      let here = and_parts (is_reduced (whole t.1) && is_label t.0) _ p in
      let reduced = (and_parts (is_reduced (whole t.1)) _ here.0).0 in (
        (λ z. not_zero-is_reduced (whole t.1) reduced (ap whole z)),
        all_apart t.0 terms (IsDistinct-head eq t.0 (keys_of terms) d),
        collected is_label terms (IsDistinct-tail eq t.0 (keys_of terms) d) here.1,
      )

  -- if a list of terms satisfies `IsCombination`, each label occurs once, with a coefficient other than 0 (`AreCollected`)
  pub collected_table : (is_label : L → Bool) (terms : WholeTermsOf L)
      → IsCombination eq is_label whole terms → AreCollected test terms
  collected_table is_label terms c = collected is_label terms c.distinct c.proper

-- the coefficient of a label in a list is the sum of coefficient times φ over its terms, where φ is 1 for this label and 0 for all others
by_over : {L : Type 0} (test : L → L → Bool) (terms : WholeTermsOf L) (label : L)
    → coefficient_by test terms label ≡ over (λ l. cond (test l label) (pos 1) (pos 0)) terms
by_over {L} test terms label =
    total_ext (λ (t : L × ℤ). cond (test t.0 label) t.1 (pos 0))
    (λ (t : L × ℤ). t.1 *ℤ cond (test t.0 label) (pos 1) (pos 0))
    (λ t. chosen_as_product (test t.0 label) t.1) terms

-- if two lists have, for every φ, the same sum of coefficient times φ(label) over their terms, they have the same coefficient at each label
pub same_by : {L : Type 0} (test : L → L → Bool) (first second : WholeTermsOf L)
    → ((φ : L → ℤ) → over φ first ≡ over φ second) → (label : L)
    → coefficient_by test first label ≡ coefficient_by test second label
same_by {L} test first second e label =
    by_over test first label ∙ e (λ l. cond (test l label) (pos 1) (pos 0))
    ∙ sym (by_over test second label)

-- if `new` is the empty list plus the terms `gained` (`Gains`), then for each φ the sum of c·φ(label) over the terms (label, c) of `new` is equal to
-- the same sum over the terms of `gained`
pub sums_gained : {L : Type 0} (gained new : WholeTermsOf L) → Gains [] gained new → (φ : L → ℤ)
    → over φ new ≡ over φ gained
sums_gained gained new a φ = let s = a.sums φ in omega (arith, ints)
