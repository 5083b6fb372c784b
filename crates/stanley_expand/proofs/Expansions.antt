-- The transition rule is applied to start = 1^m × w, that is, to w after m fixed letters: its Schubert polynomial in m variables is the Stanley
-- polynomial of w. The result is a list of Schur polynomials with coefficients.
--     past_from         if S_start in m variables has a Schur coefficient of at least 2^127, the Stanley polynomial has one, too
--     answer_from       the sum of the Schur polynomials of the list is the Stanley polynomial
--     sum_represents    so the list expands it
--     labels_within     the partitions of the list have at most m rows
--     none_past         if the coefficients of the list fit in 128 bits, no Schur coefficient of the Stanley polynomial exceeds 2^127 - 1
use Rattle.std.proofs.Common.{◌≡◌, ℕ, ◌^◌, ◌≤◌, List, [], refl, sym, ◌∙◌, ap, subst, arith, ℤ, pos, ◌≤ℤ◌}
use Rattle.std.specs.Prelude.{nat_eq, Result, Ok, Err, IfOk}
use Rattle.std.specs.Cmp.Lexicographic.{pointwise, nat_list_eq_equiv}
use Rattle.std.proofs.lemmas.Int.{ints}
use Rattle.sym_model.specs.Sum.{Among}
use Rattle.sym_model.specs.Polynomial.{Poly, pair}
use Rattle.sym_model.specs.Partition.{rows}
use Rattle.sym_model.specs.Permutation.{IsOneLine, kept}
use Rattle.sym_model.specs.Alternant.{schur_coefficient}
use Rattle.sym_model.specs.Schur.{schur}
use Rattle.sym_model.specs.Schubert.{schubert_in}
use Rattle.sym_model.specs.Stanley.{behind, stanley_in}
use Rattle.sym_model.specs.Expansion.{Fraction, IsExpansionOf, schurs}
use Rattle.sym_model.specs.WholeTerms.{WholeTerms, as_fractions}
use Rattle.sym_model.proofs.Sums.{Among_from_map}
use Rattle.sym_model.proofs.Polynomials.{pair_determined}
use Rattle.sym_model.proofs.Integers.{is_past-tells, is_past-from}
use Rattle.sym_model.specs.PastLimit.{HasPast, IsCoefficientOfStanley}
use Rattle.fraction_laws.specs.Fractions.{whole}
use Rattle.linear_combinations.specs.Entries.{HasSameCoefficients, IsWholeTable}
use Rattle.linear_combinations.specs.Gains.{over, only}
use Rattle.linear_combinations.proofs.Labels.{same_partition}
use Rattle.linear_combinations.proofs.Gains.{over_at}
use Rattle.linear_combinations.proofs.Masses.{represents_sums}
use Rattle.linear_combinations.proofs.Totals.{carried}
use Rattle.stanley_expand.specs.SchurPositive.{schur_test}
use Rattle.stanley_expand.proofs.FixedFront.{schubert_behind}
use Rattle.stanley_expand.proofs.SchurPositive.{schur_coefficient_is}
use Rattle.stanley_expand.specs.Walk.{AreShapes, walked, HasLargeShape}
use Rattle.stanley_expand.specs.Blocks.{AreLabels, IsSumFor}
use Rattle.stanley_expand.proofs.Steps.{over_schurs}
use lib.IntN.{+ℤ_idr}

start_pairs : (m : ℕ) (w start : List ℕ) (φ : List ℕ → ℤ) → IsOneLine w → start ≡ kept (behind m w) → pair (schubert_in start m) φ ≡ pair (stanley_in w m) φ
start_pairs m w start φ o e = ap (λ u. pair (schubert_in u m) φ) e ∙ pair_determined (schubert_in (kept (behind m w)) m) (stanley_in w m) φ (schubert_behind m w o)

module _ (m : ℕ) (w start : List ℕ) (o : IsOneLine w) (e : start ≡ kept (behind m w)) where
  -- if some Schur coefficient of S_start in m variables is at least 2^127, some Schur coefficient of the Stanley polynomial exceeds 2^127 - 1
  pub past_from : HasLargeShape m (λ φ. pair (schubert_in start m) φ) → HasPast (IsCoefficientOfStanley m w)
  past_from (κ, q, few, large) =
      let is : pair (schubert_in start m) (schur_test m κ) ≡ schur_coefficient m κ (stanley_in w m) =
      start_pairs m w start (schur_test m κ) o e ∙ sym (schur_coefficient_is m κ (stanley_in w m)) in (
        schur_coefficient m κ (stanley_in w m),
        record { parts = κ; partition = q; within = few; is = refl },
        is_past-from (schur_coefficient m κ (stanley_in w m)) (subst (λ z. pos (2 ^ 127) ≤ℤ z) is large),
      )

  sum_from : (sum : WholeTerms) → ((φ : List ℕ → ℤ) → walked m φ sum [] ≡ pair (schubert_in start m) φ) → AreShapes m sum → IsSumFor m (stanley_in w m) sum
  sum_from sum value is = record {
    value = λ φ. sym (+ℤ_idr (over (λ κ. pair (schur κ m) φ) sum)) ∙ value φ ∙ start_pairs m w start φ o e;
    labels = record { table = is.table; held = is.held; few = is.few };
  }

  pub answer_from : {E : Type 0} (r : Result WholeTerms E) → IfOk r (λ sum. (φ : List ℕ → ℤ) → walked m φ sum [] ≡ pair (schubert_in start m) φ) → IfOk r (AreShapes m)
      → IfOk r (IsSumFor m (stanley_in w m))
  answer_from (Ok sum) value is = sum_from sum value is
  answer_from (Err e) value is = tt

pub sum_represents : (m : ℕ) (f : Poly) (sum : WholeTerms) → IsSumFor m f sum → IsExpansionOf schurs (as_fractions sum) m f 1
sum_represents m f sum is = represents_sums (λ κ. schur κ m) sum f is.value

-- if the Stanley polynomial is a sum whose coefficients fit in 128 bits (`AreLabels`), none of its Schur coefficients exceeds 2^127 - 1
pub none_past : (m : ℕ) (w : List ℕ) (sum : WholeTerms) → IsSumFor m (stanley_in w m) sum → HasPast (IsCoefficientOfStanley m w) → ⊥
none_past m w sum is (c, d, large) =
    let a : c ≡ over (only (pointwise nat_eq) d.parts) sum =
    d.is ∙ schur_coefficient_is m d.parts (stanley_in w m) ∙ sym (is.value (schur_test m d.parts)) ∙ over_schurs m d.parts sum is.labels.table d.partition d.within in
    let f = over_at nat_list_eq_equiv same_partition sum is.labels.table.distinct d.parts in
    let g = is.labels.held.at_label d.parts in
    let p = is_past-tells c large in
    absurd (omega (arith, ints))

-- if `terms` has the coefficients of `sum`, and the partitions of `sum` have at most m rows, the partitions of `terms` have at most m rows
pub labels_within : (m : ℕ) (sum terms : WholeTerms) → AreLabels m sum → IsWholeTable terms → HasSameCoefficients (pointwise nat_eq) (pos 0) sum terms
    → (t : List ℕ × Fraction) → Among t (as_fractions terms) → rows t.0 ≤ m
labels_within m sum terms is also same t k =
    let c = Among_from_map (λ (u : List ℕ × ℤ). (u.0, (u.1, 1))) t terms k in
    let few = is.few c.0 (carried nat_list_eq_equiv same_partition (pos 0) whole refl terms sum also c.0 c.1 (sym (same (c.0).0))) in
    let e = ap (λ (u : List ℕ × Fraction). rows u.0) c.2 in
    omega arith
