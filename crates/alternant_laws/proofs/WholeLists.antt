-- Lists of terms with integer coefficients, written with the coefficients as fractions over 1 (`as_fractions`).
--     numerators-as_fractions   the list of the numerators of these fractions is the given list
--     AreWhole-as_fractions     all denominators are 1
--     whole_counts              if all labels are partitions with at most k rows, and each partition ν with at most k rows has the coefficient
--                               count(ν), the list written with fractions satisfies `ListsCounts k count`, which is this condition for fractions
use Rattle.std.proofs.Common.{◌≡◌, ℕ, ◌≤◌, ℤ, pos, List, [], ◌∷◌, refl, sym, ◌∙◌, ap, subst}
use Rattle.sym_model.specs.Sum.{Among}
use Rattle.sym_model.specs.Polynomial.{coefficient}
use Rattle.sym_model.specs.Partition.{IsPartition, rows}
use Rattle.sym_model.specs.Expansion.{Fraction}
use Rattle.sym_model.specs.WholeTerms.{WholeTerms, WholeTermsOf, AreWhole, as_fractions}
use Rattle.sym_model.specs.WholeTerms.{numerators}
use Rattle.sym_model.proofs.Sums.{Among_from_map}
use Rattle.alternant_laws.specs.GoodSums.{ListsCounts}

pub numerators-as_fractions : {L : Type 0} (terms : WholeTermsOf L)
    → numerators (as_fractions terms) ≡ terms
numerators-as_fractions [] = refl
numerators-as_fractions (t ∷ terms) = ap (λ l. t ∷ l) (numerators-as_fractions terms)

pub AreWhole-as_fractions : {L : Type 0} (terms : WholeTermsOf L) → AreWhole (as_fractions terms)
AreWhole-as_fractions [] = tt
AreWhole-as_fractions (t ∷ terms) = (refl, AreWhole-as_fractions terms)

pub whole_counts : (k : ℕ) (count : List ℕ → ℕ) (terms : WholeTerms)
    → ((t : List ℕ × ℤ) → Among t terms → IsPartition t.0 × (rows t.0 ≤ k))
    → ((parts : List ℕ) → IsPartition parts → rows parts ≤ k
    → coefficient terms parts ≡ pos (count parts))
    → ListsCounts k count (as_fractions terms)
whole_counts k count terms labels counts = record {
  whole = AreWhole-as_fractions terms;
  labels = λ t m.
      let written : List ℕ × ℤ → List ℕ × Fraction = λ v. (v.0, (v.1, 1)) in
      let u = Among_from_map written t terms m in
      subst (λ (l : List ℕ). IsPartition l × (rows l ≤ k))
      (sym (ap (λ (v : List ℕ × Fraction). v.0) u.2)) (labels u.0 u.1);
  counts = λ parts p h.
      ap (λ (l : WholeTerms). coefficient l parts) (numerators-as_fractions terms)
      ∙ counts parts p h;
}
