-- The products of e_k with m_μ, and with a linear combination of monomial symmetric polynomials (a list in m), as sums over vertical strips.
--     column_sums       the sum of φ(ν) times the coefficient of m_ν in m_μ·e_k needs only the ν for which ν/μ is a vertical strip
--     product_value     the coefficients of a list times e_k
--     product_large     a coefficient of 2^127 or more in the product of e_k and a list with its coefficients replaced by their absolute values
use Rattle.std.proofs.Common.{◌≡◌, ◌⊎◌, ℕ, ◌+◌, ◌^◌, ◌<◌, ◌≤◌, List, sym, ap, ◌∙◌, subst, inl, inr, arith, ℤ, pos, ◌*ℤ◌, rules}
use Rattle.std.specs.Prelude.{nat_abs, ◌≤ℤ◌}
use Rattle.std.proofs.lemmas.Bool.{cases_lt}
use Rattle.std.proofs.lemmas.Int.{ints}
use Rattle.sym_model.specs.Sum.{Among}
use Rattle.sym_model.specs.Partition.{IsPartition, part, size}
use Rattle.sym_model.specs.PartitionList.{partitions_of}
use Rattle.sym_model.specs.Polynomial.{pair}
use Rattle.sym_model.specs.WholeTerms.{WholeTerms}
use Rattle.sym_model.proofs.PartitionLists.{Among-partitions_of, Once-FallsLexicographically, Once-partitions_of, partitions_of-tells}
use Rattle.sym_model.proofs.Polynomials.{pair_ext}
use Rattle.sym_model.proofs.Sums.{total_map, total_part}
use Rattle.monomial_laws.specs.ExpressionTerms.{absolute, elementary_terms}
use Rattle.monomial_laws.specs.MonomialProduct.{product_coefficient}
use Rattle.monomial_laws.proofs.Arrangements.{arrangements-comm}
use Rattle.monomial_laws.proofs.Splits.{product_coefficient-arrangements}
use Rattle.strip_rules.proofs.ColumnArrangements.{column-strips}
use Rattle.strip_rules.proofs.ShapeCounts.{column-shapes}
use Rattle.linear_combinations.specs.Gains.{over, only, mass_at, counted, replaced, HaveLabels}
use Rattle.linear_combinations.proofs.Labels.{same_partition}
use Rattle.linear_combinations.proofs.Counted.{each_by-over, each_by-labels, counted_counts, replaced_at, replaced_mass}
use Rattle.linear_combinations.proofs.Found.{coefficient_over}
use Rattle.linear_combinations.proofs.Masses.{label_held, labels_replaced}
use Rattle.sparse_polys.specs.Large.{ProductIsLarge}
use Rattle.sparse_polys.specs.Tables.{equal}
use Rattle.skew_shapes.specs.VerticalStrips.{AreVerticalStrips, vertical_on}
use Rattle.skew_shapes.proofs.ShapeLists.{vertical_strips}
use Rattle.strip_rules.specs.Columns.{column_count, column_terms}
use lib.IntN.{zero-*ℤ}
use Rattle.sym_model.proofs.Integers.{single_term}

-- ---- the product m_μ·e_k for one label μ

module _ (k : ℕ) (μ : List ℕ) (p : IsPartition μ) where
  column_labels : HaveLabels IsPartition (column_terms k μ)
  column_labels = each_by-labels (λ ν. pos (column_count k μ ν)) IsPartition (partitions_of (size μ + k))
      (λ ν m. (partitions_of-tells (size μ + k) ν m).0)

  -- if `shapes` are the ν for which ν/μ is a vertical strip of k cells, the sum of φ(ν) times the coefficient of m_ν in m_μ·e_k over `shapes` is the
  -- sum over all partitions ν of |μ| + k cells, since the coefficient is 0 for every other ν
  pub column_sums : (shapes : List (List ℕ)) → AreVerticalStrips μ k shapes → (φ : List ℕ → ℤ)
      → over φ (counted (column_count k μ) shapes) ≡ over φ (column_terms k μ)
  column_sums shapes s φ =
      each_by-over (λ ν. pos (column_count k μ ν)) φ shapes
      ∙ total_part (λ (ν : List ℕ). pos (column_count k μ ν) *ℤ φ ν) shapes (partitions_of (size μ + k))
      (Once-FallsLexicographically shapes s.falls) (Once-partitions_of (size μ + k))
      (λ ν m. let a = (s.members ν).0 m in Among-partitions_of (size μ + k) ν a.0 a.1)
      (λ ν m n. none ν (partitions_of-tells (size μ + k) ν m).0 n (cases_lt 0 (column_count k μ ν)))
      ∙ sym (each_by-over (λ ν. pos (column_count k μ ν)) φ (partitions_of (size μ + k)))
    where
      none : (ν : List ℕ) → IsPartition ν → (Among ν shapes → ⊥)
          → (0 < column_count k μ ν) ⊎ (column_count k μ ν ≤ 0)
          → pos (column_count k μ ν) *ℤ φ ν ≡ pos 0
      none ν q n (inl l) =
          let strip = column-strips k μ ν p q l in absurd (n ((s.members ν).1 (q, strip.1, strip.0)))
      none ν q n (inr l) =
          let zero : column_count k μ ν ≡ 0 = omega arith in
          ap (λ i. pos i *ℤ φ ν) zero ∙ zero-*ℤ (φ ν)

  column_at : (ν : List ℕ) → IsPartition ν
      → over (only equal ν) (column_terms k μ) ≡ pos (column_count k μ ν)
  column_at ν q =
      let shapes = vertical_on (part μ 1 + 1) k μ in
      let strips = vertical_strips μ k p in
      sym (column_sums shapes strips (only equal ν))
      ∙ sym (coefficient_over (counted (column_count k μ) shapes) ν)
      ∙ column-shapes k μ shapes p (Once-FallsLexicographically shapes strips.falls) strips.members ν q

by_labels : (k : ℕ) (list : WholeTerms) (ν : List ℕ)
    → pair list (λ μ. pos (column_count k μ ν)) ≡ product_coefficient (elementary_terms k) list ν
by_labels k list ν = search (rules, pair_ext, arrangements-comm, single_term, product_coefficient-arrangements)

pub product_value : (k : ℕ) (list : WholeTerms) (ν : List ℕ) → HaveLabels IsPartition list
    → IsPartition ν
    → over (only equal ν) (replaced (column_terms k) list)
    ≡ product_coefficient (elementary_terms k) list ν
product_value k list ν h q =
    replaced_at (column_terms k) (λ μ. pos (column_count k μ ν)) (only equal ν) list
    (λ t m. column_at k t.0 (h t m) ν q)
    ∙ by_labels k list ν

pub product_large : (k : ℕ) (list : WholeTerms) (x : List ℕ) → HaveLabels IsPartition list
    → 2 ^ 127 ≤ mass_at equal x (replaced (column_terms k) list)
    → ProductIsLarge (elementary_terms k) list
product_large k list x h l =
    let q = label_held equal same_partition IsPartition (replaced (column_terms k) list) x
    (labels_replaced (column_terms k) IsPartition list (λ t m. column_labels k t.0 (h t m)))
    (omega (arith, l)) in
    let mass = replaced_mass (column_terms k) (λ μ. pos (column_count k μ x)) equal x list
    (λ μ. counted_counts (column_count k μ) (partitions_of (size μ + k)))
    (λ t m. column_at k t.0 (h t m) x q)
    ∙ sym (total_map (λ (t : List ℕ × ℤ). t.1 *ℤ pos (column_count k t.0 x))
    (λ (t : List ℕ × ℤ). (t.0, pos (nat_abs t.1))) list)
    ∙ by_labels k (absolute list) x in
    (x, q, subst (λ z. pos (2 ^ 127) ≤ℤ z) mass (omega (arith, ints, l)))
