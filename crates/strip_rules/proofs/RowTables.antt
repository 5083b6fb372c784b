-- m_μ·h_k as a sum over the partitions that contain μ, and the product of a linear combination of monomial symmetric polynomials (a list in m) and
-- h_k.
--     row_sums          the partitions that contain μ give all of m_μ·h_k
--     product-at        the coefficients of a list times h_k
--     product-large     a coefficient of 2^127 or more in the product of h_k and a list with its coefficients replaced by their absolute values
use Rattle.std.proofs.Common.{◌≡◌, ℕ, ◌+◌, ◌^◌, ◌≤◌, Bool, true, false, cond, ◌==◌, List, [], sym, ◌∙◌, subst, arith, ℤ, pos, ◌*ℤ◌, rules}
use Rattle.std.specs.Prelude.{nat_abs, ◌≤ℤ◌}
use Rattle.std.proofs.lemmas.Bool.{cases_lt, eqb-true, eq-eqb, both_ways}
use Rattle.std.proofs.lemmas.Int.{ints}
use Rattle.sym_model.specs.Sum.{total}
use Rattle.sym_model.specs.Partition.{IsPartition, size}
use Rattle.sym_model.specs.PartitionList.{partitions_of}
use Rattle.sym_model.specs.Polynomial.{coefficient}
use Rattle.sym_model.specs.WholeTerms.{WholeTerms}
use Rattle.sym_model.proofs.Sums.{total_map, total_none, total_only, total_part}
use Rattle.sym_model.proofs.Exponents.{same_from, same_apart}
use Rattle.sym_model.proofs.PartitionLists.{partitions_of-tells, Among-partitions_of, Once-partitions_of}
use Rattle.monomial_laws.specs.ExpressionTerms.{absolute, complete_terms}
use Rattle.monomial_laws.specs.MonomialProduct.{product_coefficient}
use Rattle.strip_rules.specs.StripProduct.{placings}
use Rattle.strip_rules.proofs.Placings.{placings-hold, placings-lists}
use Rattle.linear_combinations.specs.Gains.{over, only, counted, replaced, HaveLabels, Gains, Overflows}
use Rattle.linear_combinations.proofs.Labels.{same_partition}
use Rattle.linear_combinations.proofs.Counted.{each_by-over, each_by-labels, counted_counts, replaced_at, replaced_mass}
use Rattle.linear_combinations.proofs.Found.{coefficient_over, coefficient_gained, mass_overflows}
use Rattle.linear_combinations.proofs.Masses.{label_held, labels_replaced}
use Rattle.product_laws.specs.StripLists.{ListsEach}
use Rattle.sparse_polys.specs.Tables.{equal}
use Rattle.strip_rules.specs.Rows.{AddsCells, with_placings, row_terms}
use lib.IntN.{zero-*ℤ}

-- ---- the product m_μ·h_k

pub row_sums : (k : ℕ) (μ : List ℕ) (shapes : List (List ℕ)) → IsPartition μ → ListsEach (AddsCells k μ) shapes
    → (φ : List ℕ → ℤ) → over φ (with_placings μ shapes) ≡ over φ (row_terms k μ)
row_sums k μ shapes p l φ =
    search (rules, each_by-over, total_part, Once-partitions_of, Among-partitions_of, partitions_of-tells, cases_lt, placings-hold, zero-*ℤ)

-- in the list of all partitions ρ of d with the coefficients count(ρ), the coefficient of ν is count(ν) if |ν| = d, and 0 otherwise; b is true if and
-- only if |ν| = d
listed_at : (d : ℕ) (count : List ℕ → ℕ) (ν : List ℕ) → IsPartition ν → (b : Bool) → (b ≡ true → size ν ≡ d) → (b ≡ false → size ν ≡ d → ⊥)
    → coefficient (counted count (partitions_of d)) ν ≡ cond b (pos (count ν)) (pos 0)
listed_at d count ν p b here there =
    search (rules, total_map, total_only, Once-partitions_of, Among-partitions_of, same_apart, same_from, total_none, partitions_of-tells)

complete_at : (k : ℕ) (parts : List ℕ) → IsPartition parts → coefficient (complete_terms k) parts ≡ cond (size parts == k) (pos 1) (pos 0)
complete_at k parts p =
    listed_at k (λ ρ. 1) parts p (size parts == k) (λ t. eqb-true (size parts) k t) (λ f e. both_ways (size parts == k) f (eq-eqb (size parts) k e))

row_labels : (k : ℕ) (list : WholeTerms) → HaveLabels IsPartition (replaced (row_terms k) list)
row_labels k list =
    labels_replaced (row_terms k) IsPartition list
    (λ t m. each_by-labels (λ ν. pos (placings t.0 ν)) IsPartition (partitions_of (size t.0 + k)) (λ ν n. (partitions_of-tells (size t.0 + k) ν n).0))

module _ (k : ℕ) (ν : List ℕ) (p : IsPartition ν) where
  abbrev row_at : List ℕ → ℤ
  row_at μ = cond (size μ + k == size ν) (pos (placings μ ν)) (pos 0)

  row_only : (μ : List ℕ) → over (only equal ν) (row_terms k μ) ≡ row_at μ
  row_only μ =
      sym (coefficient_over (row_terms k μ) ν)
      ∙ listed_at (size μ + k) (placings μ) ν p (size μ + k == size ν)
      (λ t. sym (eqb-true (size μ + k) (size ν) t)) (λ f e. both_ways (size μ + k == size ν) f (eq-eqb (size μ + k) (size ν) (sym e)))

  pub product-at : (list old product : WholeTerms) → old ≡ [] → Gains old (replaced (row_terms k) list) product → coefficient product ν ≡ product_coefficient list (complete_terms k) ν
  product-at list old product none a =
      coefficient_gained old (replaced (row_terms k) list) product ν none a
      ∙ replaced_at (row_terms k) row_at (only equal ν) list (λ t m. row_only t.0)
      ∙ sym (placings-lists k list (complete_terms k) (complete_at k) ν)

  large-at : (list : WholeTerms) → pos (2 ^ 127) ≤ℤ total (λ (t : List ℕ × ℤ). pos (nat_abs t.1) *ℤ row_at t.0) list → pos (2 ^ 127) ≤ℤ product_coefficient (absolute list) (complete_terms k) ν
  large-at list h =
      subst (λ (z : ℤ). pos (2 ^ 127) ≤ℤ z)
      (sym (total_map (λ (t : List ℕ × ℤ). t.1 *ℤ row_at t.0) (λ (t : List ℕ × ℤ). (t.0, pos (nat_abs t.1))) list)
      ∙ sym (placings-lists k (absolute list) (complete_terms k) (complete_at k) ν)) h

pub product-large : (k : ℕ) (list old : WholeTerms) → old ≡ [] → Overflows equal old (replaced (row_terms k) list)
    → (ν : List ℕ) × IsPartition ν × (pos (2 ^ 127) ≤ℤ product_coefficient (absolute list) (complete_terms k) ν)
product-large k list old none overflow =
    let o = mass_overflows equal old (replaced (row_terms k) list) none overflow in
    let l = o.1 in
    let p = label_held equal same_partition IsPartition (replaced (row_terms k) list) o.0 (row_labels k list) (omega (arith, l)) in
    let mass = replaced_mass (row_terms k) (row_at k o.0 p) equal o.0 list (λ μ. counted_counts (placings μ) (partitions_of (size μ + k))) (λ t m. row_only k o.0 p t.0) in
    (o.0, p, large-at k o.0 p list (subst (λ (z : ℤ). pos (2 ^ 127) ≤ℤ z) mass (omega (arith, ints, l))))
