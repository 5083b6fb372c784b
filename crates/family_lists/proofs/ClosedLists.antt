-- The expansions of p_k, k!·e_k and k!·h_k in another of the bases e, h and p, as lists of terms with coefficients in closed form. A table is a list
-- of terms in which each label occurs only once and no coefficient is 0.
--     listed-fits                  if the coefficients are added one partition after another, then no addition overflows
--     closed-stands                a table with these coefficients is a list of p_k, k!·e_k or k!·h_k (`IsFactor`)
--     scaled-low, sized-low, cycles-low, ..     bounds for the absolute values of the coefficients
use Rattle.std.proofs.Common.{◌≡◌, ℕ, ◌-◌, ◌*◌, ◌<◌, ◌≤◌, ◌^◌, List, [], ◌∷◌, ◌++◌, length, refl, sym, ap, ap₂, ◌∙◌, subst, inl, inr, arith, ℤ, pos, cond, ◌+ℤ◌, ◌*ℤ◌, lit<}
use Rattle.std.specs.Prelude.{FitsSigned, ◌≢◌}
use Rattle.std.specs.Int.{w128}
use Rattle.std.proofs.lemmas.Nat.{mul-le}
use Rattle.fraction_laws.specs.Checked.{checked_i128}
use Rattle.linear_combinations.specs.Entries.{coefficient as look_up, IsRefused}
use Rattle.sym_model.specs.Sum.{Among, Once}
use Rattle.sym_model.specs.Polynomial.{Poly, Same, same, coefficient, scale}
use Rattle.sym_model.specs.Partition.{IsPartition, size}
use Rattle.sym_model.specs.PartitionList.{partitions_of}
use Rattle.sym_model.specs.Weight.{factorial}
use Rattle.sym_model.specs.WholeTerms.{WholeTerms}
use Rattle.sym_model.proofs.Lists.{map-map}
use Rattle.sym_model.proofs.Numbers.{power-positive, times-more}
use Rattle.sym_model.proofs.Ring.{one-product, product_left_comm}
use Rattle.sym_model.proofs.Sums.{total_map, total_none}
use Rattle.sym_model.proofs.Exponents.{same_apart}
use Rattle.sym_model.proofs.SortedParts.{rows_within_size}
use Rattle.sym_model.proofs.PartitionLists.{partitions_of-tells, Once-FallsLexicographically, FallsLexicographically-partitions_within}
use Rattle.monomial_laws.proofs.Growths.{factorial-mono}
use Rattle.basis_change_laws.specs.AugmentedMonomial.{multiplicity_factorials}
use Rattle.basis_change_laws.specs.JoinedLists.{Stands}
use Rattle.basis_change_laws.proofs.JoinedLists.{stands-raised, stands-weaken}
use Rattle.family_list_laws.specs.OnePartLists.{orders_of_parts, sized_orders, cycle_type_count, centralizer, parity_sign, signed_orders, list_over}
use Rattle.family_list_laws.proofs.OnePartLists.{elementary-list, complete-list, power-complete-list, power-elementary-list, elementary-power-list, complete-power-list}
use Rattle.family_list_laws.proofs.PartQuotients.{orders-whole, sized-whole, cycles-whole, multiplicities-positive, centralizer-positive}
use Rattle.sparse_polys.specs.Tables.{equal, IsWholeTable}
use Rattle.sparse_polys.specs.declared.family.Family.{Family}
use Rattle.sparse_polys.specs.declared.family.Family.TheVariants.{Elementary, Complete, PowerSum}
use Rattle.sparse_polys.specs.Families.{polynomial_of}
use Rattle.sparse_polys.proofs.WholeLists.{Finds, not_refused}
use Rattle.sparse_polys.proofs.PartitionTerms.{once_before}
use Rattle.family_lists.specs.ClosedCoefficients.{closed_coefficient}
use Rattle.family_lists.specs.FactorLists.{IsFactor}
use Rattle.linear_combinations.specs.Gains.{each_by}
use Rattle.family_lists.proofs.TableLists.{table-stands}

coefficient-absent : (c : List ℕ → ℤ) (labels : List (List ℕ)) (label : List ℕ)
    → (Among label labels → ⊥) → coefficient (each_by c labels) label ≡ pos 0
coefficient-absent c labels label n =
    total_map (λ (t : List ℕ × ℤ). cond (same t.0 label) t.1 (pos 0))
    (λ (μ : List ℕ). (μ, c μ)) labels
    ∙ total_none (λ (μ : List ℕ). cond (same μ label) (c μ) (pos 0)) labels
    (λ μ m.
    ap (λ b. cond b (c μ) (pos 0))
    (same_apart μ label (λ e. n (subst (λ x. Among x labels) e m))))

-- suppose that the coefficient in `terms` is c(μ) at each partition μ of k that is listed before `label`, and 0 at all other labels. Then adding z to
-- the coefficient of `label`, which is 0, never overflows
pub listed-fits : (c : List ℕ → ℤ) (k : ℕ) (before new : List (List ℕ)) (label key : List ℕ)
    (terms : WholeTerms) (z : ℤ)
    → Finds terms (each_by c before) → before ++ (label ∷ new) ≡ partitions_of k → key ≡ label
    → IsRefused (FitsSigned w128) (λ (x y : ℤ). checked_i128 (x +ℤ y))
    (look_up equal (pos 0) terms key) z → ⊥
listed-fits c k before new label key terms z h e same r =
    not_refused (look_up equal (pos 0) terms key) z
    (h key
    ∙ ap (coefficient (each_by c before)) same
    ∙ coefficient-absent c before label
    (once_before before new label
    (subst Once (sym e)
    (Once-FallsLexicographically (partitions_of k)
    (FallsLexicographically-partitions_within k k k)))))
    r

listed-same : (c d : List ℕ → ℤ) (labels : List (List ℕ))
    → ((μ : List ℕ) → Among μ labels → c μ ≡ d μ) → each_by c labels ≡ each_by d labels
listed-same c d [] h = refl
listed-same c d (μ ∷ labels) h =
    ap₂ (λ (z : ℤ) (l : WholeTerms). (μ, z) ∷ l) (h μ (inl refl))
    (listed-same c d labels (λ ν m. h ν (inr m)))

times-orders : (k : ℕ) (μ : List ℕ) → size μ ≡ k
    → pos (factorial k) *ℤ signed_orders μ
    ≡ parity_sign μ *ℤ pos (factorial (size μ) * orders_of_parts μ)
times-orders k μ e =
    product_left_comm (pos (factorial k)) (parity_sign μ) (pos (orders_of_parts μ))
    ∙ ap (λ n. parity_sign μ *ℤ pos (factorial n * orders_of_parts μ)) (sym e)

scaled-list : (k : ℕ) → scale (pos (factorial k)) (list_over signed_orders k)
    ≡ each_by (λ μ. parity_sign μ *ℤ pos (factorial (size μ) * orders_of_parts μ)) (partitions_of k)
scaled-list k =
    map-map (λ (t : List ℕ × ℤ). (t.0, pos (factorial k) *ℤ t.1))
    (λ (μ : List ℕ). (μ, signed_orders μ)) (partitions_of k)
    ∙ listed-same (λ μ. pos (factorial k) *ℤ signed_orders μ)
    (λ μ. parity_sign μ *ℤ pos (factorial (size μ) * orders_of_parts μ)) (partitions_of k)
    (λ μ m. times-orders k μ (partitions_of-tells k μ m).1)

exchanged-stands : (P : ℕ → ℕ → Poly) (k : ℕ) (f : ℕ → Poly)
    → Stands P 1 (2 ^ k) k f (list_over signed_orders k)
    → Stands P (factorial k) (factorial k * 2 ^ k) k f
    (each_by (λ μ. parity_sign μ *ℤ pos (factorial (size μ) * orders_of_parts μ)) (partitions_of k))
exchanged-stands P k f s =
    let one : factorial k * 1 ≡ factorial k = omega arith in
    subst (Stands P (factorial k) (factorial k * 2 ^ k) k f) (scaled-list k)
    (stands-raised P 1 (2 ^ k) (factorial k * 2 ^ k) k (factorial k) (factorial k) f
    (list_over signed_orders k) s one (omega arith))

more : (k : ℕ) → factorial k ≤ factorial k * 2 ^ k
more k = times-more (factorial k) (2 ^ k) (power-positive 2 k (omega arith))

pub closed-list : (target family : Family) (k : ℕ) → target ≢ family → 0 < k
    → IsFactor (polynomial_of target) family k
    (each_by (closed_coefficient target family) (partitions_of k))
closed-list Elementary Elementary k n h = absurd (n refl)
closed-list Elementary Complete k n h =
    exchanged-stands (polynomial_of Elementary) k (λ n. polynomial_of Complete k n) (complete-list k)
closed-list Elementary PowerSum k n h = power-elementary-list k h
closed-list Complete Elementary k n h =
    exchanged-stands (polynomial_of Complete) k (λ n. polynomial_of Elementary k n)
    (elementary-list k)
closed-list Complete Complete k n h = absurd (n refl)
closed-list Complete PowerSum k n h = power-complete-list k h
closed-list PowerSum Elementary k n h =
    stands-weaken (polynomial_of PowerSum) (factorial k) (factorial k) (factorial k * 2 ^ k) k k
    (λ n. polynomial_of Elementary k n) (list_over (closed_coefficient PowerSum Elementary) k)
    (elementary-power-list k) (more k) (omega arith)
closed-list PowerSum Complete k n h =
    stands-weaken (polynomial_of PowerSum) (factorial k) (factorial k) (factorial k * 2 ^ k) k k
    (λ n. polynomial_of Complete k n) (list_over (closed_coefficient PowerSum Complete) k)
    (subst (Stands (polynomial_of PowerSum) (factorial k) (factorial k) k
    (λ n. polynomial_of Complete k n))
    (listed-same (λ μ. pos (cycle_type_count μ)) (closed_coefficient PowerSum Complete)
    (partitions_of k) (λ μ m. sym (one-product (pos (cycle_type_count μ)))))
    (complete-power-list k)) (more k) (omega arith)
closed-list PowerSum PowerSum k n h = absurd (n refl)

pub closed-stands : (target family : Family) (k : ℕ) (terms : WholeTerms) → target ≢ family → 0 < k
    → IsWholeTable terms → Same terms (each_by (closed_coefficient target family) (partitions_of k))
    → IsFactor (polynomial_of target) family k terms
closed-stands target family k terms n h is e =
    table-stands terms (each_by (closed_coefficient target family) (partitions_of k)) is e
    (polynomial_of target) _ _ k (λ n. polynomial_of family k n) (closed-list target family k n h)

pub some_row : (label : List ℕ) → 0 < size label → 0 < length label
some_row [] h = absurd (omega arith)
some_row (a ∷ label) h = omega arith

module _ (label : List ℕ) (p : IsPartition label) (low : size label ≤ 20) where
  pub rows-low : length label ≤ 20
  rows-low = let r = rows_within_size label p.positive in omega arith

  pub scaled-low : factorial (size label) * orders_of_parts label < 2 ^ 127
  scaled-low =
      let w = orders-whole label p in
      let q = times-more (orders_of_parts label) (multiplicity_factorials label)
      (multiplicities-positive label) in
      let f = factorial-mono (length label) 20 rows-low in
      let m = mul-le (factorial (size label)) (orders_of_parts label) (factorial 20) (factorial 20)
      (factorial-mono (size label) 20 low) (omega arith) in
      let top : factorial 20 * factorial 20 < 2 ^ 127 = lit< tt in
      omega arith

  pub cycles-low : cycle_type_count label < 2 ^ 127
  cycles-low =
      let w = cycles-whole label p in
      let q = times-more (cycle_type_count label) (centralizer label)
      (centralizer-positive label p) in
      let f = factorial-mono (size label) 20 low in
      let top : factorial 20 < 2 ^ 127 = lit< tt in
      omega arith

  pub numerator-low : size label * factorial (length label - 1) < 2 ^ 127
  numerator-low =
      let r = rows-low in
      let m = mul-le (size label) (factorial (length label - 1)) 20 (factorial 20) low
      (factorial-mono (length label - 1) 20 (omega arith)) in
      let top : 20 * factorial 20 < 2 ^ 127 = lit< tt in
      omega arith

  pub sized-low : 0 < size label → sized_orders label < 2 ^ 127
  sized-low some =
      let w = sized-whole label p (some_row label some) in
      let q = times-more (sized_orders label) (multiplicity_factorials label)
      (multiplicities-positive label) in
      let n = numerator-low in
      omega arith
