-- The cost of a label bounds the sum of the absolute values of the coefficients in the list into which it is converted (specs/Costs). N bounds a
-- list in m (`IsBoundedBy`) if |c|·Π λ_i! ≤ N·|λ|! for each term c·m_λ. The cost of such a list is bounded here, if its labels have at most 15 cells:
-- the costs of all partitions of at most 15 cells are computed and added up.
--     cost-within          the cost of d! times the list, in augmented monomials, is at most N times the growth into h at d, which is d!·(2d)^d
--     has-factors          d! is at least the product of the factorials of the multiplicities of each label
use Rattle.std.proofs.Common.{◌≡◌, ◌⊎◌, ℕ, zero, suc, ◌+◌, ◌*◌, ◌/◌, ◌<◌, ◌≤◌, Bool, true, List, [], ◌∷◌, length, refl, sym, ap, ◌∙◌, subst, inl, inr, arith, ℤ, pos, flat_map, rules}
use Rattle.std.specs.Prelude.{nat_abs, nat_le, ◌==◌, ◌&&◌}
use Rattle.std.proofs.lemmas.Int.{unsigned_abs-mul}
use Rattle.std.proofs.lemmas.Bool.{cases_lt, and_parts, eqb-true, leb-true}
use Rattle.sym_model.specs.Sum.{Among, Within}
use Rattle.sym_model.specs.Partition.{IsPartition, size}
use Rattle.sym_model.specs.Bases.{down_from}
use Rattle.sym_model.specs.PartitionList.{partitions_of, partitions_within}
use Rattle.sym_model.specs.Expansion.{Basis}
use Rattle.sym_model.specs.ListWeight.{factorials}
use Rattle.sym_model.specs.WholeTerms.{WholeTerms, labels}
use Rattle.sym_model.specs.Weight.{factorial, growth}
use Rattle.sym_model.proofs.Sums.{Among-each, among_down_from}
use Rattle.sym_model.proofs.PartitionLists.{Among-partitions_of}
use Rattle.basis_change_laws.specs.AugmentedMonomial.{multiplicity_factorials}
use Rattle.sparse_polys.specs.Tables.{IsWholeTable}
use Rattle.sparse_polys.specs.LabelSizes.{AreWithin}
use Rattle.sparse_polys.proofs.WholeLists.{Once-labels, label-partition}
use Rattle.basis_change.specs.Clearing.{IsBoundedBy, augmented_number, augmented_terms, HasFactors}
use Rattle.basis_change.specs.Costs.{doubled, cost}
use native.Mathlib.Nat.{mul-le-mul_left, mul-le-mul_right}
use Rattle.monomial_laws.proofs.Growths.{factorial-positive}
use Rattle.linear_combinations.specs.Gains.{weighed}
use Rattle.sym_model.specs.Sum.{sum_by}
use Rattle.sym_model.proofs.NumberSums.{sum_by-part}
use Rattle.monomial_laws.proofs.Powers.{factorials-positive}
use Rattle.std.proofs.Math.Nat.{mul_assoc, mul-add}

-- ---- the sum of the costs of all labels of at most d cells, computed for each d up to 15

abbrev pub all_pass : (List ℕ → Bool) → List (List ℕ) → Bool
all_pass test [] = true
all_pass test (x ∷ xs) = test x && all_pass test xs

abbrev pub multinomial : List ℕ → ℕ
multinomial parts = factorial (size parts) / factorials parts

abbrev pub label_cost : ℕ → List ℕ → ℕ
label_cost d parts = (multinomial parts * (factorial d / multiplicity_factorials parts)) * (factorial (length parts) * doubled (size parts))

abbrev pub partitions_to : ℕ → List (List ℕ)
partitions_to d = flat_map partitions_of (down_from d)

abbrev pub divides_all : ℕ → List ℕ → Bool
divides_all d parts =
    ((factorial d / multiplicity_factorials parts) * multiplicity_factorials parts == factorial d)
    && (multinomial parts * factorials parts == factorial (size parts))

abbrev pub fits : ℕ → Bool
fits d = nat_le (sum_by (label_cost d) (partitions_to d)) (growth Basis.completes d) && all_pass (divides_all d) (partitions_to d)

abbrev pub all_below : ℕ → Bool
all_below zero = true
all_below (suc d) = fits d && all_below d

computed : all_below 16 ≡ true
unfolding partitions_within
computed = refl

fits-below : (n d : ℕ) → all_below n ≡ true → d < n → fits d ≡ true
fits-below zero d e h = absurd (omega arith)
fits-below (suc n) d e h = by (cases_lt d n) (λ l. fits-below n d (and_parts (fits n) (all_below n) e).1 l)
  where
    by : (d < n) ⊎ (n ≤ d) → (d < n → fits d ≡ true) → fits d ≡ true
    by (inl l) r = r l
    by (inr l) r = let same : n ≡ d = omega arith in subst (λ k. fits k ≡ true) same (and_parts (fits n) (all_below n) e).0

fits-at : (d : ℕ) → d ≤ 15 → fits d ≡ true
fits-at d h = fits-below 16 d computed (omega arith)

costs-within : (d : ℕ) → d ≤ 15 → sum_by (label_cost d) (partitions_to d) ≤ growth Basis.completes d
costs-within d h = leb-true _ _ (and_parts (nat_le (sum_by (label_cost d) (partitions_to d)) (growth Basis.completes d)) (all_pass (divides_all d) (partitions_to d)) (fits-at d h)).0

passes : (test : List ℕ → Bool) (xs : List (List ℕ)) (x : List ℕ) → all_pass test xs ≡ true → Among x xs → test x ≡ true
passes test [] x e m = absurd m
passes test (y ∷ xs) x e (inl i) = ap test i ∙ (and_parts (test y) (all_pass test xs) e).0
passes test (y ∷ xs) x e (inr m) = passes test xs x (and_parts (test y) (all_pass test xs) e).1 m

among_to : (d : ℕ) (parts : List ℕ) → IsPartition parts → size parts ≤ d → Among parts (partitions_to d)
among_to d parts p h = Among-each partitions_of (size parts) parts (down_from d) (among_down_from (size parts) d h) (Among-partitions_of (size parts) parts p refl)

pub record Divides (d : ℕ) (parts : List ℕ) : Type 0 where
  pub multiplicities : (factorial d / multiplicity_factorials parts) * multiplicity_factorials parts ≡ factorial d
  pub parts_are : multinomial parts * factorials parts ≡ factorial (size parts)

pub divides-at : (d : ℕ) (parts : List ℕ) → d ≤ 15 → IsPartition parts → size parts ≤ d → Divides d parts
divides-at d parts h p s =
    let t = passes (divides_all d) (partitions_to d) parts (and_parts (nat_le (sum_by (label_cost d) (partitions_to d)) (growth Basis.completes d)) (all_pass (divides_all d) (partitions_to d)) (fits-at d h)).1 (among_to d parts p s) in
    let q = and_parts ((factorial d / multiplicity_factorials parts) * multiplicity_factorials parts == factorial d) (multinomial parts * factorials parts == factorial (size parts)) t in
    record { multiplicities = eqb-true _ _ q.0; parts_are = eqb-true _ _ q.1 }

pub cancel-le : (a b c : ℕ) → 0 < c → a * c ≤ b * c → a ≤ b
cancel-le a b c p h = search rules

module _ (N d : ℕ) (low : d ≤ 15) where
  term-cost : (t : List ℕ × ℤ) → IsPartition t.0 → size t.0 ≤ d → nat_abs t.1 * factorials t.0 ≤ N * factorial (size t.0)
      → nat_abs (augmented_number (factorial d) t.0 t.1) * cost ([], t.0) ≤ N * label_cost d t.0
  term-cost t p s b =
      let W = nat_abs t.1 in
      let M = multinomial t.0 in
      let F = factorials t.0 in
      let k = factorial d / multiplicity_factorials t.0 in
      let C = factorial (length t.0) * doubled (size t.0) in
      let div = divides-at d t.0 low p s in
      let e : N * factorial (size t.0) ≡ (N * M) * F = ap (λ x. N * x) (sym div.parts_are) ∙ sym (mul_assoc N M F) in
      let h : W ≤ N * M = cancel-le W (N * M) F (factorials-positive t.0) (subst (λ x. nat_abs t.1 * factorials t.0 ≤ x) e b) in
      let g : W * (k * C) ≤ (N * M) * (k * C) = mul-le-mul_right (k * C) h in
      closing (nat_abs (augmented_number (factorial d) t.0 t.1)) W k C N M (unsigned_abs-mul t.1 (pos k)) g
    where
      closing : (x W k C N M : ℕ) → x ≡ W * k → W * (k * C) ≤ (N * M) * (k * C) → x * C ≤ N * ((M * k) * C)
      closing x W k C N M u g =
          let a : x * C ≡ (W * k) * C = ap (λ y. y * C) u in
          let b : (W * k) * C ≡ W * (k * C) = omega arith in
          let e : (N * M) * (k * C) ≡ N * ((M * k) * C) = omega arith in
          omega arith

  list-cost : (terms : WholeTerms) → ((t : List ℕ × ℤ) → Among t terms → IsPartition t.0) → AreWithin d terms → IsBoundedBy N terms
      → weighed cost (augmented_terms (factorial d) terms) ≤ N * sum_by (label_cost d) (labels terms)
  list-cost [] p w b = omega arith
  list-cost (t ∷ terms) p w b =
      let here = term-cost t (p t (inl refl)) (w t (inl refl)) (b t (inl refl)) in
      let later = list-cost terms (λ u m. p u (inr m)) (λ u m. w u (inr m)) (λ u m. b u (inr m)) in
      let e : N * (label_cost d t.0 + sum_by (label_cost d) (labels terms)) ≡ N * label_cost d t.0 + N * sum_by (label_cost d) (labels terms) = mul-add N (label_cost d t.0) (sum_by (label_cost d) (labels terms)) in
      omega arith

  labels_among : (terms : WholeTerms) → ((t : List ℕ × ℤ) → Among t terms → IsPartition t.0) → AreWithin d terms → Within (labels terms) (partitions_to d)
  labels_among [] p w x m = absurd m
  labels_among (t ∷ terms) p w x (inl e) = subst (λ l. Among l (partitions_to d)) (sym e) (among_to d t.0 (p t (inl refl)) (w t (inl refl)))
  labels_among (t ∷ terms) p w x (inr m) = labels_among terms (λ u n. p u (inr n)) (λ u n. w u (inr n)) x m

pub cost-within : (N d : ℕ) (terms : WholeTerms) → d ≤ 15 → IsWholeTable terms → AreWithin d terms → IsBoundedBy N terms → weighed cost (augmented_terms (factorial d) terms) ≤ N * growth Basis.completes d
cost-within N d terms low is w b =
    let p = label-partition terms is in
    let x = list-cost N d low terms p w b in
    let y = sum_by-part (label_cost d) (labels terms) (partitions_to d) (Once-labels terms is) (labels_among N d low terms p w) in
    let z = costs-within d low in
    let u : N * sum_by (label_cost d) (labels terms) ≤ N * growth Basis.completes d = mul-le-mul_left N (let t : sum_by (label_cost d) (labels terms) ≤ growth Basis.completes d = omega arith in t) in
    omega arith

pub has-factors : (d : ℕ) (terms : WholeTerms) → d ≤ 15 → IsWholeTable terms → AreWithin d terms → HasFactors (factorial d) terms
has-factors d terms low is w t m =
    let div = divides-at d t.0 low (label-partition terms is t m) (w t m) in
    let e = div.multiplicities in
    let f = factorial-positive d in
    small (factorial d / multiplicity_factorials t.0) (multiplicity_factorials t.0) (factorial d) e f
  where
    small : (k m f : ℕ) → k * m ≡ f → 0 < f → m ≤ f
    small zero m f e h = absurd (let z : 0 * m ≡ 0 = omega arith in omega arith)
    small (suc k) m f e h = let x : suc k * m ≡ m + k * m = omega arith in omega arith
