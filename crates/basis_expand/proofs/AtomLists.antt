-- Lists in m of the product of e_k, h_k or p_k over the parts k of a partition, one factor after another. A list of f in m is a list of terms c·m_λ
-- with the sum f, in every number of variables. The growth into m at the degree d is d^d (0^0 is 1).
--     IsBounded-one, -product        the coefficients of one factor, and of the product of all, are at most those of a power of x_1 + .. + x_n
--     list-more, -times              a list of the product with one more factor: its coefficients are given, or its polynomial is given
--     large-factor, -later           if a product of lists has a coefficient of 2^127 or more, the growth is 2^127 or more
--     have_room, few_cells           with k more cells, the labels still have at most 512 cells
use Rattle.std.proofs.Common.{◌≡◌, true, ℕ, ◌+◌, ◌^◌, ◌<◌, ◌≤◌, List, [], ◌∷◌, map, length, sym, ap, subst, refl, arith, pos, append-nil, rules}
use Rattle.std.specs.Prelude.{◌≤ℤ◌, Result, IfOk}
use Rattle.std.proofs.lemmas.Int.{ints}
use Rattle.calc_base.specs.declared.faults.SumFault.{SumFault}
use Rattle.sym_model.specs.Sum.{Once}
use Rattle.sym_model.specs.Partition.{IsPartition, size}
use Rattle.sym_model.specs.PartitionList.{partitions_of}
use Rattle.sym_model.specs.Polynomial.{Poly, Same, coefficient, times}
use Rattle.sym_model.specs.Bases.{at_most_one, has, product_over}
use Rattle.sym_model.specs.Expansion.{Basis}
use Rattle.sym_model.specs.Weight.{growth}
use Rattle.sym_model.specs.WholeTerms.{WholeTerms, labels}
use Rattle.sym_model.proofs.PartitionLists.{FallsLexicographically-partitions_within, Once-FallsLexicographically}
use Rattle.sym_model.proofs.Polynomials.{Same_refl, Same_sym, Same_trans, times_respects}
use Rattle.sym_model.proofs.SortedParts.{rows_within_size}
use Rattle.monomial_laws.specs.ExpressionTerms.{in_monomials, absolute, elementary_terms, complete_terms, IsList}
use Rattle.monomial_laws.specs.MonomialProduct.{product_coefficient}
use Rattle.monomial_laws.specs.Majorant.{IsBounded, IsMajorant, power}
use Rattle.monomial_laws.proofs.ExpressionTerms.{list_respects, list-no_factor, list-factor}
use Rattle.monomial_laws.proofs.Majorants.{majorant-monomials, bounded-atom, bounded_respects, low-one}
use Rattle.monomial_laws.proofs.WeightBounds.{product_within_growth, growth-mono}
use Rattle.linear_combinations.specs.Gains.{HaveLabels}
use Rattle.linear_combinations.proofs.Steps.{if_answered}
use Rattle.sparse_polys.specs.MonomialProducts.{greatest_size}
use Rattle.sparse_polys.proofs.Rows.{greatest_size-among}
use Rattle.strip_rules.specs.Columns.{HasRoomForColumn}
use Rattle.sparse_polys.proofs.Bounds.{AreWithin-list, greatest-within}
use Rattle.sparse_polys.proofs.WholeLists.{label-partition}
use Rattle.sparse_polys.specs.Tables.{IsWholeTable}
use Rattle.sparse_polys.specs.Large.{ProductIsLarge}
use Rattle.sparse_polys.specs.Families.{polynomial_of}
use Rattle.sparse_polys.specs.declared.family.Family.{Family}
use Rattle.sparse_polys.specs.declared.family.Family.TheVariants.{Elementary, Complete, PowerSum}
use Rattle.std.proofs.Math.Nat.{le_trans}

bounded_by : (k n : ℕ) (f : Poly) → IsMajorant (power k n) f → IsBounded 1 k n f
bounded_by k n f m = record {
  exponents = k ∷ [];
  few = omega arith;
  low = low-one k;
  majorant = subst (λ g. IsMajorant g f) (sym (append-nil (power k n))) m;
}

pub IsBounded-one : (family : Family) (k n : ℕ) → IsBounded 1 k n (polynomial_of family k n)
IsBounded-one Elementary k n = bounded_by k n _ (majorant-monomials at_most_one n k)
IsBounded-one Complete k n = bounded_by k n _ (majorant-monomials (λ α. true) n k)
IsBounded-one PowerSum k n = bounded_by k n _ (majorant-monomials (has k) n k)

pub IsBounded-product : (family : Family) (parts : List ℕ) (n : ℕ) → IsBounded 1 (size parts) n (product_over (polynomial_of family) parts n)
IsBounded-product Elementary parts n = bounded-atom Basis.elementaries parts n
IsBounded-product Complete parts n = bounded-atom Basis.completes parts n
IsBounded-product PowerSum parts n = bounded-atom Basis.power_sums parts n

-- let A be a list of e_k (h_k, p_k) and B one of the product of e_j (h_j, p_j) over the parts j, neither with a label twice: if the product |A|·|B|
-- of the lists with absolute values as coefficients has a coefficient of 2^127 or more (`ProductIsLarge`), the growth into m at the degree k + size
-- parts is 2^127 or more
pub large-factor : (family : Family) (k : ℕ) (parts : List ℕ) (A B : WholeTerms) → Once (labels A) → Once (labels B)
    → IsList A (polynomial_of family k) → IsList B (product_over (polynomial_of family) parts) → ProductIsLarge A B → 2 ^ 127 ≤ growth Basis.monomials (k + size parts)
large-factor family k parts A B o p h i (ν, is, l) =
    let within =
    product_within_growth 1 1 k (size parts) A B o p
    (λ n. bounded_respects 1 k n (polynomial_of family k n) (in_monomials A n) (Same_sym (in_monomials A n) (polynomial_of family k n) (h n)) (IsBounded-one family k n))
    (λ n. bounded_respects 1 (size parts) n (product_over (polynomial_of family) parts n) (in_monomials B n) (Same_sym (in_monomials B n) (product_over (polynomial_of family) parts n) (i n)) (IsBounded-product family parts n)) ν in
    omega (arith, ints)

pub large-factor_right : (family : Family) (k : ℕ) (parts : List ℕ) (A B : WholeTerms) → Once (labels A) → Once (labels B)
    → IsList A (polynomial_of family k) → IsList B (product_over (polynomial_of family) parts) → ProductIsLarge B A → 2 ^ 127 ≤ growth Basis.monomials (k + size parts)
large-factor_right family k parts A B o p h i (ν, is, l) =
    let within =
    product_within_growth 1 1 (size parts) k B A p o
    (λ n. bounded_respects 1 (size parts) n (product_over (polynomial_of family) parts n) (in_monomials B n) (Same_sym (in_monomials B n) (product_over (polynomial_of family) parts n) (i n)) (IsBounded-product family parts n))
    (λ n. bounded_respects 1 k n (polynomial_of family k n) (in_monomials A n) (Same_sym (in_monomials A n) (polynomial_of family k n) (h n)) (IsBounded-one family k n)) ν in
    let turned : size parts + k ≡ k + size parts = omega arith in
    let grown = ap (growth Basis.monomials) turned in
    omega (arith, ints)

pub large-later : (k s : ℕ) → 2 ^ 127 ≤ growth Basis.monomials s → 2 ^ 127 ≤ growth Basis.monomials (k + s)
large-later k s h = let g = growth-mono s (k + s) (omega arith) in le_trans h g

pub no_parts : (parts : List ℕ) → length parts < 1 → [] ≡ parts
no_parts [] h = refl
no_parts (k ∷ rest) h = absurd (omega arith)

pub list-none : (family : Family) (parts : List ℕ) (W : WholeTerms) → length parts < 1 → Same W (([], pos 1) ∷ []) → IsList W (product_over (polynomial_of family) parts)
list-none family parts W h e =
    subst (λ p. IsList W (product_over (polynomial_of family) p)) (no_parts parts h)
    (list_respects (([], pos 1) ∷ []) W (product_over (polynomial_of family) []) (Same_sym W (([], pos 1) ∷ []) e) (list-no_factor (polynomial_of family)))

-- let A be a list of e_k, h_k or p_k, and B one of the product of e_j, h_j or p_j over `parts`: if C has the coefficients of A·B whenever r is Ok C,
-- then C is a list of the product over k ∷ parts whenever r is Ok C
pub list-more : (family : Family) (k : ℕ) (A B : WholeTerms) (r : Result WholeTerms SumFault) → IsList A (polynomial_of family k)
    → IfOk r (λ C. (ν : List ℕ) → IsPartition ν → coefficient C ν ≡ product_coefficient A B ν)
    → (parts : List ℕ) → IsList B (product_over (polynomial_of family) parts)
    → IfOk r (λ C. IsList C (product_over (polynomial_of family) (k ∷ parts)))
list-more family k A B r h e parts i = if_answered r e (λ C f. list-factor (polynomial_of family) k parts A B C h i f)

-- let B be a list of the product of e_j, h_j or p_j over `parts`: if C is e_k·B (h_k·B, p_k·B) whenever r is Ok C, then C is a list of the product
-- over k ∷ parts whenever r is Ok C
pub list-times : (family : Family) (k : ℕ) (B : WholeTerms) (r : Result WholeTerms SumFault)
    → IfOk r (λ C. (n : ℕ) → Same (in_monomials C n) (times (polynomial_of family k n) (in_monomials B n)))
    → (parts : List ℕ) → IsList B (product_over (polynomial_of family) parts)
    → IfOk r (λ C. IsList C (product_over (polynomial_of family) (k ∷ parts)))
list-times family k B r h parts i = if_answered r h (λ C f n.
    let first = polynomial_of family k n in
    let others = product_over (polynomial_of family) parts n in
    Same_trans (in_monomials C n) (times first (in_monomials B n)) (times first others) (f n)
    (times_respects first first (in_monomials B n) others (Same_refl first) (i n)))

-- if k plus the greatest size of a label is at most 512, each label remains within the limits of labels if a column of k cells is added
-- (`HasRoomForColumn`)
pub have_room : (k : ℕ) (terms : WholeTerms) → IsWholeTable terms → k + greatest_size terms ≤ 512 → HaveLabels (HasRoomForColumn k) terms
have_room k terms is h t m = search (rules, label-partition, greatest_size-among, rows_within_size)

pub few_cells : (k : ℕ) (terms : WholeTerms) → k + greatest_size terms ≤ 512 → HaveLabels (λ μ. size μ + k ≤ 512) terms
few_cells k terms h t m = let s = greatest_size-among terms t m in omega (arith, h)

pub once-elementary : (k : ℕ) → Once (labels (elementary_terms k))
once-elementary k = (λ m. m, tt)

pub once-complete : (k : ℕ) → Once (labels (complete_terms k))
once-complete k = subst Once (labels_ones (partitions_of k)) (Once-FallsLexicographically (partitions_of k) (FallsLexicographically-partitions_within k k k))
  where
    labels_ones : (shapes : List (List ℕ)) → shapes ≡ labels (map (λ (parts : List ℕ). (parts, pos 1)) shapes)
    labels_ones [] = refl
    labels_ones (ν ∷ shapes) = ap (λ l. ν ∷ l) (labels_ones shapes)

pub large-complete : (k : ℕ) (B : WholeTerms) → (ν : List ℕ) × IsPartition ν × (pos (2 ^ 127) ≤ℤ product_coefficient (absolute B) (complete_terms k) ν) → ProductIsLarge B (complete_terms k)
large-complete k B (ν, is, l) = (ν, is, subst (λ A. pos (2 ^ 127) ≤ℤ product_coefficient (absolute B) A ν) (absolute_ones (partitions_of k)) l)
  where
    absolute_ones : (shapes : List (List ℕ)) → map (λ (parts : List ℕ). (parts, pos 1)) shapes ≡ absolute (map (λ (parts : List ℕ). (parts, pos 1)) shapes)
    absolute_ones [] = refl
    absolute_ones (ν ∷ shapes) = ap (λ l. (ν, pos 1) ∷ l) (absolute_ones shapes)

pub list-family : (family : Family) (k : ℕ) (W V : WholeTerms) → Same W V → IsList V (polynomial_of family k) → IsList W (polynomial_of family k)
list-family family k W V e h = list_respects V W (polynomial_of family k) (Same_sym W V e) h

pub factor-sizes : (family : Family) (k : ℕ) (A : WholeTerms) → IsWholeTable A → IsList A (polynomial_of family k) → greatest_size A ≤ k
factor-sizes family k A is h = greatest-within k A (AreWithin-list 1 k A (polynomial_of family k) is h (IsBounded-one family k))
