-- The plethysms p_k[G] and p_λ[G] for a list G in m, that is, a list of terms c·m_μ. The product p_λ[G] is computed by multiplying by one factor
-- p_k[G] after another, for the parts k of λ.
use Rattle.std.proofs.Common.{◌≡◌, ℕ, ◌+◌, ◌*◌, ◌^◌, ◌<◌, ◌≤◌, List, [], ◌∷◌, ◌++◌, length, sym, ap, subst, arith, ℤ, pos}
use Rattle.std.proofs.lemmas.Int.{ints}
use Rattle.std.proofs.lemmas.List.{map-append}
use Rattle.std.proofs.lemmas.Nat.{mul-le, pow-add}
use Rattle.std.proofs.Math.Nat.{pow-le-pow_right, le_trans}
use Rattle.sym_model.specs.Sum.{Among, Once}
use Rattle.sym_model.specs.Partition.{IsPartition, Falls, ArePositive, size}
use Rattle.sym_model.specs.Plethysm.{multiplied, repeated_monomials}
use Rattle.sym_model.specs.Polynomial.{Same, coefficient}
use Rattle.sym_model.specs.Expansion.{Basis, Fraction, Terms}
use Rattle.sym_model.specs.Weight.{growth}
use Rattle.sym_model.specs.WholeTerms.{WholeTerms, labels}
use Rattle.sym_model.proofs.Orders.{is_label-tells}
use Rattle.sym_model.proofs.Polynomials.{Same_sym}
use Rattle.sym_model.proofs.SortedParts.{rows_within_size}
use Rattle.sym_model.proofs.Sums.{Among_from_map}
use Rattle.partitions.specs.Limits.{IsWithinLimits}
use Rattle.monomial_laws.specs.ExpressionTerms.{in_monomials, IsList}
use Rattle.monomial_laws.specs.MonomialProduct.{product_coefficient}
use Rattle.monomial_laws.proofs.ExpressionTerms.{list_respects, list-no_factor, list-product}
use Rattle.monomial_laws.proofs.Majorants.{coefficient-higher}
use Rattle.monomial_laws.proofs.Splits.{In-monomial_terms}
use Rattle.monomial_laws.proofs.WeightBounds.{growth-mono}
use Rattle.plethysm_laws.specs.PowerSumPlethysm.{dilated}
use Rattle.plethysm_laws.specs.SumsOfMonomials.{HavePlaces, IsMonomialSum, monomial_sum}
use Rattle.plethysm_laws.proofs.Dilations.{dilated-list}
use Rattle.plethysm_laws.proofs.RepeatedMonomials.{repeated-sum, repeated-places}
use Rattle.plethysm_laws.proofs.NonnegativeTerms.{coefficient-nonnegative, nonnegative-monomial_terms}
use Rattle.plethysm_laws.proofs.PathBounds.{path-product}
use Rattle.sparse_polys.specs.MonomialProducts.{greatest_size, AreSums}
use Rattle.sparse_polys.proofs.Rows.{greatest_size-among}
use Rattle.sparse_polys.proofs.Tables.{term-tests}
use Rattle.sparse_polys.specs.Tables.{IsFractionTable, IsWholeTable}
use Rattle.sparse_polys.specs.LabelSizes.{AreWithin}
use Rattle.sparse_polys.specs.Large.{ProductIsLarge}
use Rattle.linear_combinations.proofs.Gains.{next_among}
use Rattle.sparse_polys.proofs.WholeLists.{label-partition, labels-same}
use Rattle.plethysm.specs.BoundedSums.{IsBoundedSum}
use Rattle.plethysm.specs.PathSums.{power_sum_in}
use native.Mathlib.Nat.{mul-le-mul_left, mul-pos}

-- ---- partitions with each part multiplied by k

pub size-multiplied : (k : ℕ) (parts : List ℕ) → size (multiplied k parts) ≡ k * size parts
size-multiplied k [] = omega arith
size-multiplied k (a ∷ parts) = omega (arith, size-multiplied k parts)

Falls-multiplied : (k : ℕ) (parts : List ℕ) → Falls parts → Falls (multiplied k parts)
Falls-multiplied k [] f = tt
Falls-multiplied k (a ∷ []) f = tt
Falls-multiplied k (a ∷ b ∷ parts) f = (mul-le-mul_left k f.0, Falls-multiplied k (b ∷ parts) f.1)

ArePositive-multiplied : (k : ℕ) (parts : List ℕ) → 0 < k → ArePositive parts → ArePositive (multiplied k parts)
ArePositive-multiplied k [] h p = tt
ArePositive-multiplied k (a ∷ parts) h p = (mul-pos h p.0, ArePositive-multiplied k parts h p.1)

pub IsWithinLimits-multiplied : (k : ℕ) (parts : List ℕ) → 0 < k → IsPartition parts → k * size parts ≤ 512 → IsWithinLimits (multiplied k parts)
IsWithinLimits-multiplied k parts h p low =
    let positive = ArePositive-multiplied k parts h p.positive in
    let r = rows_within_size (multiplied k parts) positive in
    let s = size-multiplied k parts in
    record {
      partition = record { falls = Falls-multiplied k parts p.falls; positive = positive };
      few = omega arith;
      small = omega arith;
    }

pub list-dilated : (k : ℕ) (W V : WholeTerms) → 0 < k → Same V (dilated k W) → IsList V (λ n. dilated k (in_monomials W n))
list-dilated k W V h e =
    list_respects (dilated k W) V (λ n. dilated k (in_monomials W n)) (Same_sym V (dilated k W) e)
    (λ n. Same_sym (dilated k (in_monomials W n)) (in_monomials (dilated k W) n) (dilated-list k W n h))

-- ---- p_λ[G] in m, and its product with one more factor p_k[G]

module _ (W : WholeTerms) (K b : ℕ) (h : IsBoundedSum K b W) where
  pub monomial_sum_in : (n : ℕ) → IsMonomialSum b n (in_monomials W n)
  monomial_sum_in n = record {
    places = In-monomial_terms W n;
    low = λ α l m. coefficient-higher K b n (in_monomials W n) (h.bounded n) α l m;
    natural = coefficient-nonnegative (in_monomials W n) (nonnegative-monomial_terms W n h.natural);
  }

  pub places : (n : ℕ) → HavePlaces n (repeated_monomials b n (in_monomials W n))
  places n = repeated-places b n (in_monomials W n)

  pub sums : (n : ℕ) → Same (monomial_sum (repeated_monomials b n (in_monomials W n))) (in_monomials W n)
  sums n = repeated-sum b n (in_monomials W n) (monomial_sum_in n)

  pub large-factor : (k : ℕ) (rest : List ℕ) (A B : WholeTerms) → 0 < k → ArePositive rest → Once (labels A) → Once (labels B)
      → IsList A (λ n. dilated k (in_monomials W n)) → IsList B (power_sum_in W rest) → ProductIsLarge A B
      → 2 ^ 127 ≤ K ^ (k + size rest) * growth Basis.monomials ((k + size rest) * b)
  large-factor k rest A B l p o q x y (ν, is, m) =
      let within =
      path-product K b k rest A B (λ n. repeated_monomials b n (in_monomials W n)) (in_monomials W) l p places sums (In-monomial_terms W) h.bounded o q x y ν in
      let e : k * b + size rest * b ≡ (k + size rest) * b = omega arith in
      let f = pow-add K k (size rest) in
      rw (f, sym e) (omega (arith, ints))

  pub large-later : (k : ℕ) (rest : List ℕ) → 2 ^ 127 ≤ K ^ size rest * growth Basis.monomials (size rest * b)
      → 2 ^ 127 ≤ K ^ (k + size rest) * growth Basis.monomials ((k + size rest) * b)
  large-later k rest l =
      let x : K ^ size rest ≤ K ^ (k + size rest) = pow-le-pow_right h.some (omega arith) in
      let y = growth-mono (size rest * b) ((k + size rest) * b) (omega arith) in
      le_trans l (mul-le (K ^ size rest) (growth Basis.monomials (size rest * b)) (K ^ (k + size rest)) (growth Basis.monomials ((k + size rest) * b)) x y)

-- let G be the polynomial of the list W, and λ be `rest`: if A is the list of p_k[G] in m, and B the list of p_λ[G] in m, then each list with the
-- coefficients of A·B is the list of p_μ[G] in m, for μ = k ∷ rest
pub list-more : (W : WholeTerms) (k : ℕ) (rest parts : List ℕ) (A B C : WholeTerms) → k ∷ rest ≡ parts → IsList A (λ n. dilated k (in_monomials W n)) → IsList B (power_sum_in W rest)
    → ((ν : List ℕ) → IsPartition ν → coefficient C ν ≡ product_coefficient A B ν) → IsList C (power_sum_in W parts)
list-more W k rest parts A B C split h i e n =
    subst (λ p. Same (in_monomials C n) (power_sum_in W p n)) split (list-product A B C (λ n. dilated k (in_monomials W n)) (power_sum_in W rest) h i e n)

pub list-none : (W V : WholeTerms) (parts : List ℕ) → length parts < 1 → Same V (([], pos 1) ∷ []) → IsList V (power_sum_in W parts)
list-none W V [] h e n =
    list_respects (([], pos 1) ∷ []) V (power_sum_in W []) (Same_sym V (([], pos 1) ∷ []) e) (list-no_factor (λ k m. dilated k (in_monomials W n))) n
list-none W V (k ∷ parts) h e n = absurd (omega arith)

-- if the labels of `left` have at most a cells and those of `right` at most b, and the size of each label of `product` is the sum of the size of a
-- label of `left` and the size of a label of `right` (`AreSums`), then the labels of `product` have at most d cells, for each d ≥ a + b
pub within-product : (left right product : WholeTerms) (a b d : ℕ) → AreWithin a left → AreWithin b right → a + b ≤ d → AreSums left right product → AreWithin d product
within-product left right product a b d h k l added t m =
    let (x, y, p, q, e) = added t m in
    let s = h x p in
    let r = k y q in
    omega arith

-- if `list` is `inner` with every part of every label multiplied by k, the size of each label of `list` is at most k times the greatest size of a
-- label of `inner`
pub within-dilated : (k : ℕ) (inner list : WholeTerms) → IsWholeTable list → Same list (dilated k inner) → AreWithin (k * greatest_size inner) list
within-dilated k inner list is same =
    labels-same (λ (label : List ℕ). size label ≤ k * greatest_size inner) list (dilated k inner) is same
    (λ t m.
    let u = Among_from_map (λ (v : List ℕ × ℤ). (multiplied k v.0, v.1)) t inner m in
    let e = ap (λ (w : List ℕ × ℤ). size w.0) u.2 in
    let g = mul-le-mul_left k (greatest_size-among inner u.0 u.1) in
    let h = size-multiplied k u.0.0 in
    omega arith)

pub label_of : (terms : Terms (List ℕ)) (label : List ℕ) (c : Fraction) → IsFractionTable terms → Among (label, c) terms → IsPartition label × (size label ≤ greatest_size terms)
label_of terms label c is m = (
  (is_label-tells label (term-tests terms is (label, c) m).1).partition,
  greatest_size-among terms (label, c) m,
)

pub next_label : (terms done rest : WholeTerms) (label : List ℕ) (c : ℤ) → IsWholeTable terms → done ++ (label, c) ∷ rest ≡ terms → IsPartition label × (size label ≤ greatest_size terms)
next_label terms done rest label c is e =
    let m = subst (λ (ts : WholeTerms). Among (label, c) ts) e (next_among done (label, c) rest) in
    (label-partition terms is (label, c) m, greatest_size-among terms (label, c) m)

pub dilated-push : (k : ℕ) (done : WholeTerms) (t : List ℕ × ℤ) → dilated k (done ++ t ∷ []) ≡ dilated k done ++ (multiplied k t.0, t.1) ∷ []
dilated-push k done t = map-append (λ (t : List ℕ × ℤ). (multiplied k t.0, t.1)) done (t ∷ [])
