-- For a list W in m, that is, a list of terms c·m_μ: if the computation of the sum of c·p_λ[W] over the terms c·p_λ of a list returns `Large`, then
-- the plethysm weight (`plethysm_weight`), a bound of the numbers in the computation, is 2^127 or more.
use Rattle.std.proofs.Common.{ℕ, ◌+◌, ◌*◌, ◌^◌, ◌≤◌, length, refl, inl, inr, arith}
use Rattle.sym_model.specs.Partition.{size}
use Rattle.sym_model.specs.Expansion.{power_sums}
use Rattle.sym_model.specs.Plethysm.{plethysm_weight, repeated_monomials}
use Rattle.sym_model.specs.Weight.{factorial, growth}
use Rattle.sym_model.specs.WholeTerms.{WholeTerms, absolute_total}
use Rattle.monomial_laws.specs.ExpressionTerms.{in_monomials}
use Rattle.monomial_laws.proofs.Splits.{In-monomial_terms}
use Rattle.plethysm_laws.proofs.PathBounds.{path-met}
use Rattle.plethysm_laws.proofs.PathWeights.{weight-met, weight-product}
use Rattle.sparse_polys.specs.LabelSizes.{AreWithin}
use Rattle.sparse_polys.specs.Tables.{IsWholeTable}
use Rattle.sparse_polys.proofs.WholeLists.{label-partition}
use Rattle.plethysm.specs.BoundedSums.{IsBoundedSum}
use Rattle.plethysm.specs.PathSums.{IsPastPath}
use Rattle.plethysm.proofs.FactorLists.{places, sums}
use native.Mathlib.Nat.{mul-le-mul_right}

-- let the labels of the list `terms` in p have at most a cells, let the absolute values of its coefficients add up to at most N times
-- `growth power_sums a`, and let K·(b + 1) bound the list W in m at the degree b (`IsBoundedSum`). If the computation of the sum of c·p_λ[W] over
-- `terms` has a number of 2^127 or more (`IsPastPath`), then the plethysm weight is 2^127 or more
pub past-weight : (N D a K b : ℕ) (terms W : WholeTerms) → 1 ≤ N → 1 ≤ D → 1 ≤ K → IsWholeTable terms → AreWithin a terms → absolute_total terms ≤ N * growth power_sums a
    → IsBoundedSum (K * (b + 1)) b W → IsPastPath (K * (b + 1)) b W terms → 2 ^ 127 ≤ plethysm_weight N D a K b
past-weight N D a K b terms W n d k is w few h (inl (t, m, l)) = let x = weight-product N D a K b n d k (size t.0) (w t m) in omega arith
past-weight N D a K b terms W n d k is w few h (inr (ν, p, l)) =
    let g = in_monomials W (length ν) in
    let x =
    path-met (K * (b + 1)) b a (length ν) (repeated_monomials b (length ν) (in_monomials W (length ν))) (in_monomials W (length ν)) terms h.some
    (λ t m. ((label-partition terms is t m).positive, w t m))
    (places W (K * (b + 1)) b h (length ν)) (sums W (K * (b + 1)) b h (length ν)) (In-monomial_terms W (length ν)) (h.bounded (length ν)) ν refl in
    let z = mul-le-mul_right ((K * (b + 1)) ^ a * factorial (a * b)) few in
    let y = weight-met N D a K b n d k in
    omega arith
