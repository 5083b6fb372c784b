-- A product of partitions is reduced by rim hooks (quantum products) or into the alcove (fusion products): each partition of the product becomes
-- another one with a sign, or 0. Here the reduction of one partition is a list of terms: one term, or no term if it is 0.
use Rattle.std.specs.Prelude.{ℕ, ◌+◌, ℤ, Option, Some, None, List, [], ◌∷◌}
use Rattle.sym_model.specs.AlcoveReduction.{alcove_reduction}
use Rattle.sym_model.specs.WholeTerms.{WholeTerms}
use Rattle.sym_model.specs.Reductions.{Reduction}
use Rattle.beta_list_laws.specs.LowestList.{reduction_by_remainders}
use Rattle.product_laws.specs.FactorSteps.{PowerTerms}

-- for the reduction r of a partition by rim hooks: the reduced partition as a term, with the sign as its coefficient, multiplied by the power of q of
-- `label`; no term if the reduction is 0
abbrev pub at_power : ℕ × List ℕ → Reduction → PowerTerms
at_power label None = []
at_power label (Some r) = ((label.0 + r.2, r.0), r.1) ∷ []

-- the term of the reduction of a partition by rim hooks of n cells for k rows, multiplied by the power of q of the given label
abbrev pub reduced_power : ℕ → ℕ → ℕ × List ℕ → List ℕ → PowerTerms
reduced_power k n label shape = at_power label (reduction_by_remainders k n shape)

-- the term of the partition with its sign as the coefficient; no term for None
abbrev pub at_shape : Option (List ℕ × ℤ) → WholeTerms
at_shape None = []
at_shape (Some r) = (r.0, r.1) ∷ []

-- the term of the reduction of a partition with at most k rows into the alcove of level n - k; the given label has no effect
abbrev pub reduced_shape : ℕ → ℕ → List ℕ → List ℕ → WholeTerms
reduced_shape k n label shape = at_shape (alcove_reduction k n shape)
