-- The reductions by rim hooks of the partitions that label the terms of a list.
use Rattle.std.specs.Prelude.{ℕ, ℤ, List, map}
use Rattle.sym_model.specs.WholeTerms.{WholeTerms}
use Rattle.sym_model.specs.Reductions.{Reduction}
use Rattle.beta_list_laws.specs.LowestList.{reduction_by_remainders}

-- the list of the reductions by rim hooks of n cells of the labels of the terms; each label is to be a partition with at most k rows
abbrev pub reductions_of : ℕ → ℕ → WholeTerms → List Reduction
reductions_of k n terms = map (λ (t : List ℕ × ℤ). reduction_by_remainders k n t.0) terms
