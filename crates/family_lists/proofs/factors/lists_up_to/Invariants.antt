use Rattle.std.proofs.Common.{◌≡◌, ℕ, ◌<◌, length}
use Rattle.sparse_polys.specs.Families.{polynomial_of}
use Rattle.family_lists.specs.FactorLists.{IsFactor, list_at}
use Rattle.family_lists.proofs.factors.lists_up_to.Given as goal

-- for each k ≥ 1 visited so far, the list at the index k is p_k, k!·e_k or k!·h_k in the target basis
abbrev pub invariant-loop-k : goal.invariant-loop-k
invariant-loop-k l = (length l.lists.items ≡ l.k) × ((k : ℕ) → 0 < k → k < l.k
    → IsFactor (polynomial_of l.target) l.family k (list_at l.lists.items k))
