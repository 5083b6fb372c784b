-- The distinct arrangements of the parts of a partition in a number of places (Macdonald, I.2:
-- the exponents of m_λ).
use Rattle.std.specs.Prelude.{ℕ, List, filter}
use Rattle.sym_model.specs.Polynomial.{same}
use Rattle.sym_model.specs.Partition.{size, sorted_parts}
use Rattle.sym_model.specs.Bases.{exponent_lists}

-- the distinct arrangements of the parts of λ and of zeros in n places, in decreasing lexicographic order: the lists
-- of n numbers that sort to λ when zeros are dropped. There is no such list if λ has more than n parts.
abbrev pub arrangements : List ℕ → ℕ → List (List ℕ)
arrangements parts n = filter (λ α. same (sorted_parts α) parts) (exponent_lists n (size parts))
