-- The number of rows of the factors of a product.
use Rattle.std.specs.Prelude.{ℕ, ◌≤◌, List}
use Rattle.sym_model.specs.Sum.{Among}
use Rattle.sym_model.specs.Partition.{rows}

-- each factor has at most k rows
abbrev pub AreFew : ℕ → List (List ℕ) → Type 0
AreFew k factors = (parts : List ℕ) → Among parts factors → rows parts ≤ k
