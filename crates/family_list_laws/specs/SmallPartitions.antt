-- The labels of products of elementary or complete symmetric polynomials in a number of variables.
use Rattle.std.specs.Prelude.{ℕ, ◌≤◌, List}
use Rattle.sym_model.specs.Partition.{IsPartition, size}

-- a partition of at most n cells
abbrev pub IsSmall : ℕ → List ℕ → Type 0
IsSmall n x = IsPartition x × (size x ≤ n)
