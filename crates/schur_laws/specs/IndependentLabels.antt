-- The labels of products of Schur polynomials in two sets of variables.
use Rattle.std.specs.Prelude.{ℕ, List}
use Rattle.independence_laws.specs.Independence.{HasRows}

-- a pair of partitions, the first with at most n rows and the second with at most k
abbrev pub HavePairRows : ℕ → ℕ → List ℕ × List ℕ → Type 0
HavePairRows n k pair = HasRows n pair.0 × HasRows k pair.1
