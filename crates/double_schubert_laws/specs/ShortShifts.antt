-- The labels of products y^β·S_w(x; y) in a number of variables.
use Rattle.std.specs.Prelude.{ℕ, List}
use Rattle.independence_laws.specs.Independence.{HasPlaces}
use Rattle.schubert_laws.specs.ShortPermutations.{IsShort}

-- a permutation of at most n letters with exponents of at most n places
abbrev pub IsShortShift : ℕ → List ℕ × List ℕ → Type 0
IsShortShift n label = IsShort n label.0 × HasPlaces n label.1
