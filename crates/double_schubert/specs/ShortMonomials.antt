-- The decreasing lexicographic order of lists of exponents, as the order of monomials of the same number of
-- exponents.
use Rattle.std.specs.Prelude.{ℕ, List}
use Rattle.std.specs.Cmp.Lexicographic.{slice_cmp}
use Rattle.std.specs.Ordering.{nat_cmp}
use Rattle.std.specs.declared.cmp.Ordering.{Ordering}

-- the decreasing lexicographic order of lists of exponents: a lexicographically greater list comes first
abbrev pub falling_order : List ℕ → List ℕ → Ordering
falling_order e f = slice_cmp nat_cmp f e
