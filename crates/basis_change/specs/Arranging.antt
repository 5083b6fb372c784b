-- The terms to which the arrangements of a partition straighten. An arrangement is a list of exponents: the parts of the partition and zeros, in some
-- order. It straightens to a partition with a sign, or to nothing (Macdonald, I.3).
use Rattle.std.specs.Prelude.{ℕ, ℤ, ◌*ℤ◌, List, [], ◌∷◌, Option, Some, None, flat_map}
use Rattle.sym_model.specs.Arrangement.{arrangements}
use Rattle.sym_model.specs.Straightening.{shifted, straight}
use Rattle.sym_model.specs.WholeTerms.{WholeTerms}

-- c times the straightening of a list of exponents (a sign and a partition, or nothing), as a list of terms
abbrev pub times_straight : ℤ → Option (ℤ × List ℕ) → WholeTerms
times_straight c None = []
times_straight c (Some s) = (s.1, s.0 *ℤ c) ∷ []

-- c times the straightening of a beta list, as a list of at most one term
abbrev pub straight_term : ℤ → List ℕ → WholeTerms
straight_term c entries = times_straight c (straight entries)

-- c times the straightenings of all arrangements of a partition in n places, as a list of terms
abbrev pub straight_terms : ℤ → List ℕ → ℕ → WholeTerms
straight_terms c parts n = flat_map (λ α. straight_term c (shifted α)) (arrangements parts n)
