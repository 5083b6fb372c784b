-- Lists of terms in Schur polynomials from straightened lists of exponents (Macdonald, I.3). A list α of exponents straightens to 0 if two entries of
-- α + ρ are equal, and otherwise to the sign of sorting α + ρ with the partition that is the sorted list less ρ.
use Rattle.std.specs.Prelude.{ℕ, ℤ, List, [], ◌∷◌, Option, Some, None, flat_map}
use Rattle.sym_model.specs.Straightening.{straightened}
use Rattle.sym_model.specs.WholeTerms.{WholeTerms}

-- the straightening of a list of exponents (a sign and a partition, or None) as a list of terms: one term, with the partition as its label and the
-- sign as its coefficient; no term for None
abbrev pub straightened_term : Option (ℤ × List ℕ) → WholeTerms
straightened_term None = []
straightened_term (Some s) = (s.1, s.0) ∷ []

-- the list of the terms to which the given lists of exponents straighten
abbrev pub straightened_terms : List (List ℕ) → WholeTerms
straightened_terms lists = flat_map (λ α. straightened_term (straightened α)) lists
