-- The change of a list of terms in the monomial basis m with integer coefficients into Schur polynomials.
use Rattle.std.specs.Prelude.{ℕ, ℤ, List, flat_map}
use Rattle.sym_model.specs.WholeTerms.{WholeTerms}
use Rattle.basis_change.specs.Arranging.{straight_terms}

-- the terms to which a list in m straightens: for each term c·m_λ, c times the straightenings of the arrangements of λ in the given number of places
abbrev pub straightened_list : ℕ → WholeTerms → WholeTerms
straightened_list places terms =
    flat_map (λ (t : List ℕ × ℤ). straight_terms t.1 t.0 places) terms
