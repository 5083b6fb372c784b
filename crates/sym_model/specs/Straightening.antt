-- Straightening of a list of exponents α (Macdonald, I.3): a_(α+ρ)/a_ρ is 0 or a Schur polynomial with a sign.
use Rattle.std.specs.Prelude.{ℕ, cond, ℤ, List, length, Option, Some, None}
use Rattle.sym_model.specs.Polynomial.{join}
use Rattle.sym_model.specs.Alternant.{staircase}
use Rattle.sym_model.specs.BetaList.{from_beta, has_equal_entries, sorted_falling, sorting_sign}

-- α + ρ, in the same number of places as α
abbrev pub shifted : List ℕ → List ℕ
shifted α = join α (staircase (length α))

-- for a list b = α + ρ: None if b has two equal entries, as a_b/a_ρ is then 0; otherwise the sign of sorting b in
-- decreasing order, and the partition sorted(b) - ρ
abbrev pub straight : List ℕ → Option (ℤ × List ℕ)
straight entries =
    cond (has_equal_entries entries) None
    (Some (sorting_sign entries, from_beta (sorted_falling entries)))

-- the sign of sorting α + ρ in decreasing order, and the partition sorted(α + ρ) - ρ; None if α + ρ has two equal
-- entries
abbrev pub straightened : List ℕ → Option (ℤ × List ℕ)
straightened α = straight (shifted α)
