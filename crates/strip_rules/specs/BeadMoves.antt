-- Strips added to a partition cell by cell, as moves of the beads of its beta set: there is a bead at each beta number, and a cell is added by moving
-- a bead up by one place, to a place without a bead (James and Kerber, 2.7). The cells of a horizontal strip are added from left to right, by moves
-- from increasing places; those of a vertical strip from top to bottom, by moves from decreasing places. The resulting sets are those of the
-- partitions that adding a strip gives, each once: by the lemma `strips_over` their Schur polynomials add up to the product with h_k or e_k.
use Rattle.std.specs.Prelude.{ℕ, zero, suc, ◌+◌, ◌^◌, List, [], ◌∷◌, flat_map}
use Rattle.beta_sets.specs.BetaSets.{numbers, free, from_place, below_place}
use Rattle.strip_rules.specs.declared.bead_strips.Strip.{Strip}
use Rattle.strip_rules.specs.declared.bead_strips.Strip.TheVariants.{Horizontal, Vertical}

-- the bound for the place of the first bead that moves up: the place is at least the bound (horizontal) or below the bound (vertical)
abbrev pub first_bound : Strip → ℕ
first_bound Horizontal = 0
first_bound Vertical = 63

-- the bound for the place of the next bead that moves up, after a bead has moved up from place b
abbrev pub next_bound : Strip → ℕ → ℕ
next_bound Horizontal b = b + 1
next_bound Vertical b = b

-- the places of the beads that may move up by one place next: those with no bead at the place above, from the bound on (horizontal) or below the
-- bound (vertical)
abbrev pub next_places : Strip → ℕ → List ℕ → List ℕ
next_places Horizontal bound beads = from_place bound (free 1 beads)
next_places Vertical bound beads = below_place bound (free 1 beads)

-- the sets that result from a set by k moves, each of which moves one bead up by one place, in the order that the strip allows; the place of the bead
-- that moves first is within the bound
abbrev pub with_cells : Strip → ℕ → ℕ → ℕ → List ℕ
with_cells strip zero bound set = set ∷ []
with_cells strip (suc k) bound set =
    flat_map (λ b. with_cells strip k (next_bound strip b) (set + 2 ^ b))
    (next_places strip bound (numbers set))

-- the beta sets that result from a set by adding a strip of k cells
abbrev pub strips : Strip → ℕ → ℕ → List ℕ
strips strip k set = with_cells strip k (first_bound strip) set
