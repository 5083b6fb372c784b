-- Loop invariant: each row visited so far has the length of the row of outer/inner with the same index.
use Rattle.std.proofs.Common.{◌≡◌, ℕ, ◌-◌, ◌<◌, map, length, get_or}
use Rattle.tableau_iter.proofs.lattice_words.have_lengths.Given as goal

abbrev pub invariant-loop-row : goal.invariant-loop-row
invariant-loop-row l =
    (i : ℕ) → i < l.row → get_or (map length (map (λ r. r.items) l.rows)) i 0 ≡ get_or l.outer i 0 - get_or l.inner i 0
