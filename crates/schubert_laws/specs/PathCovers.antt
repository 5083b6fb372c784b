-- Covers of a list among the lists of its letters, and sums of the polynomials that divided differences give from a polynomial g. Places count from 1.
use Rattle.std.specs.Prelude.{ℕ, ◌-◌, List, map, length, flat_map}
use Rattle.sym_model.specs.Partition.{after}
use Rattle.sym_model.specs.Polynomial.{Poly}
use Rattle.sym_model.specs.Permutation.{swapped, covers_among}
use Rattle.sym_model.specs.Schubert.{schubert_over}

-- the covers w·t_rb of w, for the places b of w after r, and the covers w·t_ar, for the places a before r
abbrev pub covers_after : ℕ → List ℕ → List (List ℕ)
covers_after r w = covers_among w (map (λ b. swapped r b w) (after r (length w - r)))

abbrev pub covers_before : ℕ → List ℕ → List (List ℕ)
covers_before r w = covers_among w (map (λ a. swapped a r w) (after 0 (r - 1)))

-- the sum of `schubert_over g w` over the lists w
abbrev pub each_over : Poly → List (List ℕ) → Poly
each_over g ws = flat_map (λ w. schubert_over g w) ws
