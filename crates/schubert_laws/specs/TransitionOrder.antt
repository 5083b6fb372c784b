-- A number that each step of the transition rule decreases,
-- for permutations of a bounded number of letters.
use Rattle.std.specs.Prelude.{ℕ, ◌+◌, ◌*◌, ◌≤◌, List, length}
use Rattle.sym_model.specs.PlaceOrders.{inversions}
use Rattle.sym_model.specs.Permutation.{IsOneLine, letter, last_descent_place}

-- w is a permutation of at most n letters
pub record IsShort (n : ℕ) (w : List ℕ) : Type 0 where
  pub one_line : IsOneLine w
  pub few : length w ≤ n

-- the number (ℓ·base + r)·base + w_r; ℓ is the number of inversions of w, and r its last descent. For permutations of fewer than `base` letters,
-- these numbers have the lexicographic order of the triples (ℓ, r, w_r), and each step of the transition rule leads to smaller numbers
abbrev pub rank : ℕ → List ℕ → ℕ
rank base w = (inversions w * base + last_descent_place w) * base + letter w (last_descent_place w)
