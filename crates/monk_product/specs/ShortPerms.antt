-- A short permutation stores 32 letters and the number of its inversions. Its own letters are followed by *fixed* letters, which are equal to their
-- places.
use Rattle.std.specs.Prelude.{◌≡◌, ℕ, List, length, nat_lt, ◌&&◌}
use Rattle.std.specs.List.{list_any}
use Rattle.sym_model.specs.PlaceOrders.{inversions}
use Rattle.sym_model.specs.Permutation.{IsOneLine}

-- w is a permutation of 32 letters, fixed ones included, and `count` is the number of its inversions
pub record IsFilled (w : List ℕ) (count : ℕ) : Type 0 where
  pub one_line : IsOneLine w
  pub long : length w ≡ 32
  pub count_is : count ≡ inversions w

-- `low` is the greatest letter less than `letter` in the list, or 0 if there is none: for each x, the list has a letter greater than x and less than
-- `letter` if and only if x is less than `low`
pub record IsGreatestBelow (letter : ℕ) (letters : List ℕ) (low : ℕ) : Type 0 where
  pub between : (x : ℕ) → list_any (λ a. nat_lt x a && nat_lt a letter) letters ≡ nat_lt x low
