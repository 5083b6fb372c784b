-- Tables of the number of entries of a list for each remainder modulo n.
use Rattle.std.specs.Prelude.{◌≡◌, ℕ, ◌<◌, List, length, slice_index}
use Rattle.beta_list_laws.specs.LowestList.{alike}

-- the table has 512 places, and for each r < n its number at the index r is the number of entries of the list with the remainder r modulo n
pub record Counts (n : ℕ) (table list : List ℕ) : Type 0 where
  pub room : length table ≡ 512
  pub counts : (r : ℕ) → r < n → slice_index table r ≡ alike n r list
