-- The reduction of a partition into the alcove, by the remainders of its beta list.
use Rattle.std.specs.Prelude.{◌≡◌, ℕ, false, ℤ, List, map}
use Rattle.sym_model.specs.BetaList.{beta, has_equal_entries, sorting_sign}
use Rattle.beta_list_laws.specs.AlcoveEnd.{remainders, match_in, IsAlcoveEnd}

-- No two entries of the beta list of `shape` have the same remainder modulo n. The beta list of `end` is the only list that `IsAlcoveEnd` allows for
-- the beta list of `shape`: it is strictly decreasing, it has the same sum and the same remainders, and its first entry exceeds its last by less than
-- n. The number `sign` is the sign of the permutation that takes each entry of the one beta list to the entry of the other with the same remainder.
pub record IsAlcoveOf (k n : ℕ) (shape end : List ℕ) (sign : ℤ) : Type 0 where
  pub differ : has_equal_entries (remainders n (beta k shape)) ≡ false
  pub ends : IsAlcoveEnd n (beta k shape) (beta k end)
  pub only : (c : List ℕ) → IsAlcoveEnd n (beta k shape) c → c ≡ beta k end
  pub matches : sign ≡ sorting_sign (map (match_in n (beta k end)) (beta k shape))
