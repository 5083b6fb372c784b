-- Lattice tableaux of ν/λ with a given content, built row by row, from the first row on: the number of ways to add the rows that are still to come.
-- Also bounds for the row that is added next. E_t is the number of places of a row with a letter of at most t (places outside the shape have the
-- letter 0), and `ends` is the list E_(n-1), .., E_0 of the row above.
use Rattle.std.specs.Prelude.{◌≡◌, ℕ, zero, suc, ◌+◌, ◌-◌, ◌<◌, ◌≤◌, nat_eq, Bool, true, cond, max, min, List, length, take, get_or}
use Rattle.std.specs.Cmp.Lexicographic.{pointwise}
use Rattle.lr_product.specs.WeighedSum.{VanishesOutside}
use Rattle.lr_product.specs.RowExtension.{over_rows}

-- 1 if the sum ν is the content μ, whatever the last row; otherwise 0
abbrev pub fills : List ℕ → List ℕ → List ℕ → ℕ
fills μ ν right = cond (pointwise nat_eq ν μ) 1 0

-- the number of ways to add rows that end in the columns `label`, and have their first places, as many as `inner` says, outside the shape, so that the
-- first n numbers of `content` become those of μ; `ends` describes the row above
abbrev pub row_ways : ℕ → List ℕ → List ℕ → List ℕ → List ℕ → List ℕ → ℕ
row_ways n μ inner label content ends =
    over_rows n label inner (fills (take n μ)) (take n content) (take n ends)

-- the greatest number of letters t + 1 that may be added to the sum c: its number at the index t may exceed neither that of μ nor the one before it
abbrev pub row_room : List ℕ → List ℕ → ℕ → ℕ
row_room μ c zero = get_or μ 0 0 - get_or c 0 0
row_room μ c (suc t) =
    min (get_or μ (suc t) 0 - get_or c (suc t) 0) (get_or c t 0 - get_or c (suc t) 0)

-- the least E_t with which the sum c can still become μ: each of the letters 1, .., t is missing at most E_t times, since it can be once in a column
abbrev pub least_end : ℕ → List ℕ → List ℕ → ℕ → ℕ
least_end outside μ c zero = outside
least_end outside μ c (suc t) = max (least_end outside μ c t) (get_or μ t 0 - get_or c t 0)

-- the greatest E_t of a row that is allowed below the row that `ends` describes, and after which no number of the sum exceeds that of μ or the one
-- before it
abbrev pub greatest_end : ℕ → ℕ → List ℕ → List ℕ → List ℕ → ℕ → ℕ
greatest_end n outside μ c ends zero = outside
greatest_end n outside μ c ends (suc t) =
    min (get_or ends (n - suc t) 0) (greatest_end n outside μ c ends t + row_room μ c t)

-- these bounds for the letters up to m, of n letters, in three lists; the numbers of c, raised by those of `room`, are less than 256
pub record AreBounds (n m outside : ℕ) (μ c ends room least greatest : List ℕ) : Type 0 where
  pub room_is : (t : ℕ) → t < m → get_or room t 0 ≡ row_room μ c t
  pub least_is : (t : ℕ) → t ≤ m → get_or least t 0 ≡ least_end outside μ c t
  pub greatest_is : (t : ℕ) → t ≤ m → get_or greatest t 0 ≡ greatest_end n outside μ c ends t
  pub fits : (t : ℕ) → t < m → get_or c t 0 + get_or room t 0 < 256

-- two lists have the same first t numbers
pub record AgreeBelow (t : ℕ) (s c : List ℕ) : Type 0 where
  pub agree : (i : ℕ) → i < t → get_or s i 0 ≡ get_or c i 0

-- f(ν, ends) may count ways to complete the sum ν (n numbers) to μ: it is 0 if a number of ν exceeds that of μ, if the letter j + 1 is missing more
-- than E_j times, and, after the last row, if ν is not μ
pub record CountsEndings (n : ℕ) (is_last : Bool) (μ : List ℕ) (f : List ℕ → List ℕ → ℕ) : Type 0 where
  pub within : VanishesOutside μ f
  pub reaches : (ν ends : List ℕ) (j : ℕ) → length ν ≡ n → length ends ≡ n → j < n
      → get_or ν j 0 + get_or ends (n - suc j) 0 < get_or μ j 0 → f ν ends ≡ 0
  pub full : is_last ≡ true → (ν ends : List ℕ) → (ν ≡ μ → ⊥) → f ν ends ≡ 0

-- f(ν, ends) depends only on the greatest ends of a next row whose first `outside` places are outside the shape
pub record CountsReached (n outside : ℕ) (μ : List ℕ) (f : List ℕ → List ℕ → ℕ) : Type 0 where
  pub alike : (ν U V : List ℕ) → length ν ≡ n → length U ≡ n → length V ≡ n
      → ((t : ℕ) → t ≤ n → greatest_end n outside μ ν U t ≡ greatest_end n outside μ ν V t) → f ν U ≡ f ν V

-- an entry of a label is less than 256, and after the last row the first n numbers of the sum are those of μ
pub record IsRowStep (n : ℕ) (is_last : Bool) (μ : List ℕ) (entry : ℕ) (content : List ℕ) : Type 0 where
  pub below : entry < 256
  pub complete : is_last ≡ true → take n content ≡ take n μ

-- the numbers of letters and rows are in range, and if no row is to come, the first n numbers of `content` are those of μ
pub record IsLatticeState (n rows after : ℕ) (μ content : List ℕ) : Type 0 where
  pub some : 2 ≤ n
  pub few : n ≤ 8
  pub left : after ≤ rows
  pub complete : after ≡ 0 → take n content ≡ take n μ
