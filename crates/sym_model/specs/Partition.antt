-- Partitions and skew shapes (Macdonald, I.1; Fulton, Notation). Rows,
-- columns and parts are counted from 1.
use Rattle.std.specs.Prelude.{ℕ, zero, suc, ◌+◌, ◌-◌, ◌<◌, ◌≤◌, nat_le, List, [], ◌∷◌, map, length}
use Rattle.std.specs.Prelude.{cond, slice_index, flat_map, Option, Some, None}
use Rattle.sym_model.specs.Sum.{Among}

-- the list is weakly decreasing
abbrev pub Falls : List ℕ → Type 0
Falls [] = Unit {0}
Falls (a ∷ []) = Unit {0}
Falls (a ∷ b ∷ parts) = (b ≤ a) × Falls (b ∷ parts)

-- the list is weakly decreasing, and, if there is a number `before`, the first number of the list is at most `before`
abbrev pub FallsFrom : Option ℕ → List ℕ → Type 0
FallsFrom None numbers = Falls numbers
FallsFrom (Some before) numbers = Falls (before ∷ numbers)

-- each number of the list is positive
abbrev pub ArePositive : List ℕ → Type 0
ArePositive [] = Unit {0}
ArePositive (a ∷ parts) = (0 < a) × ArePositive parts

-- the list is a partition: a weakly decreasing list of positive numbers, its parts (Macdonald)
pub record IsPartition (parts : List ℕ) : Type 0 where
  pub falls : Falls parts
  pub positive : ArePositive parts

-- each list of the list `shapes` is a partition
abbrev pub ArePartitions : List (List ℕ) → Type 0
ArePartitions shapes = (parts : List ℕ) → Among parts shapes → IsPartition parts

-- the size of a partition, |λ|: the sum of its parts
abbrev pub size : List ℕ → ℕ
size [] = 0
size (a ∷ parts) = a + size parts

-- the number of rows of a partition, which is the number of its parts
abbrev pub rows : List ℕ → ℕ
rows parts = length parts

-- part i of a list, counted from 1; 0 after the last part. i must be at least 1: the subtraction i - 1 is cut off at
-- 0, so i = 0 would give the first part.
abbrev pub part : List ℕ → ℕ → ℕ
part parts i = slice_index parts (i - 1)

-- the number of columns of a partition: its first part, or 0 if it is empty
abbrev pub columns : List ℕ → ℕ
columns parts = part parts 1

-- the shape of inner lies inside that of outer: inner_i ≤ outer_i in each row i
abbrev pub Holds : List ℕ → List ℕ → Type 0
Holds outer inner = (i : ℕ) → part inner i ≤ part outer i

-- (row, column) is a cell of the skew shape outer/inner: a cell of outer that is not a cell of inner
pub record IsCell (outer inner : List ℕ) (row column : ℕ) : Type 0 where
  pub row_counts : 1 ≤ row
  pub outside : part inner row < column
  pub within : column ≤ part outer row

-- the numbers from a + 1 to a + k, in increasing order
abbrev pub after : ℕ → ℕ → List ℕ
after a zero = []
after a (suc k) = (a + 1) ∷ after (a + 1) k

-- the cells of outer/inner in a row, as pairs (row, column)
abbrev pub row_cells : List ℕ → List ℕ → ℕ → List (ℕ × ℕ)
row_cells outer inner row =
    map (λ column. (row, column)) (after (part inner row) (part outer row - part inner row))

-- the cells of outer/inner, row by row from the top, each row from left to right
abbrev pub cells : List ℕ → List ℕ → List (ℕ × ℕ)
cells outer inner = flat_map (row_cells outer inner) (after 0 (rows outer))

-- the weakly decreasing list of positive numbers with a inserted in its order; if a is 0, the list itself
abbrev pub insert_part : ℕ → List ℕ → List ℕ
insert_part zero parts = parts
insert_part (suc a) [] = suc a ∷ []
insert_part (suc a) (b ∷ parts) =
    cond (nat_le b (suc a)) (suc a ∷ b ∷ parts) (b ∷ insert_part (suc a) parts)

-- the partition that a list of exponents sorts to: its positive numbers in decreasing order
abbrev pub sorted_parts : List ℕ → List ℕ
sorted_parts [] = []
sorted_parts (a ∷ α) = insert_part a (sorted_parts α)

-- the list with a number added in front; if the number is 0 and the list is empty, the empty list
abbrev pub in_front : ℕ → List ℕ → List ℕ
in_front zero [] = []
in_front zero (b ∷ numbers) = 0 ∷ b ∷ numbers
in_front (suc a) numbers = suc a ∷ numbers

-- the list without the zeros at its end
abbrev pub without_last_zeros : List ℕ → List ℕ
without_last_zeros [] = []
without_last_zeros (a ∷ numbers) = in_front a (without_last_zeros numbers)
