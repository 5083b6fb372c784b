-- The errors of the rows of a tableau, row by row: one rule finds all errors of an entry.
use Rattle.std.specs.Prelude.{ℕ, ◌+◌, ◌==◌, nat_le, nat_lt, Bool, false, ◌||◌, List, [], ◌∷◌, ◌++◌}
use Rattle.std.specs.Prelude.{length, drop, Option, Some, None}
use Rattle.sym_model.specs.Partition.{part}
use Rattle.sym_model.specs.ExpressionOffence.{range, shape}
use Rattle.sym_model.specs.CommandOffence.{Offence, Rule, PlacedRow, when, offences_by, entry_rule}
use Rattle.sym_model.specs.CommandOffence.{left_of, falls, stays, stands_in, entry_above}
use Rattle.sym_model.specs.CommandOffence.{most_letters, earlier_of}

-- the earlier of two errors, either of which may be absent
abbrev pub earlier : Option Offence → Option Offence → Option Offence
earlier None p = p
earlier (Some o) p = earlier_of o p

-- whether a number with j entries before it in its row, and `count` entries in the rows before, is the 257th of the tableau; false if no `count` is
-- given
abbrev pub is_too_much : Option ℕ → ℕ → Bool
is_too_much None j = false
is_too_much (Some count) j = count + j == most_letters

-- whether a number with j entries before it in its row makes the row longer than `most`; false if no `most` is given
abbrev pub is_too_long : Option ℕ → ℕ → Bool
is_too_long None j = false
is_too_long (Some most) j = nat_le most j

-- the errors of an entry of a tableau: over 2^127 - 1 (literal); 0, over 65,535, or the 257th entry (range); after the first `most` entries of its
-- row, or not allowed after the entries before it by the test `is_wrong` (shape)
abbrev pub cell_rule : Option ℕ → Option ℕ → (List ℕ → ℕ → Bool) → Rule
cell_rule count most is_wrong before a =
    entry_rule before a
    ++ (when (is_too_much count (length before)) range
    ++ (when (is_too_long most (length before)) shape ++ when (is_wrong before a) shape))

-- whether a number of a row that begins after column d, below the row `upper` that begins after column c, is smaller than its left neighbour, or not
-- greater than the entry above it
abbrev pub is_disordered : ℕ → List ℕ → ℕ → List ℕ → ℕ → Bool
is_disordered c upper d before a =
    falls (left_of before) a || stays (entry_above upper c (d + length before)) a

-- whether a number in a row below the row `upper`, in a tableau that must be standard with `cells` cells, is greater than `cells`, not greater than
-- its left neighbour or the entry above it, or equal to an entry before it in its row or in the rows before (`earlier`)
abbrev pub is_no_record : ℕ → List ℕ → List ℕ → List ℕ → ℕ → Bool
is_no_record cells earlier upper before a =
    nat_lt cells a || stays (left_of before) a || stays (entry_above upper 0 (length before)) a
    || stands_in a before
    || stands_in a earlier

-- the errors of the rows of an insertion tableau that follow the row `upper`, if all rows up to `upper` have `count` entries together. The first of
-- these rows may have at most `most` entries, or any number if no `most` is given; each later row may have at most as many as the row above it.
abbrev pub inserted : ℕ → Option ℕ → List ℕ → List PlacedRow → List Offence
inserted count most upper [] = []
inserted count most upper (row ∷ rows) =
    offences_by (cell_rule (Some count) most (is_disordered 0 upper 0)) row.0 row.1
    ++ inserted (count + length row.1) (Some (length row.1)) row.1 rows

-- the errors of the rows of a recording tableau of `cells` cells that follow the row `upper`; all rows up to `upper` have `count` entries together,
-- which are listed in `earlier`
abbrev pub recorded : ℕ → ℕ → List ℕ → List ℕ → List PlacedRow → List Offence
recorded cells count earlier upper [] = []
recorded cells count earlier upper (row ∷ rows) =
    offences_by (cell_rule (Some count) None (is_no_record cells earlier upper)) row.0 row.1
    ++ recorded cells (count + length row.1) (row.1 ++ earlier) row.1 rows

-- the errors of the rows of a skew tableau that follow the row `upper`. The row `upper` begins after column c; the columns after which the following
-- rows begin are the parts of `inner`.
abbrev pub skewed : ℕ → List ℕ → List ℕ → List PlacedRow → List Offence
skewed c upper inner [] = []
skewed c upper inner (row ∷ rows) =
    offences_by (cell_rule None None (is_disordered c upper (part inner 1))) row.0 row.1
    ++ skewed (part inner 1) row.1 (drop 1 inner) rows
