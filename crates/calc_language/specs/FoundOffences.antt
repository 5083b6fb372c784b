-- The errors that the program finds, and the tests of a number at its place in a row of a tableau.
use Rattle.std.specs.Prelude.{ℕ, ◌+◌, ◌-◌, min, Bool, true, false, ◌||◌, cond, List, [], ◌∷◌, ◌++◌, length}
use Rattle.std.specs.Prelude.{drop, reverse, slice_index_or, slice_set, Option, Some, None, Result, Ok, Err}
use Rattle.sym_model.specs.Partition.{part}
use Rattle.sym_model.specs.ExpressionOffence.{shape}
use Rattle.sym_model.specs.CommandOffence.{Offence, PlacedRow, offences_by, greatest_letter}
use Rattle.word_laws.specs.JudgedRows.{cell_rule, is_disordered}
use Rattle.expression_reading.specs.declared.offence.Kind.{Kind}
use Rattle.expression_reading.specs.declared.offence.Kind.TheVariants.{Literal}
use Rattle.calc_words.specs.PartRules.{range_or_shape}

-- an error of shape at byte 0 of the word, if a word is given
abbrev pub found_of : Option ℕ → Option Offence
found_of None = None
found_of (Some word) = Some (word, 0, shape)

-- the kind of the error of a number: `Literal` if x (it is over 2^127 - 1), otherwise `Range` if y (it is outside a limit), otherwise `Shape` if z
-- (it is out of order or its row too long), otherwise no error
abbrev pub kind_by : Bool → Bool → Bool → Option Kind
kind_by x y z = cond x (Some Literal) (range_or_shape y z)

-- the number a, or the error of the given kind, if a kind is given
abbrev pub entry_or : ℕ → Option Kind → Result ℕ Kind
entry_or a None = Ok a
entry_or a (Some kind) = Err kind

-- the flags, after the flag at the index a has been set for each number a of the list
abbrev pub marked : List ℕ → List Bool → List Bool
marked [] flags = flags
marked (a ∷ ns) flags = slice_set (marked ns flags) a true

-- whether the list of flags is not empty, and the flag at index a is set or missing
abbrev pub is_taken : List Bool → ℕ → Bool
is_taken [] a = false
is_taken (f ∷ flags) a = slice_index_or (f ∷ flags) a true

-- Whether the number a cannot be the next entry of a row that begins at column d with the entries `before`, below the row `upper`, which begins at
-- column c. It cannot if it is out of order (`is_disordered`). If `flags` is not empty, it has one flag for each number, which is set if the number
-- has occurred in the tableau; then a number that has occurred, is in `before` or has no flag cannot be an entry either.
abbrev pub is_no_entry : ℕ → List ℕ → ℕ → List Bool → List ℕ → ℕ → Bool
is_no_entry c upper d flags before a =
    is_disordered c upper d before a || is_taken (marked before flags) a

-- the last of the rows, or the empty list if there is no row
abbrev pub last_row : List (List ℕ) → List ℕ
last_row rows = slice_index_or rows (length rows - 1) []

-- the count, if one is given, plus the length of ns
abbrev pub counted_on : Option ℕ → List ℕ → Option ℕ
counted_on None ns = None
counted_on (Some count) ns = Some (count + length ns)

-- The errors of the rows of a tableau that follow its row `upper`; that row begins at column c, and these rows begin at the columns `inner`. If
-- `count` is given, entries are counted, and `count` precede these rows; if `most` is given, the first of these rows has at most `most` numbers; if
-- `straight`, no later row is longer than the one above it; and if there are flags, one for each number that may be an entry, a number whose flag is
-- set or missing is an error.
abbrev pub judged : Bool → Option ℕ → Option ℕ → ℕ → List ℕ → List ℕ → List Bool → List PlacedRow → List Offence
judged straight count most c upper inner flags [] = []
judged straight count most c upper inner flags (row ∷ rows) =
    offences_by (cell_rule count most (is_no_entry c upper (part inner 1) flags)) row.0 row.1
    ++ judged straight (counted_on count row.1) (cond straight (Some (length row.1)) None) (part inner 1) row.1
    (drop 1 inner) (marked (reverse row.1) flags) rows

-- the number, or 65,535 if it is greater
abbrev pub at_most_entry : ℕ → ℕ
at_most_entry a = min a greatest_letter
