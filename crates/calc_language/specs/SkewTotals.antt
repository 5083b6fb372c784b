-- The errors of the words of `rect`: two partitions and a tableau. A *number word* is a word of decimal digits.
use Rattle.std.specs.Prelude.{ℕ, ◌+◌, List, [], ◌++◌, length}
use Rattle.sym_model.specs.Schur.{row_lengths}
use Rattle.sym_model.specs.CommandOffence.{Offence, PlacedRow, part_offences, judged_against}
use Rattle.sym_model.specs.CommandOffence.{row_offences, entry_rule, order_offences}
use Rattle.sym_model.specs.Grammar.{inner_offences}
use Rattle.sym_model.specs.WordForms.{numbers, partition, shape_offences}
use Rattle.word_laws.specs.WrittenRows.{rows_text, rows_at}

-- the errors of the words of `rect`, from the number words of the two partitions, and from the words and the rows of the tableau, which begins at
-- word k
abbrev pub offences_of_skew : List (List ℕ) → List (List ℕ) → ℕ → List (List ℕ) → List PlacedRow
    → List Offence
offences_of_skew outer inner k words rows =
    let outer_found = part_offences 1 (numbers outer) in
    let inner_found =
    inner_offences (2 + length outer) outer_found (numbers outer) (numbers inner) in
    outer_found ++ inner_found ++ row_offences entry_rule rows
    ++ judged_against (outer_found ++ inner_found)
    (shape_offences k (row_lengths (partition outer) (partition inner)) words
    ++ order_offences 0 [] (numbers inner) rows)

-- the errors of the words of `rect` with these number words of the two partitions and of the rows; the outer partition begins at the second word
abbrev pub all_skew_offences : List (List ℕ) → List (List ℕ) → List (List (List ℕ)) → List Offence
all_skew_offences outer inner rows =
    let k = 3 + length outer + length inner in
    offences_of_skew outer inner k (rows_text rows) (rows_at k rows)
