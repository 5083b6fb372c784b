-- The errors of the two tableaux of `unrsk`, from their rows. A *number word* is a word of decimal digits.
use Rattle.std.specs.Prelude.{ℕ, ◌+◌, List, [], ◌++◌, map, length}
use Rattle.sym_model.specs.Partition.{size}
use Rattle.sym_model.specs.CommandOffence.{Offence, PlacedRow, judged_against, standard_offences}
use Rattle.sym_model.specs.CommandOffence.{rows_in}
use Rattle.sym_model.specs.Grammar.{insertion_offences, filled_offences}
use Rattle.sym_model.specs.WordForms.{numbers, shape_offences}
use Rattle.word_laws.specs.WrittenRows.{rows_text, rows_at}

-- the errors of the two tableaux of `unrsk`, from the rows `first` of the first tableau and their numbers nss, and from the words and the rows of the
-- second tableau, which begins at word k
abbrev pub offences_of_pair : List PlacedRow → List (List ℕ) → ℕ → List (List ℕ) → List PlacedRow
    → List Offence
offences_of_pair first nss k words second =
    insertion_offences first
    ++ filled_offences second
    ++ judged_against (insertion_offences first)
    (shape_offences k (map length (rows_in [] nss)) words
    ++ standard_offences (size (map length (rows_in [] nss))) [] [] second)

-- the errors of the two tableaux of `unrsk` with these rows of number words; the first tableau begins at the second word
abbrev pub pair_offences : List (List (List ℕ)) → List (List (List ℕ)) → List Offence
pair_offences first second =
    let k = 2 + length (rows_text first) in
    offences_of_pair (rows_at 1 first) (map numbers first) k (rows_text second) (rows_at k second)
