-- The words of `tab`: two partitions and, if it is given, a tableau after `-from`. A *number word* is a word of decimal digits.
use Rattle.std.specs.Prelude.{◌≡◌, ℕ, ◌+◌, cond, List, [], ◌∷◌, ◌++◌, map, length, codes, Option}
use Rattle.std.specs.Prelude.{Some, None}
use Rattle.sym_model.specs.CommandOffence.{Offence, judged_against, row_offences, entry_rule}
use Rattle.sym_model.specs.CommandOffence.{rows_in}
use Rattle.sym_model.specs.TableauList.{is_lattice_tableau}
use Rattle.sym_model.specs.ExpressionOffence.{shape}
use Rattle.std.proofs.Common.{inl, inr}
use Rattle.sym_model.specs.Form.{Written, EachOf, Has}
use Rattle.sym_model.specs.GoodTableau.{column_reading}
use Rattle.sym_model.specs.Grammar.{tab_entry, two_partitions}
use Rattle.sym_model.specs.WordForms.{optional, from_words, numbers, partition}
use Rattle.word_laws.specs.WrittenRows.{rows_text, rows_at, written_rows}
use Rattle.calc_words.specs.NumberRuns.{IsNumber}

-- `-from` and the words of a tableau with these rows of number words; no word if there is no row
abbrev pub from_text : List (List (List ℕ)) → List (List ℕ)
from_text [] = []
from_text (row ∷ rows) = codes "-from" ∷ rows_text (row ∷ rows)

-- the rows of number words after `-from`; no row if `-from` is missing
abbrev pub from_rows : Written (optional from_words) → List (List (List ℕ))
from_rows (inl x) = []
from_rows (inr x) = written_rows x.1

-- the words are `tab`, the number words `outer` and `inner` with `/` between them and, unless `rows` is empty, `-from` and a tableau with these rows
-- of number words
pub record AreTabWords (outer inner : List (List ℕ)) (rows : List (List (List ℕ)))
    (words : List (List ℕ)) : Type 0 where
  pub has : Has tab_entry.form words
  pub outer_is : outer ≡ has.written.1.0
  pub inner_is : inner ≡ has.written.1.1.1.0
  pub rows_are : rows ≡ from_rows has.written.1.1.1.1
  pub words_are : words ≡ codes "tab" ∷ (outer ++ codes "/" ∷ (inner ++ from_text rows))
  pub rows_numbers : EachOf (EachOf IsNumber) rows

-- the column reading of the tableau of shape outer/inner with these rows of numbers, if there is a row
abbrev pub last_of : List ℕ → List ℕ → List (List ℕ) → Option (List ℕ)
last_of outer inner [] = None
last_of outer inner (row ∷ rows) = Some (column_reading outer inner (rows_in outer (row ∷ rows)))

-- an error at word k, the word `-from`, if there is a row and the rows of these numbers are no lattice tableau of outer/inner
abbrev pub unlisted : ℕ → List ℕ → List ℕ → List (List ℕ) → List Offence
unlisted k outer inner [] = []
unlisted k outer inner (row ∷ rows) =
    cond (is_lattice_tableau outer inner (rows_in outer (row ∷ rows))) [] ((k, 0, shape) ∷ [])

-- the errors of these rows of number words as a lattice tableau of outer/inner; the rows come after the word `-from`, which is word k
abbrev pub from_offences : ℕ → List ℕ → List ℕ → List (List (List ℕ)) → List Offence
from_offences k outer inner rows =
    unlisted k outer inner (map numbers rows) ++ row_offences entry_rule (rows_at (k + 1) rows)

-- all errors of the words of `tab` with these number words of the two partitions and of the rows; the outer partition begins at the second word
abbrev pub all_tab_offences : List (List ℕ) → List (List ℕ) → List (List (List ℕ)) → List Offence
all_tab_offences outer inner rows =
    let lists = two_partitions 1 outer inner in
    let k = 2 + length outer + length inner in
    lists ++ judged_against lists
    (unlisted k (partition outer) (partition inner) (map numbers rows))
    ++ row_offences entry_rule (rows_at (k + 1) rows)
