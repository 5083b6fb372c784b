-- The words of `rect`: two partitions and a tableau. A *number word* is a word of decimal digits.
use Rattle.std.specs.Prelude.{◌≡◌, ℕ, ◌<◌, List, [], ◌∷◌, ◌++◌, length, codes}
use Rattle.sym_model.specs.CommandOffence.{Offence, row_offences, entry_rule, order_offences}
use Rattle.sym_model.specs.Form.{EachOf, Has}
use Rattle.sym_model.specs.Grammar.{rect_entry}
use Rattle.sym_model.specs.Schur.{row_lengths}
use Rattle.sym_model.specs.WordForms.{shape_offences}
use Rattle.word_laws.specs.WrittenRows.{rows_text, rows_at, written_rows}
use Rattle.calc_words.specs.NumberRuns.{IsNumber}

-- the words are `rect`, the number words `outer` and `inner` with `/` between them and, after `-`, a tableau with these rows of number words
pub record AreSkewWords (outer inner : List (List ℕ)) (rows : List (List (List ℕ)))
    (words : List (List ℕ)) : Type 0 where
  pub has : Has rect_entry.form words
  pub outer_is : outer ≡ has.written.1.0
  pub inner_is : inner ≡ has.written.1.1.1.0
  pub rows_are : rows ≡ written_rows has.written.1.1.1.1.1
  pub words_are : words ≡ codes "rect"
      ∷ (outer ++ codes "/" ∷ (inner ++ codes "-" ∷ rows_text rows))
  pub rows_some : 0 < length rows
  pub rows_numbers : EachOf (EachOf IsNumber) rows

-- the errors of a tableau of shape outer/inner with these rows of number words, the first of which begins at word k
abbrev pub skew_offences : ℕ → List ℕ → List ℕ → List (List (List ℕ)) → List Offence
skew_offences k outer inner rows =
    row_offences entry_rule (rows_at k rows)
    ++ (shape_offences k (row_lengths outer inner) (rows_text rows)
    ++ order_offences 0 [] inner (rows_at k rows))
