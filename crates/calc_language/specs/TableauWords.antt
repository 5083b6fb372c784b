-- The words of `unrsk`: two tableaux. A *number word* is a word of decimal digits.
use Rattle.std.specs.Prelude.{◌≡◌, ℕ, ◌<◌, List, ◌∷◌, ◌++◌, length, codes}
use Rattle.sym_model.specs.Form.{EachOf, Has}
use Rattle.sym_model.specs.Grammar.{unrsk_entry}
use Rattle.word_laws.specs.WrittenRows.{rows_text, written_rows}
use Rattle.calc_words.specs.NumberRuns.{IsNumber}

-- the words are `unrsk` and two tableaux with these rows of number words, with `-` between them
pub record AreTwoTableaux (first second : List (List (List ℕ)))
    (words : List (List ℕ)) : Type 0 where
  pub has : Has unrsk_entry.form words
  pub first_is : first ≡ written_rows has.written.1.0
  pub second_is : second ≡ written_rows has.written.1.1.1
  pub words_are : words ≡ codes "unrsk" ∷ (rows_text first ++ codes "-" ∷ rows_text second)
  pub first_some : 0 < length first
  pub first_numbers : EachOf (EachOf IsNumber) first
  pub second_some : 0 < length second
  pub second_numbers : EachOf (EachOf IsNumber) second
