-- The rows of a written tableau: the words at which they begin, and their numbers.
use Rattle.std.proofs.Common.{◌≡◌, ℕ, ◌+◌, List, [], ◌∷◌, map, length, refl, ap, ◌∙◌, inl, inr}
use Rattle.std.specs.Prelude.{codes}
use Rattle.sym_model.specs.Form.{Written, sequence, words_of}
use Rattle.sym_model.specs.CommandOffence.{entries}
use Rattle.sym_model.specs.WordForms.{the, row_words, tableau_words, numbers, row_entries, placed, placed_rows, tableau_rows}
use Rattle.word_laws.specs.Words.{Words}
use Rattle.word_laws.specs.WrittenRows.{row_text, written_row, later_rows, written_rows, rows_at}
use Rattle.calc_language.proofs.CutTableaux.{row_spelled}

entries_written : (x : Written row_words) → row_entries x ≡ numbers (written_row x)
entries_written (inl dot) = refl
entries_written (inr x) = refl

placed_at : (k : ℕ) (x : Written row_words) (xs : List (Written (sequence (the (codes "/")) row_words)))
    → placed k (x ∷ map (λ (y : Unit {0} × Written row_words). y.1) xs) ≡ rows_at k (written_row x ∷ later_rows xs)
placed_at k x [] = ap (λ ns. (k, ns) ∷ []) (entries_written x)
placed_at k x (y ∷ ys) =
    let more = y.1 ∷ map (λ (z : Unit {0} × Written row_words). z.1) ys in
    ap (λ ns. (k, ns) ∷ placed (k + length (words_of row_words x) + 1) more) (entries_written x)
    ∙ ap (λ ws. (k, numbers (written_row x)) ∷ placed (k + length ws + 1) more) (row_spelled x)
    ∙ ap (λ rs. (k, numbers (written_row x)) ∷ rs) (placed_at (k + length (row_text (written_row x)) + 1) y.1 ys)

pub rows_placed : (k : ℕ) (x : Written tableau_words) → placed_rows k x ≡ rows_at k (written_rows x)
rows_placed k x = placed_at k x.0 x.1

entries_at : (k : ℕ) (rows : List Words) → entries (rows_at k rows) ≡ map numbers rows
entries_at k [] = refl
entries_at k (row ∷ rows) = ap (λ rs. numbers row ∷ rs) (entries_at (k + length (row_text row) + 1) rows)

pub rows_entered : (x : Written tableau_words) → tableau_rows x ≡ map numbers (written_rows x)
rows_entered x = ap entries (rows_placed 0 x) ∙ entries_at 0 (written_rows x)
