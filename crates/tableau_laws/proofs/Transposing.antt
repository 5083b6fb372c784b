-- A sum over the fillings of a pattern (a list of lines of booleans that are true at the cells) is a sum over the fillings of the transposed pattern:
-- a filling is listed by its rows or by its columns.
use Rattle.std.proofs.Common.{◌≡◌, ℕ, Bool, List, [], ◌∷◌, sym, ◌∙◌, refl, ℤ, rules}
use lib.IntN.{+ℤ_idr}
use Rattle.sym_model.specs.Sum.{total}
use Rattle.sym_model.proofs.Sums.{total_ext, total_map, total_each, total_exchange}
use Rattle.tableau_laws.specs.PaddedRows.{put_row, transposed, letters_at, words_over, fillings_over}

-- the sum over the words of a line is a double sum: over the first letter, and over the words of the other places
pub words_sum : (n : ℕ) (p : Bool) (line : List Bool) (g : List ℕ → ℤ)
    → total g (words_over n (p ∷ line)) ≡ total (λ (a : ℕ). total (λ (w : List ℕ). g (a ∷ w)) (words_over n line)) (letters_at n p)
words_sum n p line g = search (rules, total_each, total_ext, total_map)

-- the sum over the fillings of a pattern is a double sum: over the words of its first line, and over the fillings of its other lines
pub fillings_sum : (n : ℕ) (line : List Bool) (pattern : List (List Bool)) (f : List (List ℕ) → ℤ)
    → total f (fillings_over n (line ∷ pattern)) ≡ total (λ (w : List ℕ). total (λ (rest : List (List ℕ)). f (w ∷ rest)) (fillings_over n pattern)) (words_over n line)
fillings_sum n line pattern f = search (rules, total_each, total_ext, total_map)

put_sum : (n : ℕ) (line : List Bool) (columns : List (List Bool)) (f : List (List ℕ) → ℤ)
    → total (λ (w : List ℕ). total (λ (cols : List (List ℕ)). f (put_row w cols)) (fillings_over n columns)) (words_over n line)
    ≡ total f (fillings_over n (put_row line columns))
put_sum n [] columns f = +ℤ_idr (total f (fillings_over n columns))
put_sum n (p ∷ line) [] f =
    words_sum n p line (λ (w : List ℕ). total (λ (cols : List (List ℕ)). f (put_row w cols)) ([] ∷ []))
    ∙ total_ext
    (λ (a : ℕ). total (λ (w : List ℕ). total (λ (cols : List (List ℕ)). f (put_row (a ∷ w) cols)) ([] ∷ [])) (words_over n line))
    (λ (a : ℕ). total (λ (u : List ℕ). total (λ (rest : List (List ℕ)). f ((a ∷ u) ∷ rest)) (fillings_over n (put_row line []))) ([] ∷ []))
    (λ a. put_sum n line [] (λ (cols : List (List ℕ)). f ((a ∷ []) ∷ cols)) ∙ sym (+ℤ_idr (total (λ (rest : List (List ℕ)). f ((a ∷ []) ∷ rest)) (fillings_over n (put_row line [])))))
    (letters_at n p)
    ∙ sym (words_sum n p [] (λ (u : List ℕ). total (λ (rest : List (List ℕ)). f (u ∷ rest)) (fillings_over n (put_row line []))))
    ∙ sym (fillings_sum n (p ∷ []) (put_row line []) f)
put_sum n (p ∷ line) (c ∷ columns) f =
    words_sum n p line (λ (w : List ℕ). total (λ (cols : List (List ℕ)). f (put_row w cols)) (fillings_over n (c ∷ columns)))
    ∙ total_ext
    (λ (a : ℕ). total (λ (w : List ℕ). total (λ (cols : List (List ℕ)). f (put_row (a ∷ w) cols)) (fillings_over n (c ∷ columns))) (words_over n line))
    (λ (a : ℕ). total (λ (u : List ℕ). total (λ (rest : List (List ℕ)). f ((a ∷ u) ∷ rest)) (fillings_over n (put_row line columns))) (words_over n c))
    (λ a. here a (λ u. put_sum n line columns (λ (cols : List (List ℕ)). f ((a ∷ u) ∷ cols))))
    (letters_at n p)
    ∙ sym (words_sum n p c (λ (u : List ℕ). total (λ (rest : List (List ℕ)). f (u ∷ rest)) (fillings_over n (put_row line columns))))
    ∙ sym (fillings_sum n (p ∷ c) (put_row line columns) f)
  where
    here : (a : ℕ)
        → ((u : List ℕ) → total (λ (w : List ℕ). total (λ (cols : List (List ℕ)). f ((a ∷ u) ∷ put_row w cols)) (fillings_over n columns)) (words_over n line)
        ≡ total (λ (rest : List (List ℕ)). f ((a ∷ u) ∷ rest)) (fillings_over n (put_row line columns)))
        → total (λ (w : List ℕ). total (λ (cols : List (List ℕ)). f (put_row (a ∷ w) cols)) (fillings_over n (c ∷ columns))) (words_over n line)
        ≡ total (λ (u : List ℕ). total (λ (rest : List (List ℕ)). f ((a ∷ u) ∷ rest)) (fillings_over n (put_row line columns))) (words_over n c)
    here a lower =
        total_ext (λ (w : List ℕ). total (λ (cols : List (List ℕ)). f (put_row (a ∷ w) cols)) (fillings_over n (c ∷ columns)))
        (λ (w : List ℕ). total (λ (u : List ℕ). total (λ (rest : List (List ℕ)). f ((a ∷ u) ∷ put_row w rest)) (fillings_over n columns)) (words_over n c))
        (λ w. fillings_sum n c columns (λ (cols : List (List ℕ)). f (put_row (a ∷ w) cols))) (words_over n line)
        ∙ total_exchange (λ (w u : List ℕ). total (λ (rest : List (List ℕ)). f ((a ∷ u) ∷ put_row w rest)) (fillings_over n columns)) (words_over n line) (words_over n c)
        ∙ total_ext (λ (u : List ℕ). total (λ (w : List ℕ). total (λ (rest : List (List ℕ)). f ((a ∷ u) ∷ put_row w rest)) (fillings_over n columns)) (words_over n line))
        (λ (u : List ℕ). total (λ (rest : List (List ℕ)). f ((a ∷ u) ∷ rest)) (fillings_over n (put_row line columns)))
        lower (words_over n c)

-- the sum of f(columns of the filling) over the fillings of a pattern is the sum of f over the fillings of the transposed pattern
pub transposed-sum : (n : ℕ) (pattern : List (List Bool)) (f : List (List ℕ) → ℤ)
    → total (λ (rows : List (List ℕ)). f (transposed rows)) (fillings_over n pattern) ≡ total f (fillings_over n (transposed pattern))
transposed-sum n [] f = refl
transposed-sum n (line ∷ pattern) f =
    fillings_sum n line pattern (λ (rows : List (List ℕ)). f (transposed rows))
    ∙ total_ext (λ (w : List ℕ). total (λ (rest : List (List ℕ)). f (put_row w (transposed rest))) (fillings_over n pattern))
    (λ (w : List ℕ). total (λ (cols : List (List ℕ)). f (put_row w cols)) (fillings_over n (transposed pattern)))
    (λ w. transposed-sum n pattern (λ (cols : List (List ℕ)). f (put_row w cols))) (words_over n line)
    ∙ put_sum n line (transposed pattern) f
