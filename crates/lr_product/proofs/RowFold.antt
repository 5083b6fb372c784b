-- Tableaux of a shape are built row by row or column by column: the sum of f over all ways to add the rows of the shape to ν is equal to the sum of f
-- over all ways to add its columns.
use Rattle.std.proofs.Common.{◌≡◌, ℕ, suc, ◌+◌, ◌-◌, ◌<◌, ◌≤◌, nat_le, nat_lt, Bool, true, false, cond, ◌&&◌, List, [], ◌∷◌, length, drop, get_or, refl, sym, ap, ap₂, ◌∙◌, arith, ℤ, pos, rules}
use Rattle.std.proofs.lemmas.Bool.{lt-ltb}
use Rattle.std.proofs.lemmas.Int.{ints}
use Rattle.sym_model.specs.Sum.{total}
use Rattle.sym_model.specs.Partition.{Falls, part}
use Rattle.sym_model.specs.Polynomial.{join}
use Rattle.sym_model.specs.Schur.{content, contains, letters_of}
use Rattle.sym_model.specs.GoodTableau.{is_falling}
use Rattle.sym_model.proofs.Sums.{total_ext, total_among}
use Rattle.sym_model.proofs.Exponents.{join_assoc, length-join}
use Rattle.sym_model.proofs.Contents.{content-none}
use Rattle.tableau_laws.specs.PaddedRows.{transposed, line_of, pattern_of, words_over, fillings_over}
use Rattle.tableau_laws.specs.Grid.{is_chain}
use Rattle.tableau_laws.specs.ColumnFold.{column_lines, over_columns}
use Rattle.tableau_laws.proofs.PatternFillings.{filling_tells}
use Rattle.tableau_laws.proofs.Transposing.{fillings_sum, transposed-sum}
use Rattle.tableau_laws.proofs.RowSums.{contains_rest}
use Rattle.tableau_laws.proofs.ColumnSums.{of_good_columns, total_good_columns, total_under}
use Rattle.tableau_laws.proofs.Contents.{content-transposed, content-append}
use Rattle.alternant_laws.proofs.Exchanges.{length_content}
use Rattle.alternant_laws.proofs.StraightShapes.{falls_places}
use Rattle.lr_product.specs.WeighedSum.{over_states}
use Rattle.lr_product.specs.RowExtension.{next_row, over_rows}
use Rattle.lr_product.proofs.ColumnsOfCounts.{over-states}
use Rattle.lr_product.proofs.RowWords.{kept_row, row_test, places_down, over_row_words, join-none}
use Rattle.lr_product.proofs.RowTableaux.{rows_test, row_descends, test_same}

below_row : (n : ℕ) (f : List ℕ → ℕ) (ν above w : List ℕ) (P : List (List ℕ))
    → cond (rows_test n ν above (w ∷ P)) (pos (f (join ν (content n (letters_of (w ∷ P)))))) (pos 0)
    ≡ cond ((is_chain nat_le w && row_test n ν above w) && rows_test n (join ν (content n w)) (places_down n 0 w) P) (pos (f (join (join ν (content n w)) (content n (letters_of P))))) (pos 0)
below_row n f ν above w P =
    ap (λ (s : List ℕ). cond (rows_test n ν above (w ∷ P)) (pos (f s)) (pos 0)) (ap (join ν) (content-append n w (letters_of P)) ∙ sym (join_assoc ν (content n w) (content n (letters_of P))))

fold_rows : (n : ℕ) (outer inner : List ℕ) (f : List ℕ → ℕ) (ν above : List ℕ) → 0 < n → contains outer inner ≡ true → length ν ≡ n → ((i : ℕ) → get_or ν (suc i) 0 ≤ get_or ν i 0)
    → total (λ (P : List (List ℕ)). cond (rows_test n ν above P) (pos (f (join ν (content n (letters_of P))))) (pos 0)) (fillings_over n (pattern_of outer inner))
    ≡ pos (over_rows n outer inner (λ ν' r. f ν') ν above)
fold_rows n [] inner f ν above some holds long falls = search (rules, content-none, join-none)
fold_rows n (a ∷ outer) inner f ν above some holds long falls =
    fillings_sum n (line_of b (a - b)) (pattern_of outer (drop 1 inner)) (λ (P : List (List ℕ)). cond (rows_test n ν above P) (pos (f (join ν (content n (letters_of P))))) (pos 0))
    ∙ total_ext (λ (w : List ℕ). total (λ (P : List (List ℕ)). cond (rows_test n ν above (w ∷ P)) (pos (f (join ν (content n (letters_of (w ∷ P)))))) (pos 0)) (fillings_over n (pattern_of outer (drop 1 inner))))
    (λ (w : List ℕ). cond (is_chain nat_le w && row_test n ν above w) (pos (g (join ν (content n w)) (kept_row kept n 0 w))) (pos 0))
    (each (λ w e. fold_rows n outer (drop 1 inner) f (join ν (content n w)) (places_down n 0 w) some (contains_rest a outer inner holds).1 (let j = length-join ν (content n w) in let c = length_content n w in omega arith) (row_descends n ν above w long falls e)))
    (words_over n (line_of b (a - b)))
    ∙ over_row_words n b (a - b) kept g ν above some long falls
    ∙ ap (λ k. pos (next_row n kept b k g ν above)) (let h = (contains_rest a outer inner holds).0 in let e : b + (a - b) ≡ a = omega arith in e)
  where
    b : ℕ
    b = part inner 1

    kept : Bool
    kept = nat_lt 0 (length outer)

    g : List ℕ → List ℕ → ℕ
    g = over_rows n outer (drop 1 inner) (λ ν' r. f ν')

    seen_row : (o : List ℕ) (ν' w : List ℕ) → over_rows n o (drop 1 inner) (λ ν'' r. f ν'') ν' (places_down n 0 w) ≡ over_rows n o (drop 1 inner) (λ ν'' r. f ν'') ν' (kept_row (nat_lt 0 (length o)) n 0 w)
    seen_row [] ν' w = refl
    seen_row (x ∷ o) ν' w = ap (λ t. over_rows n (x ∷ o) (drop 1 inner) (λ ν'' r. f ν'') ν' (kept_row t n 0 w)) (sym (lt-ltb 0 (suc (length o)) (omega arith)))

    under : (t : Bool) (x y : ℤ) → (t ≡ true → x ≡ y) → cond t x (pos 0) ≡ cond t y (pos 0)
    under true x y e = e refl
    under false x y e = refl

    each : ((w : List ℕ) → (is_chain nat_le w && row_test n ν above w) ≡ true
        → total (λ (P : List (List ℕ)). cond (rows_test n (join ν (content n w)) (places_down n 0 w) P) (pos (f (join (join ν (content n w)) (content n (letters_of P))))) (pos 0)) (fillings_over n (pattern_of outer (drop 1 inner)))
        ≡ pos (over_rows n outer (drop 1 inner) (λ ν' r. f ν') (join ν (content n w)) (places_down n 0 w)))
        → (w : List ℕ)
        → total (λ (P : List (List ℕ)). cond (rows_test n ν above (w ∷ P)) (pos (f (join ν (content n (letters_of (w ∷ P)))))) (pos 0)) (fillings_over n (pattern_of outer (drop 1 inner)))
        ≡ cond (is_chain nat_le w && row_test n ν above w) (pos (g (join ν (content n w)) (kept_row kept n 0 w))) (pos 0)
    each rec w =
        total_ext (λ (P : List (List ℕ)). cond (rows_test n ν above (w ∷ P)) (pos (f (join ν (content n (letters_of (w ∷ P)))))) (pos 0))
        (λ (P : List (List ℕ)). cond ((is_chain nat_le w && row_test n ν above w) && rows_test n (join ν (content n w)) (places_down n 0 w) P) (pos (f (join (join ν (content n w)) (content n (letters_of P))))) (pos 0))
        (λ P. below_row n f ν above w P) (fillings_over n (pattern_of outer (drop 1 inner)))
        ∙ total_under (is_chain nat_le w && row_test n ν above w) (λ (P : List (List ℕ)). rows_test n (join ν (content n w)) (places_down n 0 w) P) (λ (P : List (List ℕ)). pos (f (join (join ν (content n w)) (content n (letters_of P))))) (fillings_over n (pattern_of outer (drop 1 inner)))
        ∙ under (is_chain nat_le w && row_test n ν above w) (total (λ (P : List (List ℕ)). cond (rows_test n (join ν (content n w)) (places_down n 0 w) P) (pos (f (join (join ν (content n w)) (content n (letters_of P))))) (pos 0)) (fillings_over n (pattern_of outer (drop 1 inner)))) (pos (g (join ν (content n w)) (kept_row kept n 0 w)))
        (λ e. rec w e
        ∙ ap pos (seen_row outer (join ν (content n w)) w))

-- the sum of f over all ways to add the rows of outer/inner, one after another, to the weakly decreasing sum ν is equal to the sum of f over all ways
-- to add its columns
pub rows_columns : (n : ℕ) (outer inner : List ℕ) (f : List ℕ → ℕ) (ν : List ℕ) → 0 < n → Falls outer → contains outer inner ≡ true → length ν ≡ n → is_falling ν ≡ true
    → over_rows n outer inner (λ ν' r. f ν') ν [] ≡ over_states n (column_lines outer inner) (λ ν' r. f ν') ν []
rows_columns n outer inner f ν some falls holds long descends =
    let e : pos (over_rows n outer inner (λ ν' r. f ν') ν []) ≡ pos (over_states n (column_lines outer inner) (λ ν' r. f ν') ν []) =
    sym (fold_rows n outer inner f ν [] some holds long (falls_places ν descends))
    ∙ total_among (λ (P : List (List ℕ)). cond (rows_test n ν [] P) (pos (f (join ν (content n (letters_of P))))) (pos 0)) (λ (P : List (List ℕ)). of_good_columns n ν (λ ν' r. pos (f ν')) (transposed P)) (fillings_over n (pattern_of outer inner))
    (λ P m. ap₂ (λ (t : Bool) (κ : List ℕ). cond t (pos (f (join ν κ))) (pos 0)) (sym (test_same n ν outer inner P falls holds long descends (filling_tells n (pattern_of outer inner) P m))) (sym (content-transposed n P)))
    ∙ transposed-sum n (pattern_of outer inner) (of_good_columns n ν (λ ν' r. pos (f ν')))
    ∙ total_good_columns n ν (column_lines outer inner) (λ ν' r. pos (f ν'))
    ∙ ap (λ s. cond (is_falling s) (over_columns n (column_lines outer inner) (λ ν' r. pos (f ν')) s []) (pos 0)) (ap (join ν) (content-none n) ∙ join-none n ν long)
    ∙ ap (λ t. cond t (over_columns n (column_lines outer inner) (λ ν' r. pos (f ν')) ν []) (pos 0)) descends
    ∙ sym (over-states n (column_lines outer inner) (λ ν' r. f ν') ν []) in
    omega (arith, ints)
