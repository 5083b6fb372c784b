-- The sum over the good tableaux, given by their columns, is the sum over the ways to choose the columns one by one from the right (`over_columns`).
-- A tableau is *good* for a partition `start` if start plus the content of the columns right of column j is a partition, for each j ≥ 0.
use Rattle.std.proofs.Common.{◌≡◌, ℕ, Bool, true, false, cond, ◌&&◌, List, [], ◌∷◌, ◌++◌, ◌∙◌, refl, arith, ℤ, pos, rules}
use Rattle.sym_model.specs.Sum.{total}
use Rattle.sym_model.specs.Polynomial.{join}
use Rattle.sym_model.specs.Schur.{content}
use Rattle.sym_model.specs.GoodTableau.{is_falling}
use Rattle.sym_model.proofs.Sums.{total_ext, total_zero, total_exchange}
use Rattle.sym_model.proofs.Exponents.{join_assoc, join_comm}
use lib.IntN.{+ℤ_idr}
use Rattle.tableau_laws.specs.PaddedRows.{words_over, fillings_over}
use Rattle.tableau_laws.specs.Grid.{first_line, are_tableau_columns}
use Rattle.tableau_laws.specs.ColumnFold.{sum_reached, is_good_by_columns, may_be_next, next_columns, over_columns}
use Rattle.tableau_laws.proofs.Transposing.{fillings_sum}
use Rattle.tableau_laws.proofs.Contents.{content-append}

-- one more column c adds the content of c to `sum_reached`, which is start plus the content of the columns
pub sum_reached-cons : (n : ℕ) (start c : List ℕ) (columns : List (List ℕ)) → sum_reached n start (c ∷ columns) ≡ join (sum_reached n start columns) (content n c)
sum_reached-cons n start c columns = search (rules, content-append, join_comm, join_assoc)

pub total_under : {A : Type 0} (b : Bool) (test : A → Bool) (f : A → ℤ) (xs : List A)
    → total (λ (x : A). cond (b && test x) (f x) (pos 0)) xs ≡ cond b (total (λ (x : A). cond (test x) (f x) (pos 0)) xs) (pos 0)
total_under true test f xs = refl
total_under false test f xs = total_zero xs

-- f(start + content, leftmost column) if the columns are those of a semistandard tableau that is good for start; otherwise 0
abbrev pub of_good_columns : ℕ → List ℕ → (List ℕ → List ℕ → ℤ) → List (List ℕ) → ℤ
of_good_columns n start f columns =
    cond (are_tableau_columns columns && is_good_by_columns n start columns) (f (sum_reached n start columns) (first_line columns)) (pos 0)

regroup : (chain pass grid falls good : Bool) → ((chain && (pass && grid)) && (falls && good)) ≡ ((grid && good) && (chain && (pass && falls)))
regroup chain pass grid falls good = grind arith

add_column : (n : ℕ) (start : List ℕ) (f : List ℕ → List ℕ → ℤ) (c : List ℕ) (columns : List (List ℕ))
    → of_good_columns n start f (c ∷ columns)
    ≡ cond ((are_tableau_columns columns && is_good_by_columns n start columns) && may_be_next n (sum_reached n start columns) (first_line columns) c)
    (f (join (sum_reached n start columns) (content n c)) c) (pos 0)
add_column n start f c columns = search (rules, sum_reached-cons, regroup)

pub total_good_columns : (n : ℕ) (start : List ℕ) (lines : List (List Bool)) (f : List ℕ → List ℕ → ℤ)
    → total (of_good_columns n start f) (fillings_over n lines)
    ≡ cond (is_falling (sum_reached n start [])) (over_columns n lines f (sum_reached n start []) []) (pos 0)
total_good_columns n start [] f = +ℤ_idr (of_good_columns n start f [])
total_good_columns n start (line ∷ lines) f =
    fillings_sum n line lines (of_good_columns n start f)
    ∙ total_exchange (λ (c : List ℕ) (columns : List (List ℕ)). of_good_columns n start f (c ∷ columns)) (words_over n line) (fillings_over n lines)
    ∙ total_ext (λ (columns : List (List ℕ)). total (λ (c : List ℕ). of_good_columns n start f (c ∷ columns)) (words_over n line)) (of_good_columns n start (next_columns n line f))
    (λ columns. total_ext (λ (c : List ℕ). of_good_columns n start f (c ∷ columns)) (λ (c : List ℕ). cond ((are_tableau_columns columns && is_good_by_columns n start columns) && may_be_next n (sum_reached n start columns) (first_line columns) c) (f (join (sum_reached n start columns) (content n c)) c) (pos 0)) (λ c. add_column n start f c columns) (words_over n line)
    ∙ total_under (are_tableau_columns columns && is_good_by_columns n start columns) (may_be_next n (sum_reached n start columns) (first_line columns)) (λ (c : List ℕ). f (join (sum_reached n start columns) (content n c)) c) (words_over n line))
    (fillings_over n lines)
    ∙ total_good_columns n start lines (next_columns n line f)

-- let the lines (lists of booleans, true at the cells of a column) be `lines` and then `line`. Then the sum over all choices of columns
-- (`over_columns`) is a sum over the rightmost column c, which fills `line` and can be added left of `right`; the summand of c is the sum over the
-- choices of the columns left of c
pub over_columns-last : (n : ℕ) (lines : List (List Bool)) (line : List Bool) (f : List ℕ → List ℕ → ℤ) (ν right : List ℕ)
    → over_columns n (lines ++ (line ∷ [])) f ν right ≡ next_columns n line (over_columns n lines f) ν right
over_columns-last n [] line f ν right = refl
over_columns-last n (first ∷ lines) line f ν right = over_columns-last n lines line (next_columns n first f) ν right
