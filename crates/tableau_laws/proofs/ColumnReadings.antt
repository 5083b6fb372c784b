-- The columns and the column reading of a filling of a skew shape, computed from its rows padded on the left with zeros at the cells of the inner
-- shape. A padded row or column is a *line*. A tableau is *good* for a partition `start` if start plus the content of the columns right of column j
-- is a partition, for each j ≥ 0.
use Rattle.std.proofs.Common.{◌≡◌, ℕ, zero, suc, ◌+◌, ◌-◌, ◌<◌, ◌≤◌, ◌==◌, Bool, cond, ◌&&◌, List, [], ◌∷◌, ◌++◌, length, replicate, reverse, take, drop, get_or, sym, ◌∙◌, ap, ap₂, refl, inl, inr, arith, append-nil, flat_map, rules}
use Rattle.std.proofs.lemmas.Bool.{lt-ltb, le-ltb, ne_eqb, cases_Bool, ltb-true, ltb-false}
use Rattle.std.proofs.lemmas.List.{reverse-append, drop_all}
use Rattle.std.proofs.Math.Seq.{drop-cons}
use Rattle.sym_model.specs.Sum.{Among}
use Rattle.sym_model.specs.Partition.{ArePositive, columns, after}
use Rattle.sym_model.specs.Polynomial.{join}
use Rattle.sym_model.specs.Schur.{times_in, letters_of, content}
use Rattle.sym_model.specs.GoodTableau.{letter_in, column, reading_right_of, column_reading, is_falling, every, is_good}
use Rattle.tableau_laws.specs.PaddedRows.{put_row, transposed, padded}
use Rattle.tableau_laws.specs.ColumnFold.{filled, reading_of, sum_reached, is_good_by_columns}
use Rattle.tableau_laws.proofs.PaddedTableaux.{ArePositiveRows}
use Rattle.tableau_laws.proofs.Contents.{content_same}
use Rattle.sym_model.proofs.AfterLists.{after_among}
use Rattle.sym_model.proofs.Contents.{times_in-append}
use Rattle.std.proofs.lemmas.Grind.{flat_map-append}
use Rattle.std.proofs.Math.Bool.{and-true}

pub filled-append : (v w : List ℕ) → filled (v ++ w) ≡ filled v ++ filled w
filled-append [] w = refl
filled-append (a ∷ v) w = search (rules, (filled-append v w))

filled_letter : (a : ℕ) (w : List ℕ) → 0 < a → filled (a ∷ w) ≡ a ∷ filled w
filled_letter a w h = ap (λ b. cond b (a ∷ filled w) (filled w)) (lt-ltb 0 a h)

-- `at_place i w`: the one-letter word with the letter of w at the index i; the empty word if w has no such index
abbrev pub at_place : {A : Type 0} → ℕ → List A → List A
at_place i w = take 1 (drop i w)

filled_one : (i : ℕ) (row : List ℕ) → ArePositive row → filled (at_place i row) ≡ at_place i row
filled_one zero [] h = refl
filled_one (suc i) [] h = refl
filled_one zero (a ∷ row) h = filled_letter a [] h.0
filled_one (suc i) (a ∷ row) h = filled_one i row h.1

letter_in-padded : (c i : ℕ) (row : List ℕ) → ArePositive row → letter_in c row (suc i) ≡ filled (at_place i (replicate c 0 ++ row))
letter_in-padded zero i row h = search (rules, lt-ltb, filled_one)
letter_in-padded (suc c) zero row h = ap (λ (b : Bool). cond b (take 1 (drop (1 - (suc c + 1)) row)) []) (le-ltb (suc c) 1 (omega arith))
letter_in-padded (suc c) (suc i) row h = search (rules, cases_Bool, ltb-true, lt-ltb, ltb-false, le-ltb, (letter_in-padded c i row h))

-- ---- column i + 1 of a filling is the line at the index i of the transposed padded rows, without its zeros

-- the line at the index i of a list of lines; the empty line if the list has no such index
abbrev pub line_at : ℕ → List (List ℕ) → List ℕ
line_at i lines = get_or lines i []

pub line_at-put : {A : Type 0} (i : ℕ) (row : List A) (lines : List (List A)) → get_or (put_row row lines) i [] ≡ at_place i row ++ get_or lines i []
line_at-put zero [] lines = refl
line_at-put (suc i) [] lines = refl
line_at-put zero (x ∷ row) [] = refl
line_at-put zero (x ∷ row) (c ∷ lines) = refl
line_at-put {A} (suc i) (x ∷ row) [] = line_at-put i row [] ∙ ap (λ l. at_place i row ++ l) (nothing_there i)
  where
    nothing_there : (j : ℕ) → get_or {A = List A} [] j [] ≡ []
    nothing_there zero = refl
    nothing_there (suc j) = refl
line_at-put (suc i) (x ∷ row) (c ∷ lines) = line_at-put i row lines

pub column-padded : (inner : List ℕ) (rows : List (List ℕ)) (i : ℕ) → ArePositiveRows rows → column inner rows (suc i) ≡ filled (line_at i (transposed (padded inner rows)))
column-padded inner [] zero h = refl
column-padded inner [] (suc i) h = refl
column-padded inner (row ∷ rows) i h = search (rules, letter_in-padded, filled-append, line_at-put, (column-padded (drop 1 inner) rows i h.1))

columns_between : (f : ℕ → List ℕ) (lines : List (List ℕ)) (j k : ℕ) → ((i : ℕ) → f (suc i) ≡ filled (line_at i lines)) → j + k ≡ length lines
    → flat_map f (reverse (after j k)) ≡ reading_of (drop j lines)
columns_between f lines j zero e l = ap reading_of (sym (drop_all j lines (omega arith)))
columns_between f lines j (suc k) e l =
    let n : j + 1 ≡ suc j = omega arith in
    ap (flat_map f) (reverse-append ((j + 1) ∷ []) (after (j + 1) k))
    ∙ flat_map-append f (reverse (after (j + 1) k)) ((j + 1) ∷ [])
    ∙ ap₂ ◌++◌ (columns_between f lines (j + 1) k e (omega arith)) (append-nil (f (j + 1)) ∙ ap f n ∙ e j)
    ∙ ap (λ i. reading_of (drop i lines) ++ filled (line_at j lines)) n
    ∙ ap reading_of (sym (drop-cons lines j [] (omega arith)))

pub reading-padded : (j : ℕ) (outer inner : List ℕ) (rows : List (List ℕ)) → ArePositiveRows rows → length (transposed (padded inner rows)) ≡ columns outer → j ≤ columns outer
    → reading_right_of j outer inner rows ≡ reading_of (drop j (transposed (padded inner rows)))
reading-padded j outer inner rows p l h =
    columns_between (column inner rows) (transposed (padded inner rows)) j (columns outer - j) (λ i. column-padded inner rows i p) (omega arith)

pub column_reading-padded : (outer inner : List ℕ) (rows : List (List ℕ)) → ArePositiveRows rows → length (transposed (padded inner rows)) ≡ columns outer
    → column_reading outer inner rows ≡ reading_of (transposed (padded inner rows))
column_reading-padded outer inner rows p l = reading-padded 0 outer inner rows p l (omega arith)

pub times_in-filled : (k : ℕ) (w : List ℕ) → 0 < k → times_in k (filled w) ≡ times_in k w
times_in-filled k [] h = refl
times_in-filled k (zero ∷ w) h = search (rules, ne_eqb, (times_in-filled k w h))
times_in-filled k (suc a ∷ w) h = ap (times_in k) (filled_letter (suc a) w (omega arith)) ∙ ap (λ x. cond (suc a == k) 1 0 + x) (times_in-filled k w h)

times_in-reading : (k : ℕ) (lines : List (List ℕ)) → 0 < k → times_in k (reading_of lines) ≡ times_in k (letters_of lines)
times_in-reading k [] h = refl
times_in-reading k (c ∷ lines) h = search (rules, times_in-append, times_in-filled, (times_in-reading k lines h))

pub content-reading : (n : ℕ) (lines : List (List ℕ)) → content n (reading_of lines) ≡ content n (letters_of lines)
content-reading n lines = content_same n (reading_of lines) (letters_of lines) (λ k h. times_in-reading k lines h)

-- ---- a tableau is good for `start` if and only if its padded columns pass `is_good_by_columns`

every_among : (f g : ℕ → Bool) (xs : List ℕ) → ((x : ℕ) → Among x xs → f x ≡ g x) → every f xs ≡ every g xs
every_among f g [] e = refl
every_among f g (x ∷ xs) e = ap₂ (λ (p q : Bool). p && q) (e x (inl refl)) (every_among f g xs (λ y m. e y (inr m)))

every_later : (f : ℕ → Bool) (a k : ℕ) → every f (after (suc a) k) ≡ every (λ i. f (suc i)) (after a k)
every_later f a zero = refl
every_later f a (suc k) = search (rules, (every_later f (a + 1) k))

good_drops : (n : ℕ) (start : List ℕ) (lines : List (List ℕ))
    → every (λ j. is_falling (sum_reached n start (drop j lines))) (0 ∷ after 0 (length lines)) ≡ is_good_by_columns n start lines
good_drops n start [] = and-true (is_falling (sum_reached n start []))
good_drops n start (c ∷ lines) = search (rules, every_later, (good_drops n start lines))

pub good-padded : (n : ℕ) (start outer inner : List ℕ) (rows : List (List ℕ)) → ArePositiveRows rows → length (transposed (padded inner rows)) ≡ columns outer
    → is_good n start outer inner rows ≡ is_good_by_columns n start (transposed (padded inner rows))
good-padded n start outer inner rows p l =
    let lines = transposed (padded inner rows) in
    every_among (λ j. is_falling (join start (content n (reading_right_of j outer inner rows)))) (λ j. is_falling (sum_reached n start (drop j lines))) (0 ∷ after 0 (columns outer))
    (λ j m. ap (λ w. is_falling (join start w)) (ap (content n) (reading-padded j outer inner rows p l (within j m)) ∙ content-reading n (drop j lines)))
    ∙ ap (λ k. every (λ j. is_falling (sum_reached n start (drop j lines))) (0 ∷ after 0 k)) (sym l)
    ∙ good_drops n start lines
  where
    within : (j : ℕ) → Among j (0 ∷ after 0 (columns outer)) → j ≤ columns outer
    within j (inl e) = omega arith
    within j (inr m) = let h = after_among 0 (columns outer) j m in let g = h.1 in omega arith
