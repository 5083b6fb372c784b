-- Sums over all tableaux left of a given column, with no condition on their contents: a sum over the ways to choose the columns one after another is
-- written as a sum over fillings given by their rows. The rows are padded with zeros at the cells of the inner shape. A *line* is a list of booleans
-- that marks the cells of a column or of a row, and a *pattern* is a list of lines.
use Rattle.std.proofs.Common.{◌≡◌, ℕ, ◌≤◌, Bool, true, cond, ◌&&◌, List, [], ◌∷◌, ◌++◌, map, length, nat_le, sym, ◌∙◌, ap, ap₂, subst, refl, arith, ℤ, pos}
use Rattle.std.proofs.lemmas.Bool.{and_parts, and_from, leb-true, le-leb}
use Rattle.sym_model.specs.Sum.{total, Among}
use Rattle.sym_model.specs.Partition.{Falls}
use Rattle.sym_model.specs.Polynomial.{join}
use Rattle.sym_model.specs.Schur.{content, letters_of}
use Rattle.sym_model.specs.GoodTableau.{every}
use Rattle.sym_model.proofs.Sums.{total_ext, total_among, total_exchange, total_select}
use Rattle.sym_model.proofs.Exponents.{join_assoc, join_comm, tests_agree, and_exchange}
use lib.IntN.{+ℤ_idr}
use Rattle.tableau_laws.specs.PaddedRows.{put_row, transposed, words_over, fillings_over}
use Rattle.tableau_laws.specs.Grid.{is_chain, pass_by_place, first_line, may_stand_above, are_tableau_columns}
use Rattle.tableau_laws.proofs.Transposing.{fillings_sum, transposed-sum}
use Rattle.tableau_laws.proofs.Grids.{pass-nothing, grid-transposed}
use Rattle.tableau_laws.proofs.PatternFillings.{filling_tells, filling_lengths}
use Rattle.tableau_laws.proofs.Contents.{content-append, content-transposed}
use Rattle.tableau_laws.proofs.ColumnSums.{total_under}
use Rattle.alternant_laws.proofs.SymmetricSums.{is_left_of, stands_left, left_tableaux}

-- the sum of f(ν + content(c), c) over the columns c whose cells are marked by `line`, with strictly increasing letters, none greater than the letter
-- of the column `right` in the same row
abbrev pub next_all : ℕ → List Bool → (List ℕ → List ℕ → ℤ) → List ℕ → List ℕ → ℤ
next_all n line f ν right =
    total (λ c. cond (is_chain may_stand_above c && pass_by_place nat_le c right) (f (join ν (content n c)) c) (pos 0)) (words_over n line)

abbrev pub over_all : ℕ → List (List Bool) → (List ℕ → List ℕ → ℤ) → List ℕ → List ℕ → ℤ
over_all n [] f ν right = f ν right
over_all n (line ∷ lines) f ν right = over_all n lines (next_all n line f) ν right

pub over_all-last : (n : ℕ) (lines : List (List Bool)) (line : List Bool) (f : List ℕ → List ℕ → ℤ) (ν right : List ℕ)
    → over_all n (lines ++ (line ∷ [])) f ν right ≡ next_all n line (over_all n lines f) ν right
over_all-last n [] line f ν right = refl
over_all-last n (first ∷ lines) line f ν right = over_all-last n lines line (next_all n first f) ν right

-- ---- the sums over the ways to choose columns, as sums over fillings that are given by columns

-- the leftmost column of a list of columns; `right` if the list is empty
abbrev pub leftmost : List ℕ → List (List ℕ) → List ℕ
leftmost right [] = right
leftmost right (c ∷ cs) = c

-- whether the columns, listed from left to right, are those of a tableau, and the rightmost one can be left of the column `right`
abbrev pub fit_left : List ℕ → List (List ℕ) → Bool
fit_left right [] = true
fit_left right (c ∷ cs) = is_chain may_stand_above c && (pass_by_place nat_le c (leftmost right cs) && fit_left right cs)

-- f(ν + content of the columns, leftmost column) if the columns are those of a tableau that fits left of `right`; otherwise 0
abbrev of_left : ℕ → List ℕ → (List ℕ → List ℕ → ℤ) → List ℕ → List (List ℕ) → ℤ
of_left n right f ν cs = cond (fit_left right cs) (f (join ν (content n (letters_of cs))) (leftmost right cs)) (pos 0)

regroup : (chain pass fit : Bool) → (chain && (pass && fit)) ≡ (fit && (chain && pass))
regroup chain pass fit = grind arith

add_left : (n : ℕ) (right : List ℕ) (f : List ℕ → List ℕ → ℤ) (ν c : List ℕ) (cs : List (List ℕ))
    → of_left n right f ν (c ∷ cs)
    ≡ cond (fit_left right cs && (is_chain may_stand_above c && pass_by_place nat_le c (leftmost right cs))) (f (join (join ν (content n (letters_of cs))) (content n c)) c) (pos 0)
add_left n right f ν c cs =
    ap₂ (λ (b : Bool) (s : List ℕ). cond b (f s c) (pos 0)) (regroup (is_chain may_stand_above c) (pass_by_place nat_le c (leftmost right cs)) (fit_left right cs))
    (ap (join ν) (content-append n c (letters_of cs) ∙ join_comm (content n c) (content n (letters_of cs))) ∙ sym (join_assoc ν (content n (letters_of cs)) (content n c)))

pub total_fit_left : (n : ℕ) (right : List ℕ) (lines : List (List Bool)) (f : List ℕ → List ℕ → ℤ) (ν : List ℕ)
    → total (of_left n right f ν) (fillings_over n lines) ≡ over_all n lines f (join ν (content n [])) right
total_fit_left n right [] f ν = +ℤ_idr (of_left n right f ν [])
total_fit_left n right (line ∷ lines) f ν =
    fillings_sum n line lines (of_left n right f ν)
    ∙ total_exchange (λ (c : List ℕ) (cs : List (List ℕ)). of_left n right f ν (c ∷ cs)) (words_over n line) (fillings_over n lines)
    ∙ total_ext (λ (cs : List (List ℕ)). total (λ (c : List ℕ). of_left n right f ν (c ∷ cs)) (words_over n line)) (of_left n right (next_all n line f) ν)
    (λ cs. total_ext (λ (c : List ℕ). of_left n right f ν (c ∷ cs)) (λ (c : List ℕ). cond (fit_left right cs && (is_chain may_stand_above c && pass_by_place nat_le c (leftmost right cs))) (f (join (join ν (content n (letters_of cs))) (content n c)) c) (pos 0)) (λ c. add_left n right f ν c cs) (words_over n line)
    ∙ total_under (fit_left right cs) (λ (c : List ℕ). is_chain may_stand_above c && pass_by_place nat_le c (leftmost right cs)) (λ (c : List ℕ). f (join (join ν (content n (letters_of cs))) (content n c)) c) (words_over n line))
    (fillings_over n lines)
    ∙ total_fit_left n right lines (next_all n line f) ν

pub fit_left-nothing : (cs : List (List ℕ)) → fit_left [] cs ≡ are_tableau_columns cs
fit_left-nothing [] = refl
fit_left-nothing (c ∷ cs) =
    ap₂ (λ (l : List ℕ) (b : Bool). is_chain may_stand_above c && (pass_by_place nat_le c l && b)) (same_first cs) (fit_left-nothing cs)
  where
    same_first : (ds : List (List ℕ)) → leftmost [] ds ≡ first_line ds
    same_first [] = refl
    same_first (d ∷ ds) = refl

-- ---- the sums over the ways to choose columns, as sums over padded rows

-- each line has at least m places
abbrev pub AreLong : {A : Type 0} → ℕ → List (List A) → Type 0
AreLong m [] = Unit {0}
AreLong m (l ∷ ls) = (m ≤ length l) × AreLong m ls

pass_trans : (c d right : List ℕ) → length right ≤ length d → pass_by_place nat_le c d ≡ true → pass_by_place nat_le d right ≡ true → pass_by_place nat_le c right ≡ true
pass_trans [] d right l p q = refl
pass_trans (a ∷ c) d [] l p q = refl
pass_trans (a ∷ c) [] (x ∷ right) l p q = absurd (omega arith)
pass_trans (a ∷ c) (b ∷ d) (x ∷ right) l p q =
    let r = and_parts (nat_le a b) (pass_by_place nat_le c d) p in
    let s = and_parts (nat_le b x) (pass_by_place nat_le d right) q in
    let t = leb-true a b r.0 in
    let u = leb-true b x s.0 in
    and_from (nat_le a x) (pass_by_place nat_le c right) (le-leb a x (omega arith)) (pass_trans c d right (omega arith) r.1 s.1)

-- whether no column of the list has, in any row, a letter greater than that of `right`
abbrev pub all_beside : List ℕ → List (List ℕ) → Bool
all_beside right [] = true
all_beside right (c ∷ cs) = pass_by_place nat_le c right && all_beside right cs

fits_tells : (right : List ℕ) (cs : List (List ℕ)) → AreLong (length right) cs → fit_left right cs ≡ true → (are_tableau_columns cs ≡ true) × (all_beside right cs ≡ true)
fits_tells right [] l e = (refl, refl)
fits_tells right (c ∷ cs) l e =
    let p = and_parts (is_chain may_stand_above c) (pass_by_place nat_le c (leftmost right cs) && fit_left right cs) e in
    let q = and_parts (pass_by_place nat_le c (leftmost right cs)) (fit_left right cs) p.1 in
    let r = fits_tells right cs l.1 q.1 in (
      and_from (is_chain may_stand_above c) (pass_by_place nat_le c (first_line cs) && are_tableau_columns cs) p.0
          (and_from (pass_by_place nat_le c (first_line cs)) (are_tableau_columns cs) (next cs q.0) r.0),
      and_from (pass_by_place nat_le c right) (all_beside right cs) (last cs l.1 q.0 r.1) r.1,
    )
  where
    next : (ds : List (List ℕ)) → pass_by_place nat_le c (leftmost right ds) ≡ true → pass_by_place nat_le c (first_line ds) ≡ true
    next [] h = pass-nothing nat_le c
    next (d ∷ ds) h = h

    last : (ds : List (List ℕ)) → AreLong (length right) ds → pass_by_place nat_le c (leftmost right ds) ≡ true → all_beside right ds ≡ true → pass_by_place nat_le c right ≡ true
    last [] k h b = h
    last (d ∷ ds) k h b = let s = and_parts (pass_by_place nat_le d right) (all_beside right ds) b in pass_trans c d right k.0 h s.0

fits_back : (right : List ℕ) (cs : List (List ℕ)) → are_tableau_columns cs ≡ true → all_beside right cs ≡ true → fit_left right cs ≡ true
fits_back right [] e b = refl
fits_back right (c ∷ cs) e b =
    let p = and_parts (is_chain may_stand_above c) (pass_by_place nat_le c (first_line cs) && are_tableau_columns cs) e in
    let q = and_parts (pass_by_place nat_le c (first_line cs)) (are_tableau_columns cs) p.1 in
    let r = and_parts (pass_by_place nat_le c right) (all_beside right cs) b in
    and_from (is_chain may_stand_above c) (pass_by_place nat_le c (leftmost right cs) && fit_left right cs) p.0
    (and_from (pass_by_place nat_le c (leftmost right cs)) (fit_left right cs) (next cs q.0 r.0) (fits_back right cs q.1 r.1))
  where
    next : (ds : List (List ℕ)) → pass_by_place nat_le c (first_line ds) ≡ true → pass_by_place nat_le c right ≡ true → pass_by_place nat_le c (leftmost right ds) ≡ true
    next [] h k = k
    next (d ∷ ds) h k = h

fit_left-beside : (right : List ℕ) (cs : List (List ℕ)) → AreLong (length right) cs → fit_left right cs ≡ (are_tableau_columns cs && all_beside right cs)
fit_left-beside right cs l =
    tests_agree (fit_left right cs) (are_tableau_columns cs && all_beside right cs)
    (λ e. let p = fits_tells right cs l e in and_from (are_tableau_columns cs) (all_beside right cs) p.0 p.1)
    (λ e. let p = and_parts (are_tableau_columns cs) (all_beside right cs) e in fits_back right cs p.0 p.1)

left_of_put : (right c : List ℕ) (rows : List (List ℕ)) → is_left_of right (put_row c rows) ≡ (pass_by_place nat_le c right && is_left_of right rows)
left_of_put right [] rows = refl
left_of_put [] (x ∷ c) [] = refl
left_of_put [] (x ∷ c) (w ∷ rows) = refl
left_of_put (y ∷ right) (x ∷ c) [] =
    ap (λ b. (nat_le x y && true) && b) (left_of_put right c []) ∙ and_exchange (nat_le x y) true (pass_by_place nat_le c right) true
left_of_put (y ∷ right) (x ∷ c) (w ∷ rows) =
    ap (λ b. (nat_le x y && every (λ a. nat_le a y) w) && b) (left_of_put right c rows)
    ∙ and_exchange (nat_le x y) (every (λ a. nat_le a y) w) (pass_by_place nat_le c right) (is_left_of right rows)

left_of_transposed : (right : List ℕ) (cs : List (List ℕ)) → is_left_of right (transposed cs) ≡ all_beside right cs
left_of_transposed right [] = refl
left_of_transposed right (c ∷ cs) = left_of_put right c (transposed cs) ∙ ap (λ b. pass_by_place nat_le c right && b) (left_of_transposed right cs)

long_too : (m : ℕ) (cs : List (List ℕ)) (lines : List (List Bool)) → map length cs ≡ map length lines → AreLong m lines → AreLong m cs
long_too m [] lines e l = tt
long_too m (c ∷ cs) [] e l = absurd (cc)
long_too m (c ∷ cs) (line ∷ lines) e l =
    let first : length c ≡ length line = cc in
    let later : map length cs ≡ map length lines = cc in
    let h = l.0 in
    (omega arith, long_too m cs lines later l.1)

pub over_all-rows : (n : ℕ) (lines : List (List Bool)) (right : List ℕ) (g : List ℕ → ℤ) (ν : List ℕ) → Falls (map length lines) → AreLong (length right) lines
    → over_all n lines (λ s c. g s) (join ν (content n [])) right ≡ total (λ (rows : List (List ℕ)). g (join ν (content n (letters_of rows)))) (left_tableaux n (transposed lines) right)
over_all-rows n lines right g ν f l =
    sym (total_fit_left n right lines (λ s c. g s) ν)
    ∙ total_among (of_left n right (λ s c. g s) ν) (λ (cs : List (List ℕ)). cond (stands_left right (transposed cs)) (g (join ν (content n (letters_of (transposed cs))))) (pos 0)) (fillings_over n lines) same_summand
    ∙ transposed-sum n lines (λ (rows : List (List ℕ)). cond (stands_left right rows) (g (join ν (content n (letters_of rows)))) (pos 0))
    ∙ sym (total_select (λ (rows : List (List ℕ)). g (join ν (content n (letters_of rows)))) (stands_left right) (fillings_over n (transposed lines)))
  where
    same_summand : (cs : List (List ℕ)) → Among cs (fillings_over n lines)
        → of_left n right (λ s c. g s) ν cs ≡ cond (stands_left right (transposed cs)) (g (join ν (content n (letters_of (transposed cs))))) (pos 0)
    same_summand cs m =
        let e = filling_lengths n lines cs (filling_tells n lines cs m) in
        ap₂ (λ (b : Bool) (κ : List ℕ). cond b (g (join ν κ)) (pos 0))
        (fit_left-beside right cs (long_too (length right) cs lines e l)
        ∙ ap₂ (λ (a b : Bool). a && b) (grid-transposed may_stand_above nat_le cs (subst Falls (sym e) f)) (sym (left_of_transposed right cs)))
        (sym (content-transposed n cs))

falls-put : {A : Type 0} (row : List A) (rows : List (List A)) → Falls (map length rows) → Falls (map length (put_row row rows))
falls-put [] rows f = f
falls-put (x ∷ []) [] f = tt
falls-put (x ∷ y ∷ row) [] f = (omega arith, falls-put (y ∷ row) [] tt)
falls-put (x ∷ []) (c ∷ []) f = tt
falls-put (x ∷ []) (c ∷ d ∷ rows) f = let h = f.0 in (omega arith, f.1)
falls-put (x ∷ y ∷ row) (c ∷ []) f = (omega arith, falls-put (y ∷ row) [] tt)
falls-put (x ∷ y ∷ row) (c ∷ d ∷ rows) f = let h = f.0 in (omega arith, falls-put (y ∷ row) (d ∷ rows) f.1)

pub falls-transposed : {A : Type 0} (lines : List (List A)) → Falls (map length (transposed lines))
falls-transposed [] = tt
falls-transposed (line ∷ lines) = falls-put line (transposed lines) (falls-transposed lines)

pub falls_last : {A : Type 0} (lines : List (List A)) (line : List A) → Falls (map length (lines ++ (line ∷ []))) → Falls (map length lines) × AreLong (length line) lines
falls_last [] line f = (tt, tt)
falls_last (first ∷ []) line f = (tt, (f.0, tt))
falls_last (first ∷ second ∷ lines) line f =
    let r = falls_last (second ∷ lines) line f.1 in
    let h = f.0 in
    let l = r.1.0 in
    ((h, r.0), (omega arith, r.1))
