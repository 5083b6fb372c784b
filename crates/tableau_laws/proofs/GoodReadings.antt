-- Sums over the good readings are sums over the good tableaux, given by their columns: each good reading is the column reading of exactly one good
-- tableau. A tableau is *good* for a partition `start` if start plus the content of the columns right of column j is a partition, for each j ≥ 0. A
-- *pattern* is a list of lines of booleans that are true at the cells of a shape.
use Rattle.std.proofs.Common.{◌≡◌, ℕ, zero, suc, ◌+◌, ◌-◌, ◌≤◌, Bool, true, false, cond, ◌&&◌, List, [], ◌∷◌, ◌++◌, map, length, replicate, drop, nat_le, nat_lt, slice_index, sym, ◌∙◌, ap, ap₂, subst, refl, inl, inr, arith, ℤ, pos, filter, flat_map, rules}
use Rattle.std.proofs.lemmas.Bool.{or_cases, or_left, or_right, lt-ltb, and_parts}
use Rattle.std.proofs.lemmas.List.{length-append, length-map, append_cancel_left}
use Rattle.sym_model.specs.Sum.{total, Among, Once}
use Rattle.sym_model.specs.Partition.{Falls, part, rows, columns, after, cells}
use Rattle.sym_model.specs.Polynomial.{same, join}
use Rattle.sym_model.specs.Schur.{words, row_lengths, fillings_of, semistandard, contains, tableaux, content, letters_of}
use Rattle.sym_model.specs.GoodTableau.{column_reading, is_among, is_good, good_tableaux, good_readings, is_falling, every, reading_right_of}
use Rattle.sym_model.proofs.Sums.{total_among, total_map, total_select, total_same_members, total_ext, Among-map, Among_from_map, Among-select, Among_from_select, Once-map, Once-select, total_cond_list}
use Rattle.sym_model.proofs.Exponents.{same_true, same_from}
use Rattle.tableau_laws.specs.PaddedRows.{put_row, transposed, fillings_over, line_of, pattern_of, padded}
use Rattle.tableau_laws.specs.Grid.{are_tableau_columns}
use Rattle.tableau_laws.specs.ColumnFold.{filled, reading_of, is_good_by_columns}
use Rattle.tableau_laws.proofs.Padding.{words_over-cells, padded-fillings}
use Rattle.tableau_laws.proofs.Grids.{length-put, length-transposed, falls_below}
use Rattle.tableau_laws.proofs.PaddedTableaux.{ArePositiveRows}
use Rattle.tableau_laws.proofs.RowSums.{tableau_tells, filling_positive, pattern_lengths, of_columns, total_columns}
use Rattle.tableau_laws.proofs.ColumnReadings.{column_reading-padded, content-reading, good-padded}
use Rattle.tableau_laws.proofs.Contents.{content-padded, content-transposed}
use Rattle.tableau_laws.proofs.PatternFillings.{Once-fronts, Fits, AllFit, MayStand, word_from, words_once, filling_tells, filling_lengths}
use Rattle.sym_model.proofs.AfterLists.{length_after}
use Rattle.sym_model.proofs.Integers.{nested_tests}

pub is_among-tells : (w : List ℕ) (ws : List (List ℕ)) → is_among w ws ≡ true → Among w ws
is_among-tells w [] e = absurd (cc)
is_among-tells w (v ∷ ws) e = elim (or_cases (same w v) (is_among w ws) e) [ inl s ↦ inl (same_true w v s) | inr r ↦ inr (is_among-tells w ws r) ]

pub is_among-from : (w : List ℕ) (ws : List (List ℕ)) → Among w ws → is_among w ws ≡ true
is_among-from w [] m = absurd m
is_among-from w (v ∷ ws) (inl e) = or_left (same w v) (is_among w ws) (same_from w v e)
is_among-from w (v ∷ ws) (inr m) = or_right (same w v) (is_among w ws) (is_among-from w ws m)

-- ---- the column reading determines the columns

cells_in : List Bool → ℕ
cells_in [] = 0
cells_in (true ∷ line) = suc (cells_in line)
cells_in (false ∷ line) = cells_in line

all_cells : List (List Bool) → ℕ
all_cells [] = 0
all_cells (line ∷ lines) = all_cells lines + cells_in line

filled_cell : (n a : ℕ) (w : List ℕ) → MayStand n true a → filled (a ∷ w) ≡ a ∷ filled w
filled_cell n a w h = ap (λ b. cond b (a ∷ filled w) (filled w)) (lt-ltb 0 a h.0)

filled_outside : (n a : ℕ) (w : List ℕ) → MayStand n false a → filled (a ∷ w) ≡ filled w
filled_outside n a w h = ap (λ b. cond (nat_lt 0 b) (b ∷ filled w) (filled w)) h

fits_filled : (n : ℕ) (line : List Bool) (w : List ℕ) → Fits n line w → Fits n (replicate (cells_in line) true) (filled w)
unfolding cells_in
fits_filled n [] [] f = tt
fits_filled n [] (a ∷ w) f = absurd f
fits_filled n (p ∷ line) [] f = absurd f
fits_filled n (true ∷ line) (a ∷ w) f = subst (λ v. Fits n (replicate (suc (cells_in line)) true) v) (sym (filled_cell n a w f.0)) (f.0, fits_filled n line w f.1)
fits_filled n (false ∷ line) (a ∷ w) f = subst (λ v. Fits n (replicate (cells_in line) true) v) (sym (filled_outside n a w f.0)) (fits_filled n line w f.1)

fits_append : (n a b : ℕ) (v w : List ℕ) → Fits n (replicate a true) v → Fits n (replicate b true) w → Fits n (replicate (a + b) true) (v ++ w)
fits_append n zero b [] w f g = let e : b ≡ 0 + b = omega arith in subst (λ k. Fits n (replicate k true) w) e g
fits_append n zero b (x ∷ v) w f g = absurd f
fits_append n (suc a) b [] w f g = absurd f
fits_append n (suc a) b (x ∷ v) w f g =
    let e : suc (a + b) ≡ suc a + b = omega arith in
    subst (λ k. Fits n (replicate k true) (x ∷ (v ++ w))) e (f.0, fits_append n a b v w f.1 g)

fits_reading : (n : ℕ) (lines : List (List Bool)) (cs : List (List ℕ)) → AllFit n lines cs → Fits n (replicate (all_cells lines) true) (reading_of cs)
unfolding all_cells
fits_reading n [] [] f = tt
fits_reading n [] (c ∷ cs) f = absurd f
fits_reading n (line ∷ lines) [] f = absurd f
fits_reading n (line ∷ lines) (c ∷ cs) f = fits_append n (all_cells lines) (cells_in line) (reading_of cs) (filled c) (fits_reading n lines cs f.1) (fits_filled n line c f.0)

fits_length_cells : (n k : ℕ) (w : List ℕ) → Fits n (replicate k true) w → length w ≡ k
fits_length_cells n zero [] f = refl
fits_length_cells n zero (a ∷ w) f = absurd f
fits_length_cells n (suc k) [] f = absurd f
fits_length_cells n (suc k) (a ∷ w) f = ap suc (fits_length_cells n k w f.1)

filled_determines : (n : ℕ) (line : List Bool) (v w : List ℕ) → Fits n line v → Fits n line w → filled v ≡ filled w → v ≡ w
filled_determines n [] [] [] f g e = refl
filled_determines n [] [] (b ∷ w) f g e = absurd g
filled_determines n [] (a ∷ v) w f g e = absurd f
filled_determines n (p ∷ line) [] w f g e = absurd f
filled_determines n (p ∷ line) (a ∷ v) [] f g e = absurd g
filled_determines n (true ∷ line) (a ∷ v) (b ∷ w) f g e =
    let d : a ∷ filled v ≡ b ∷ filled w = sym (filled_cell n a v f.0) ∙ e ∙ filled_cell n b w g.0 in
    let first : a ≡ b = cc in
    let rest : filled v ≡ filled w = cc in
    ap₂ ◌∷◌ first (filled_determines n line v w f.1 g.1 rest)
filled_determines n (false ∷ line) (a ∷ v) (b ∷ w) f g e =
    ap₂ ◌∷◌ (f.0 ∙ sym g.0) (filled_determines n line v w f.1 g.1 (sym (filled_outside n a v f.0) ∙ e ∙ filled_outside n b w g.0))

split_append : (u v w x : List ℕ) → length u ≡ length w → u ++ v ≡ w ++ x → (u ≡ w) × (v ≡ x)
split_append [] v [] x l e = (refl, e)
split_append [] v (b ∷ w) x l e = absurd (omega arith)
split_append (a ∷ u) v [] x l e = absurd (omega arith)
split_append (a ∷ u) v (b ∷ w) x l e =
    let first : a ≡ b = cc in
    let rest : u ++ v ≡ w ++ x = cc in
    let r = split_append u v w x (omega arith) rest in
    (ap₂ ◌∷◌ first r.0, r.1)

reading_determines : (n : ℕ) (lines : List (List Bool)) (cs ds : List (List ℕ)) → AllFit n lines cs → AllFit n lines ds → reading_of cs ≡ reading_of ds → cs ≡ ds
reading_determines n [] [] [] f g e = refl
reading_determines n [] [] (d ∷ ds) f g e = absurd g
reading_determines n [] (c ∷ cs) ds f g e = absurd f
reading_determines n (line ∷ lines) [] ds f g e = absurd f
reading_determines n (line ∷ lines) (c ∷ cs) [] f g e = absurd g
reading_determines n (line ∷ lines) (c ∷ cs) (d ∷ ds) f g e =
    let a = fits_length_cells n (all_cells lines) (reading_of cs) (fits_reading n lines cs f.1) in
    let b = fits_length_cells n (all_cells lines) (reading_of ds) (fits_reading n lines ds g.1) in
    let r = split_append (reading_of cs) (filled c) (reading_of ds) (filled d) (a ∙ sym b) e in
    ap₂ ◌∷◌ (filled_determines n line c d f.0 g.0 r.1) (reading_determines n lines cs ds f.1 g.1 r.0)

cells_first : (p : Bool) (line : List Bool) → cells_in (p ∷ line) ≡ cond p 1 0 + cells_in line
unfolding cells_in
cells_first true line = omega arith
cells_first false line = omega arith

cells_put : (line : List Bool) (lines : List (List Bool)) → all_cells (put_row line lines) ≡ cells_in line + all_cells lines
unfolding cells_in all_cells
cells_put [] lines = omega arith
cells_put (p ∷ line) [] = search (rules, cells_first, (cells_put line))
cells_put (p ∷ line) (c ∷ lines) = search (rules, cells_first, (cells_put line lines))

cells_transposed : (lines : List (List Bool)) → all_cells (transposed lines) ≡ all_cells lines
unfolding cells_in all_cells
cells_transposed [] = refl
cells_transposed (line ∷ lines) = let e = cells_transposed lines in let a = cells_put line (transposed lines) in omega arith

cells_of_line : (b k : ℕ) → cells_in (line_of b k) ≡ k
unfolding cells_in
cells_of_line zero zero = refl
cells_of_line zero (suc k) = ap suc (cells_of_line zero k)
cells_of_line (suc b) k = cells_of_line b k

later_part : (parts : List ℕ) (i : ℕ) → slice_index parts (suc i) ≡ slice_index (drop 1 parts) i
later_part [] zero = refl
later_part [] (suc i) = refl
later_part (b ∷ parts) i = refl

length_each : (f : ℕ → List (ℕ × ℕ)) (a : ℕ) (outer inner : List ℕ)
    → ((i : ℕ) → length (f (a + suc i)) ≡ slice_index outer i - slice_index inner i)
    → length (flat_map f (after a (length outer))) ≡ all_cells (pattern_of outer inner)
unfolding all_cells
length_each f a [] inner e = refl
length_each f a (x ∷ outer) inner e =
    let first : length (f (a + 1)) ≡ x - part inner 1 = e 0 in
    let r = length_each f (a + 1) outer (drop 1 inner) (λ i. later i) in
    let l = length-append (f (a + 1)) (flat_map f (after (a + 1) (length outer))) in
    let c = cells_of_line (part inner 1) (x - part inner 1) in
    omega arith
  where
    later : (i : ℕ) → length (f (a + 1 + suc i)) ≡ slice_index outer i - slice_index (drop 1 inner) i
    later i =
        let k : a + 1 + suc i ≡ a + suc (suc i) = omega arith in
        ap (λ j. length (f j)) k ∙ e (suc i) ∙ ap (λ j. slice_index outer i - j) (later_part inner i)

length_cells : (outer inner : List ℕ) → length (cells outer inner) ≡ all_cells (transposed (pattern_of outer inner))
length_cells outer inner = search (rules, length_each, length-map, length_after, slice_index, cells_transposed)

-- ---- the padded columns determine the filling

put_injective : (v w : List ℕ) (cs ds : List (List ℕ)) → length v ≡ length w → length cs ≡ length ds → length cs ≤ length v
    → put_row v cs ≡ put_row w ds → (v ≡ w) × (cs ≡ ds)
put_injective [] [] [] [] l m h e = (refl, refl)
put_injective [] [] [] (d ∷ ds) l m h e = absurd (omega arith)
put_injective [] [] (c ∷ cs) ds l m h e = absurd (omega arith)
put_injective [] (y ∷ w) cs ds l m h e = absurd (omega arith)
put_injective (x ∷ v) [] cs ds l m h e = absurd (omega arith)
put_injective (x ∷ v) (y ∷ w) [] [] l m h e =
    let first : x ≡ y = cc in
    let rest : put_row v [] ≡ put_row w [] = cc in
    let r = put_injective v w [] [] (omega arith) refl (omega arith) rest in
    (ap₂ ◌∷◌ first r.0, refl)
put_injective (x ∷ v) (y ∷ w) [] (d ∷ ds) l m h e = absurd (omega arith)
put_injective (x ∷ v) (y ∷ w) (c ∷ cs) [] l m h e = absurd (omega arith)
put_injective (x ∷ v) (y ∷ w) (c ∷ cs) (d ∷ ds) l m h e =
    let first : x ≡ y = cc in
    let second : c ≡ d = cc in
    let rest : put_row v cs ≡ put_row w ds = cc in
    let r = put_injective v w cs ds (omega arith) (omega arith) (omega arith) rest in
    (ap₂ ◌∷◌ first r.0, ap₂ ◌∷◌ second r.1)

pub length_columns : (row : List ℕ) (rows : List (List ℕ)) → Falls (map length (row ∷ rows)) → length (transposed (row ∷ rows)) ≡ length row
length_columns row rows f = length-put row (transposed rows) (length-transposed rows (falls_below row rows f) row f)

same_number : (R S : List (List ℕ)) → map length R ≡ map length S → Falls (map length R) → length (transposed R) ≡ length (transposed S)
same_number [] [] e f = refl
same_number [] (s ∷ S) e f = absurd (cc)
same_number (r ∷ R) [] e f = absurd (cc)
same_number (r ∷ R) (s ∷ S) e f = search (rules, length_columns)

transposed_injective : (R S : List (List ℕ)) → map length R ≡ map length S → Falls (map length R) → transposed R ≡ transposed S → R ≡ S
transposed_injective [] [] e f h = refl
transposed_injective [] (s ∷ S) e f h = absurd (cc)
transposed_injective (r ∷ R) [] e f h = absurd (cc)
transposed_injective (r ∷ R) (s ∷ S) e f h =
    let first : length r ≡ length s = cc in
    let later : map length R ≡ map length S = cc in
    let below = falls_below r R f in
    let p = put_injective r s (transposed R) (transposed S) first (same_number R S later below) (length-transposed R below r f) h in
    ap₂ ◌∷◌ p.0 (transposed_injective R S later below p.1)

padded_injective : (inner : List ℕ) (R S : List (List ℕ)) → padded inner R ≡ padded inner S → R ≡ S
padded_injective inner [] [] e = refl
padded_injective inner [] (s ∷ S) e = absurd (cc)
padded_injective inner (r ∷ R) [] e = absurd (cc)
padded_injective inner (r ∷ R) (s ∷ S) e =
    let first : replicate (part inner 1) 0 ++ r ≡ replicate (part inner 1) 0 ++ s = cc in
    let later : padded (drop 1 inner) R ≡ padded (drop 1 inner) S = cc in
    ap₂ ◌∷◌ (append_cancel_left (replicate (part inner 1) 0) r s first) (padded_injective (drop 1 inner) R S later)

put_fits : (n : ℕ) (line : List Bool) (lines : List (List Bool)) (w : List ℕ) (cs : List (List ℕ)) → Fits n line w → AllFit n lines cs → AllFit n (put_row line lines) (put_row w cs)
put_fits n [] lines [] cs f g = g
put_fits n [] lines (a ∷ w) cs f g = absurd f
put_fits n (p ∷ line) lines [] cs f g = absurd f
put_fits n (p ∷ line) [] (a ∷ w) [] f g = ((f.0, tt), put_fits n line [] w [] f.1 tt)
put_fits n (p ∷ line) [] (a ∷ w) (c ∷ cs) f g = absurd g
put_fits n (p ∷ line) (l ∷ lines) (a ∷ w) [] f g = absurd g
put_fits n (p ∷ line) (l ∷ lines) (a ∷ w) (c ∷ cs) f g = ((f.0, g.0), put_fits n line lines w cs f.1 g.1)

transposed_fits : (n : ℕ) (pattern : List (List Bool)) (R : List (List ℕ)) → AllFit n pattern R → AllFit n (transposed pattern) (transposed R)
transposed_fits n [] [] f = tt
transposed_fits n [] (r ∷ R) f = absurd f
transposed_fits n (line ∷ pattern) [] f = absurd f
transposed_fits n (line ∷ pattern) (r ∷ R) f = put_fits n line (transposed pattern) r (transposed R) f.0 (transposed_fits n pattern R f.1)

record IsFillingOf (n : ℕ) (outer inner : List ℕ) (T : List (List ℕ)) : Type 0 where
  positive : ArePositiveRows T
  fits : AllFit n (pattern_of outer inner) (padded inner T)
  lengths : map length (padded inner T) ≡ outer
  columns : length (transposed (padded inner T)) ≡ columns outer

number_of_columns : (outer : List ℕ) (R : List (List ℕ)) → Falls outer → map length R ≡ outer → length (transposed R) ≡ columns outer
number_of_columns [] [] f e = refl
number_of_columns [] (r ∷ R) f e = absurd (cc)
number_of_columns (a ∷ outer) [] f e = absurd (cc)
number_of_columns (a ∷ outer) (r ∷ R) f e = search (rules, length_columns)

filling_gives : (n : ℕ) (outer inner : List ℕ) (T : List (List ℕ)) → Falls outer → contains outer inner ≡ true → Among T (fillings_of n (row_lengths outer inner)) → IsFillingOf n outer inner T
filling_gives n outer inner T falls holds m =
    let a = subst (λ (Rs : List (List (List ℕ))). Among (padded inner T) Rs) (padded-fillings n outer inner) (Among-map (padded inner) T (fillings_of n (row_lengths outer inner)) m) in
    let f = filling_tells n (pattern_of outer inner) (padded inner T) a in
    let l = filling_lengths n (pattern_of outer inner) (padded inner T) f ∙ pattern_lengths outer inner holds in
    record { positive = filling_positive n (row_lengths outer inner) T m; fits = f; lengths = l; columns = number_of_columns outer (padded inner T) falls l }

-- ---- sums over the good tableaux as sums over their padded columns

-- h(cs) if cs are the padded columns of a semistandard tableau that is good for start; otherwise 0
abbrev pub of_good : ℕ → List ℕ → (List (List ℕ) → ℤ) → List (List ℕ) → ℤ
of_good n start h cs = cond (are_tableau_columns cs && is_good_by_columns n start cs) (h cs) (pos 0)

pub total_good_tableaux : (n : ℕ) (start outer inner : List ℕ) (f h : List (List ℕ) → ℤ) → Falls outer → Falls inner → contains outer inner ≡ true
    → ((T : List (List ℕ)) → Among T (fillings_of n (row_lengths outer inner)) → f T ≡ h (transposed (padded inner T)))
    → total f (good_tableaux n start outer inner)
    ≡ cond (nat_le (rows start) n) (total (of_good n start h) (fillings_over n (transposed (pattern_of outer inner)))) (pos 0)
total_good_tableaux n start outer inner f h falls inner_falls holds e =
    total_cond_list (nat_le (rows start) n) f (filter (is_good n start outer inner) (tableaux n outer inner))
    ∙ ap (λ (x : ℤ). cond (nat_le (rows start) n) x (pos 0)) (
    total_select f (is_good n start outer inner) (tableaux n outer inner)
    ∙ total_columns n outer inner (λ (T : List (List ℕ)). cond (is_good n start outer inner T) (f T) (pos 0)) (λ (cs : List (List ℕ)). cond (is_good_by_columns n start cs) (h cs) (pos 0)) falls inner_falls holds
    (λ T m. let g = filling_gives n outer inner T falls holds m in
    ap₂ (λ (b : Bool) (x : ℤ). cond b x (pos 0)) (good-padded n start outer inner T g.positive g.columns) (e T m))
    ∙ total_ext (of_columns (λ (cs : List (List ℕ)). cond (is_good_by_columns n start cs) (h cs) (pos 0))) (of_good n start h)
    (λ cs. nested_tests (are_tableau_columns cs) (is_good_by_columns n start cs) (h cs)) (fillings_over n (transposed (pattern_of outer inner))))

good_member : (n : ℕ) (start outer inner : List ℕ) (T : List (List ℕ)) → Among T (good_tableaux n start outer inner) → Among T (fillings_of n (row_lengths outer inner))
good_member n start outer inner T m = by (nat_le (rows start) n) m
  where
    listed : (b : Bool) → Among T (cond b (filter (semistandard inner) (fillings_of n (row_lengths outer inner))) []) → Among T (fillings_of n (row_lengths outer inner))
    listed true k = let r = Among_from_select (semistandard inner) T (fillings_of n (row_lengths outer inner)) k in r.0
    listed false k = absurd k

    by : (b : Bool) → Among T (cond b (filter (is_good n start outer inner) (tableaux n outer inner)) []) → Among T (fillings_of n (row_lengths outer inner))
    by true k = let r = Among_from_select (is_good n start outer inner) T (tableaux n outer inner) k in listed (contains outer inner) r.0
    by false k = absurd k

literal_once : (n : ℕ) (lengths : List ℕ) → Once (fillings_of n lengths)
literal_once n [] = ((λ m. m), tt)
literal_once n (k ∷ lengths) = Once-fronts (words n k) (fillings_of n lengths) (subst Once (words_over-cells n k) (words_once n (replicate k true))) (literal_once n lengths)

once_under : {A : Type 0} (b : Bool) (xs : List A) → Once xs → Once (cond b xs [])
once_under true xs o = o
once_under false xs o = tt

good_once : (n : ℕ) (start outer inner : List ℕ) → Once (good_tableaux n start outer inner)
good_once n start outer inner = search (rules, once_under, Once-select, literal_once)

reading_injective : (n : ℕ) (outer inner : List ℕ) (T U : List (List ℕ)) → Falls outer → IsFillingOf n outer inner T → IsFillingOf n outer inner U
    → column_reading outer inner T ≡ column_reading outer inner U → T ≡ U
reading_injective n outer inner T U falls t u e =
    search (rules, padded_injective, transposed_injective, reading_determines, transposed_fits, column_reading-padded)

reading_listed : (n : ℕ) (outer inner : List ℕ) (T : List (List ℕ)) → IsFillingOf n outer inner T → Among (column_reading outer inner T) (words n (length (cells outer inner)))
reading_listed n outer inner T t =
    let lines = transposed (pattern_of outer inner) in
    let f = fits_reading n lines (transposed (padded inner T)) (transposed_fits n (pattern_of outer inner) (padded inner T) t.fits) in
    let m = word_from n (replicate (all_cells lines) true) (reading_of (transposed (padded inner T))) f in
    let k = subst (λ (ws : List (List ℕ)). Among (reading_of (transposed (padded inner T))) ws) (words_over-cells n (all_cells lines)) m in
    subst (λ w. Among w (words n (length (cells outer inner)))) (sym (column_reading-padded outer inner T t.positive t.columns))
    (subst (λ i. Among (reading_of (transposed (padded inner T))) (words n i)) (sym (length_cells outer inner)) k)

readings_total : (n : ℕ) (start outer inner : List ℕ) (g : List ℕ → ℤ) → Falls outer → contains outer inner ≡ true
    → total g (good_readings n start outer inner) ≡ total (λ (T : List (List ℕ)). g (column_reading outer inner T)) (good_tableaux n start outer inner)
readings_total n start outer inner g falls holds =
    total_same_members g (good_readings n start outer inner) (map (column_reading outer inner) goods)
    (Once-select (λ w. is_among w (map (column_reading outer inner) goods)) (words n (length (cells outer inner)))
    (subst Once (words_over-cells n (length (cells outer inner))) (words_once n (replicate (length (cells outer inner)) true))))
    (Once-map (column_reading outer inner) goods (λ T U m k e. reading_injective n outer inner T U falls (gives T m) (gives U k) e) (good_once n start outer inner))
    (λ w m. let r = Among_from_select (λ v. is_among v (map (column_reading outer inner) goods)) w (words n (length (cells outer inner))) m in
    is_among-tells w (map (column_reading outer inner) goods) r.1)
    (λ w m. Among-select (λ v. is_among v (map (column_reading outer inner) goods)) w (words n (length (cells outer inner)))
    (let r = Among_from_map (column_reading outer inner) w goods m in
    subst (λ v. Among v (words n (length (cells outer inner)))) (sym r.2) (reading_listed n outer inner r.0 (gives r.0 r.1)))
    (is_among-from w (map (column_reading outer inner) goods) m))
    ∙ total_map g (column_reading outer inner) goods
  where
    goods : List (List (List ℕ))
    goods = good_tableaux n start outer inner

    gives : (T : List (List ℕ)) → Among T (good_tableaux n start outer inner) → IsFillingOf n outer inner T
    gives T m = filling_gives n outer inner T falls holds (good_member n start outer inner T m)

pub total_good_readings : (n : ℕ) (start outer inner : List ℕ) (g : List ℕ → ℤ) → Falls outer → Falls inner → contains outer inner ≡ true
    → total g (good_readings n start outer inner)
    ≡ cond (nat_le (rows start) n) (total (of_good n start (λ (cs : List (List ℕ)). g (reading_of cs))) (fillings_over n (transposed (pattern_of outer inner)))) (pos 0)
total_good_readings n start outer inner g falls inner_falls holds =
    readings_total n start outer inner g falls holds
    ∙ total_good_tableaux n start outer inner (λ (T : List (List ℕ)). g (column_reading outer inner T)) (λ (cs : List (List ℕ)). g (reading_of cs)) falls inner_falls holds
    (λ T m. let t = filling_gives n outer inner T falls holds m in ap g (column_reading-padded outer inner T t.positive t.columns))

-- the column reading of a filling T has the content of T

content_of_reading : (n : ℕ) (outer inner : List ℕ) (T : List (List ℕ)) → IsFillingOf n outer inner T → content n (column_reading outer inner T) ≡ content n (letters_of T)
content_of_reading n outer inner T t =
    ap (content n) (column_reading-padded outer inner T t.positive t.columns)
    ∙ content-reading n (transposed (padded inner T))
    ∙ content-transposed n (padded inner T)
    ∙ content-padded n inner T

pub good_falls : (n : ℕ) (start outer inner : List ℕ) (T : List (List ℕ)) → Falls outer → Among T (good_tableaux n start outer inner)
    → is_falling (join start (content n (letters_of T))) ≡ true
good_falls n start outer inner T falls m = by (nat_le (rows start) n) m
  where
    by : (b : Bool) → Among T (cond b (filter (is_good n start outer inner) (tableaux n outer inner)) []) → is_falling (join start (content n (letters_of T))) ≡ true
    by true a =
        let r = Among_from_select (is_good n start outer inner) T (tableaux n outer inner) a in
        let s = tableau_tells n outer inner T r.0 in
        let p = and_parts (is_falling (join start (content n (column_reading outer inner T)))) (every (λ j. is_falling (join start (content n (reading_right_of j outer inner T)))) (after 0 (columns outer))) r.1 in
        ap (λ κ. is_falling (join start κ)) (sym (content_of_reading n outer inner T (filling_gives n outer inner T falls s.1.1 s.0))) ∙ p.0
    by false a = absurd a

-- the sum of f(content of w) over the good readings w is the sum of f(content of T) over the good tableaux T
pub total_good_contents : (n : ℕ) (start outer inner : List ℕ) (f : List ℕ → ℤ) → Falls outer → contains outer inner ≡ true
    → total (λ w. f (content n w)) (good_readings n start outer inner) ≡ total (λ (T : List (List ℕ)). f (content n (letters_of T))) (good_tableaux n start outer inner)
total_good_contents n start outer inner f falls holds = search (rules, readings_total, total_among, content_of_reading, filling_gives, good_member)
