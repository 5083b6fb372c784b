-- The first error of the rows of a tableau, read one row after another.
use Rattle.std.proofs.lemmas.Grind.{common_steps}
use Rattle.std.proofs.Common.{◌≡◌, ℕ, zero, suc, ◌+◌, ◌-◌, ◌^◌, ◌<◌, ◌≤◌, min, Bool, true, false, not, cond, List, [], ◌∷◌, ◌++◌, map, length, length-append, length-drop, take, drop, reverse, get_or, drop-cons, refl, sym, ap, ap₂, ◌∙◌, subst, arith, Option, Some, None, ◌⊎◌, inl, inr, rules}
use Rattle.std.proofs.lemmas.Bool.{eq-eqb}
use Rattle.std.proofs.lemmas.List.{length-map, drop-drop, take_more}
use Rattle.std.specs.Bool.{then_some}
use Rattle.std.specs.Prelude.{IfSome}
use Rattle.std.proofs.Math.ListN.{drop_of_length-le}
use Rattle.sym_model.specs.Sum.{Among}
use Rattle.sym_model.proofs.Sums.{Among_from_append}
use Rattle.sym_model.specs.Partition.{part}
use Rattle.sym_model.specs.ExpressionOffence.{shape}
use Rattle.sym_model.specs.PrintedBlock.{decimal_value}
use Rattle.sym_model.specs.CommandOffence.{Offence, Rule, first_offence, offences_by}
use Rattle.sym_model.specs.WordForms.{numbers}
use Rattle.word_laws.specs.Words.{Words}
use Rattle.word_laws.specs.WrittenRows.{row_text, further_text, rows_at, left_behind, left_at}
use Rattle.word_laws.specs.JudgedRows.{cell_rule}
use Rattle.calc_base.specs.declared.words.WordsFault.{WordsFault}
use Rattle.calc_words.specs.Reading.{IsFirst}
use Rattle.calc_language.specs.FoundOffences.{found_of, marked, is_no_entry, counted_on, last_row, judged}
use Rattle.calc_language.specs.declared.cells.Bounds.{Bounds}
use Rattle.calc_words.proofs.Commands.{judged_on}
use Rattle.calc_words.proofs.FirstOffences.{within, first-append, none-append}

pub rows_next : {A : Type 0} (f : A → Words) (xs : List A) (i : ℕ) (x : A) → i < length xs → x ≡ get_or xs i x
    → drop i (map f xs) ≡ f x ∷ drop (i + 1) (map f xs)
rows_next f [] i x h e = absurd (omega (arith, h))
rows_next f (y ∷ xs) zero x h e = ap (λ z. f z ∷ map f xs) (sym e)
rows_next f (y ∷ xs) (suc i) x h e =
    rows_next f xs i x (omega (arith, h)) e ∙ ap (λ n. f x ∷ drop n (map f (y ∷ xs))) (let z : suc (i + 1) ≡ suc i + 1 = omega arith in z)

row_there : {A : Type 0} (f : A → List ℕ) (xs : List A) (i : ℕ) (x : A) → i < length xs → x ≡ get_or xs i x → get_or (map f xs) i [] ≡ f x
row_there f [] i x h e = absurd (omega (arith, h))
row_there f (y ∷ xs) zero x h e = ap f (sym e)
row_there f (y ∷ xs) (suc i) x h e = row_there f xs i x (omega (arith, h)) e

pub no_rows : {A : Type 0} (f : A → Words) (xs : List A) (i : ℕ) → length xs ≤ i → drop i (map f xs) ≡ []
no_rows f xs i h = let k = length-map xs f in drop_of_length-le (map f xs) (omega (arith, h, k))

pub numbers_fit : (w : Words) → length (numbers w) ≤ length (row_text w)
numbers_fit [] = omega arith
numbers_fit (t ∷ w) = let e = length-map w decimal_value in omega (arith, e)

judged_from : (straight : Bool) (count most : Option ℕ) (c : ℕ) (upper inner : List ℕ) (flags : List Bool) (k : ℕ) (ws : List Words) (q : Offence)
    → Among q (judged straight count most c upper inner flags (rows_at k ws)) → k ≤ q.0
judged_from straight count most c upper inner flags k [] q m = absurd m
judged_from straight count most c upper inner flags k (w ∷ ws) q m =
    by (Among_from_append q (offences_by rule k ns) (later ws) m)
    (judged_from straight (counted_on count ns) (cond straight (Some (length ns)) None) (part inner 1) ns (drop 1 inner) (marked (reverse ns) flags) (k + length (row_text w) + 1) ws q)
  where
    ns : List ℕ
    ns = numbers w

    rule : Rule
    rule = cell_rule count most (is_no_entry c upper (part inner 1) flags)

    later : List Words → List Offence
    later ws = judged straight (counted_on count ns) (cond straight (Some (length ns)) None) (part inner 1) ns (drop 1 inner) (marked (reverse ns) flags) (rows_at (k + length (row_text w) + 1) ws)

    by : Among q (offences_by rule k ns) ⊎ Among q (later ws) → (Among q (later ws) → k + length (row_text w) + 1 ≤ q.0) → k ≤ q.0
    by (inl a) again = (within rule [] k ns q a).0
    by (inr a) again = let z = again a in omega (arith, z)

-- if a fault reports the first error of the numbers of the row w, then it reports the first error of w and the rows ws after it
pub row_fails : (straight : Bool) (count most : Option ℕ) (c : ℕ) (upper inner : List ℕ) (flags : List Bool) (k : ℕ) (w : Words) (ws : List Words) (fault : WordsFault)
    → IsFirst (first_offence (offences_by (cell_rule count most (is_no_entry c upper (part inner 1) flags)) k (numbers w))) fault
    → IsFirst (first_offence (judged straight count most c upper inner flags (rows_at k (w ∷ ws)))) fault
row_fails straight count most c upper inner flags k w ws fault e =
    let ns = numbers w in
    let rule = cell_rule count most (is_no_entry c upper (part inner 1) flags) in
    let m = k + length (row_text w) + 1 in
    let later = judged straight (counted_on count ns) (cond straight (Some (length ns)) None) (part inner 1) ns (drop 1 inner) (marked (reverse ns) flags) (rows_at m ws) in
    let fit = numbers_fit w in
    judged_on (first_offence (offences_by rule k ns)) (first_offence (offences_by rule k ns ++ later)) fault
    (λ o h. first-append (offences_by rule k ns) later o h
    (λ p q a b. let x = (within rule [] k ns p a).1 in
    let y = judged_from straight (counted_on count ns) (cond straight (Some (length ns)) None) (part inner 1) ns (drop 1 inner) (marked (reverse ns) flags) m ws q b in
    omega (arith, x, y, fit))) e

pub row_passes : (straight : Bool) (count most : Option ℕ) (c : ℕ) (upper inner : List ℕ) (flags : List Bool) (k : ℕ) (w : Words) (ws : List Words)
    → first_offence (offences_by (cell_rule count most (is_no_entry c upper (part inner 1) flags)) k (numbers w)) ≡ None
    → first_offence (judged straight count most c upper inner flags (rows_at k (w ∷ ws)))
    ≡ first_offence (judged straight (counted_on count (numbers w)) (cond straight (Some (length (numbers w))) None) (part inner 1) (numbers w) (drop 1 inner)
    (marked (reverse (numbers w)) flags) (rows_at (k + length (row_text w) + 1) ws))
row_passes straight count most c upper inner flags k w ws e = search (rules, none-append)

pub further_length : (w : Words) (ws : List Words) → length (further_text (w ∷ ws)) ≡ length (row_text w) + length (further_text ws) + 1
further_length w ws = let e = length-append (row_text w) (further_text ws) in omega (arith, e)

pub room_next : (place : ℕ) (ds ws : List Words) (w : Words) → ds ≡ w ∷ ws → place + length (further_text ds) < 2 ^ 64
    → place + length (row_text w) + 1 + length (further_text ws) < 2 ^ 64
room_next place ds ws w e h =
    let l = ap (λ xs. length (further_text xs)) e ∙ further_length w ws in omega (arith, h, l)

pub row_width : (w : Words) → length w ≤ length (row_text w)
row_width [] = omega arith
row_width (t ∷ w) = omega arith

pub part_there : (xs : List ℕ) (i : ℕ) → i < length xs → get_or xs i 0 ≡ part (drop i xs) 1
part_there xs i h = sym (ap (λ ys. part ys 1) (drop-cons xs i 0 h))

pub part_past : (xs : List ℕ) (i : ℕ) → length xs ≤ i → 0 ≡ part (drop i xs) 1
part_past xs i h = sym (ap (λ ys. part ys 1) (drop_of_length-le xs h))

-- ---- reading a tableau, one row after another (`RowsTo`)

last_appended : (rows : List (List ℕ)) (row : List ℕ) → last_row (rows ++ row ∷ []) ≡ row
last_appended [] row = refl
last_appended (r ∷ rows) row = grind (arith, common_steps)

few_next : (count : Option ℕ) (ns : List ℕ) (place next : ℕ) → IfSome count (λ n. n ≤ place) → place + length ns ≤ next
    → IfSome (counted_on count ns) (λ n. n ≤ next)
few_next None ns place next h l = h
few_next (Some n) ns place next h l = omega (arith, h, l)

pub few_fit : (count : Option ℕ) (ns : List ℕ) (place : ℕ) → IfSome count (λ n. n ≤ place) → place + length ns < 2 ^ 64
    → IfSome count (λ n. n + length ns < 2 ^ 64)
few_fit None ns place h l = h
few_fit (Some n) ns place h l = omega (arith, h, l)

-- the first i of the rows `rows` have been read into `read` and have no error. The next row begins at the word `place`, and the row above it begins
-- at column c; `taken` has a flag for each number, set if the number has occurred as an entry
pub record RowsTo {A : Type 0} (f : A → Words) (first : Option Offence) (inner : List ℕ) (rows : List A) (i : ℕ) (read : List (List ℕ)) (place : ℕ) (bounds : Bounds) (c : ℕ) (taken : List Bool) : Type 0 where
  pub first_is : first ≡ first_offence (judged bounds.is_straight bounds.counted bounds.most c (last_row read) (drop i inner) taken (rows_at place (drop i (map f rows))))
  pub read_is : read ≡ take i (map (λ r. numbers (f r)) rows)
  pub room : place + length (further_text (drop i (map f rows))) < 2 ^ 64
  pub few : IfSome bounds.counted (λ count. count ≤ place)

pub row_room : {A : Type 0} (f : A → Words) (first : Option Offence) (inner : List ℕ) (rows : List A) (i : ℕ) (read : List (List ℕ)) (place : ℕ) (bounds : Bounds) (c : ℕ) (taken : List Bool)
    (x : A) → RowsTo f first inner rows i read place bounds c taken → i < length rows → x ≡ get_or rows i x
    → (place + length (row_text (f x)) + 1 < 2 ^ 64) × (place + length (f x) < 2 ^ 64)
row_room f first inner rows i read place bounds c taken x r h e =
    let z = room_next place (drop i (map f rows)) (drop (i + 1) (map f rows)) (f x) (rows_next f rows i x h e) r.room in
    let y = row_width (f x) in
    (omega (arith, z), omega (arith, z, y))

-- the errors of the next row x, which begins at the word `place` and at column d, below the row `upper`, which begins at column c
abbrev pub next_offences : {A : Type 0} (f : A → Words) (upper : List ℕ) (place : ℕ) (bounds : Bounds) (c d : ℕ) (taken : List Bool) (x : A) → List Offence
next_offences f upper place bounds c d taken x =
    offences_by (cell_rule bounds.counted bounds.most (is_no_entry c upper d taken)) place (numbers (f x))

pub rows_fail : {A : Type 0} (f : A → Words) (first : Option Offence) (inner : List ℕ) (rows : List A) (i : ℕ) (read : List (List ℕ)) (place : ℕ) (bounds : Bounds) (c : ℕ) (taken : List Bool)
    (x : A) (upper : List ℕ) (d : ℕ) (fault : WordsFault) → RowsTo f first inner rows i read place bounds c taken → i < length rows → x ≡ get_or rows i x
    → upper ≡ last_row read → d ≡ part (drop i inner) 1 → IsFirst (first_offence (next_offences f upper place bounds c d taken x)) fault → IsFirst first fault
rows_fail f first inner rows i read place bounds c taken x upper d fault r h e u p j =
    subst (λ o. IsFirst o fault)
    (sym (r.first_is ∙ ap (λ ds. first_offence (judged bounds.is_straight bounds.counted bounds.most c (last_row read) (drop i inner) taken (rows_at place ds))) (rows_next f rows i x h e)))
    (row_fails bounds.is_straight bounds.counted bounds.most c (last_row read) (drop i inner) taken place (f x) (drop (i + 1) (map f rows)) fault
    (subst (λ n. IsFirst (first_offence (next_offences f (last_row read) place bounds c n taken x)) fault) p
    (subst (λ ns. IsFirst (first_offence (next_offences f ns place bounds c d taken x)) fault) u j)))

pub rows_go_on : {A : Type 0} (f : A → Words) (first : Option Offence) (inner : List ℕ) (rows : List A) (i : ℕ) (read : List (List ℕ)) (place : ℕ) (bounds : Bounds) (c : ℕ) (taken : List Bool)
    (x : A) (upper : List ℕ) (d : ℕ) (v : List ℕ) (next : ℕ) → RowsTo f first inner rows i read place bounds c taken → i < length rows → x ≡ get_or rows i x
    → upper ≡ last_row read → d ≡ part (drop i inner) 1 → v ≡ numbers (f x) → first_offence (next_offences f upper place bounds c d taken x) ≡ None → next ≡ place + (length (row_text (f x)) + 1)
    → RowsTo f first inner rows (i + 1) (read ++ v ∷ []) next
    (record { counted = counted_on bounds.counted v; most = cond bounds.is_straight (Some (length v)) None; is_straight = bounds.is_straight }) d (marked (reverse v) taken)
rows_go_on f first inner rows i read place bounds c taken x upper d v next r h e u p g o q =
    let w = f x in
    let rest = drop (i + 1) (map f rows) in
    let cut = rows_next f rows i x h e in
    let fit = numbers_fit w in
    let after = λ (xs : List ℕ) (m j : ℕ) (upper ys : List ℕ).
    first_offence (judged bounds.is_straight (counted_on bounds.counted xs) (cond bounds.is_straight (Some (length xs)) None) m upper ys (marked (reverse xs) taken) (rows_at j rest)) in
    record {
      first_is =
          r.first_is
          ∙ ap (λ ds. first_offence (judged bounds.is_straight bounds.counted bounds.most c (last_row read) (drop i inner) taken (rows_at place ds))) cut
          ∙ row_passes bounds.is_straight bounds.counted bounds.most c (last_row read) (drop i inner) taken place w rest
          (ap (λ n. first_offence (next_offences f (last_row read) place bounds c n taken x)) (sym p)
          ∙ ap (λ ns. first_offence (next_offences f ns place bounds c d taken x)) (sym u) ∙ o)
          ∙ ap (λ xs. after xs (part (drop i inner) 1) (place + length (row_text w) + 1) xs (drop 1 (drop i inner))) (sym g)
          ∙ ap (λ m. after v m (place + length (row_text w) + 1) v (drop 1 (drop i inner))) (sym p)
          ∙ (let z : place + length (row_text w) + 1 ≡ next = omega (arith, q) in ap (λ j. after v d j v (drop 1 (drop i inner))) z)
          ∙ ap (after v d next v) (drop-drop 1 i inner)
          ∙ ap (λ xs. after v d next xs (drop (i + 1) inner)) (sym (last_appended read v));
      read_is =
          ap₂ (λ xs y. xs ++ y ∷ []) r.read_is (g ∙ sym (row_there (λ y. numbers (f y)) rows i x h e))
          ∙ sym (take_more (map (λ y. numbers (f y)) rows) i [] (let l = length-map rows (λ y. numbers (f y)) in omega (arith, l, h)));
      room = let z = room_next place (drop i (map f rows)) rest w cut r.room in omega (arith, z, q);
      few = few_next bounds.counted v place next r.few (let z = ap (length {A = ℕ}) g in omega (arith, z, fit, q));
    }

pub rows_end : {A : Type 0} (f : A → Words) (first : Option Offence) (inner : List ℕ) (rows : List A) (i : ℕ) (read : List (List ℕ)) (place : ℕ) (bounds : Bounds) (c : ℕ) (taken : List Bool)
    → RowsTo f first inner rows i read place bounds c taken → length rows ≤ i → (read ≡ map (λ r. numbers (f r)) rows) × (first ≡ None)
rows_end f first inner rows i read place bounds c taken r h = grind (arith, common_steps)

-- ---- the first word at which the lengths of rows differ from given lengths

pub left_misses : (k n : ℕ) (ls : List ℕ) (w : Words) (ws : List Words) → (length w ≡ n → ⊥)
    → first_offence (left_at k (n ∷ ls) (w ∷ ws)) ≡ Some (k + min n (length w), 0, shape)
left_misses k n ls w ws h = search rules

left_fits : (k n : ℕ) (ls : List ℕ) (w : Words) (ws : List Words) → length w ≡ n
    → left_at k (n ∷ ls) (w ∷ ws) ≡ left_behind (k + length (row_text w)) ls ws (left_at (k + length (row_text w) + 1) ls ws)
left_fits k n ls w ws h =
    ap (λ b. cond b (left_behind (k + length (row_text w)) ls ws (left_at (k + length (row_text w) + 1) ls ws)) ((k + min n (length w), 0, shape) ∷ [])) (eq-eqb (length w) n h)

pub left_more : (k n : ℕ) (ls : List ℕ) (w : Words) (ws : List Words) → length w ≡ n → length ls ≡ 0 → 0 < length ws
    → first_offence (left_at k (n ∷ ls) (w ∷ ws)) ≡ Some (k + length (row_text w), 0, shape)
left_more k n [] w [] h e l = absurd (omega (arith, l))
left_more k n [] w (v ∷ ws) h e l = ap first_offence (left_fits k n [] w (v ∷ ws) h)
left_more k n (m ∷ ls) w ws h e l = absurd (omega (arith, e))

pub left_ends : (k n : ℕ) (ls : List ℕ) (w : Words) (ws : List Words) → length w ≡ n → length ls ≡ 0 → length ws ≡ 0
    → first_offence (left_at k (n ∷ ls) (w ∷ ws)) ≡ None
left_ends k n [] w [] h e l = ap first_offence (left_fits k n [] w [] h)
left_ends k n [] w (v ∷ ws) h e l = absurd (omega (arith, l))
left_ends k n (m ∷ ls) w ws h e l = absurd (omega (arith, e))

pub left_fewer : (k n : ℕ) (ls : List ℕ) (w : Words) (ws : List Words) → length w ≡ n → 0 < length ls → length ws ≡ 0
    → first_offence (left_at k (n ∷ ls) (w ∷ ws)) ≡ Some (k + length (row_text w), 0, shape)
left_fewer k n [] w ws h e l = absurd (omega (arith, e))
left_fewer k n (m ∷ ls) w [] h e l = ap first_offence (left_fits k n (m ∷ ls) w [] h)
left_fewer k n (m ∷ ls) w (v ∷ ws) h e l = absurd (omega (arith, l))

pub left_on : (k n : ℕ) (ls : List ℕ) (w : Words) (ws : List Words) → length w ≡ n → 0 < length ls → 0 < length ws
    → left_at k (n ∷ ls) (w ∷ ws) ≡ left_at (k + length (row_text w) + 1) ls ws
left_on k n [] w ws h e l = absurd (omega (arith, e))
left_on k n (m ∷ ls) w [] h e l = absurd (omega (arith, l))
left_on k n (m ∷ ls) w (v ∷ ws) h e l = left_fits k n (m ∷ ls) w (v ∷ ws) h

pub left_none : (k : ℕ) (ls : List ℕ) → first_offence (left_at k ls []) ≡ None
left_none k [] = refl
left_none k (n ∷ ls) = refl

pub left_last : (k n : ℕ) (ls : List ℕ) (w : Words) (ws : List Words) (b : Bool) → length w ≡ n → length ls ≡ 0 → (b ≡ true → length ws ≡ 0) → (b ≡ false → 0 < length ws)
    → first_offence (left_at k (n ∷ ls) (w ∷ ws)) ≡ found_of (then_some (not b) (k + length (row_text w)))
left_last k n ls w ws true h e t f = left_ends k n ls w ws h e (t refl)
left_last k n ls w ws false h e t f = left_more k n ls w ws h e (f refl)

pub rows_left : {A : Type 0} (f : A → Words) (xs : List A) (i : ℕ) → length (drop (i + 1) (map f xs)) ≡ length xs - (i + 1)
rows_left f xs i = length-drop (i + 1) (map f xs) ∙ ap (λ n. n - (i + 1)) (length-map xs f)
