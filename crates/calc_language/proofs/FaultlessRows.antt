-- If the rows of a tableau have no error, its letters are positive, its rows weakly increasing and its columns strictly increasing.
use Rattle.std.proofs.Common.{◌≡◌, ℕ, zero, suc, ◌+◌, ◌-◌, ◌<◌, ◌≤◌, ◌==◌, nat_le, nat_lt, min, Bool, true, false, ◌&&◌, cond, List, [], ◌∷◌, ◌++◌, map, length, drop, get_or, drop-cons, refl, sym, ap, ◌∙◌, arith, None}
use Rattle.std.specs.Prelude.{slice_get}
use Rattle.std.proofs.lemmas.Bool.{le-leb, lt-ltb, leb-false, ltb-false, ltb-true, eqb-true, and_parts, or_parts}
use Rattle.std.proofs.Math.ListN.{drop_of_length-le}
use Rattle.sym_model.specs.Partition.{part, Falls}
use Rattle.sym_model.specs.Schur.{row_rises, columns_rise, semistandard, letters_of}
use Rattle.sym_model.specs.GoodTableau.{every}
use Rattle.sym_model.specs.Tableau.{are_letters}
use Rattle.sym_model.specs.ExpressionOffence.{shape, literal, range, is_wide}
use Rattle.sym_model.specs.CommandOffence.{Offence, offences_by, offences_after, entry_rule, row_offences, order_offences, when, is_outside, greatest_letter, falls, stays, left_of, entry_above}
use Rattle.sym_model.specs.WordForms.{numbers}
use Rattle.sym_model.proofs.Parts.{part-drop, falls_after}
use Rattle.word_laws.specs.JudgedRows.{is_disordered}
use Rattle.word_laws.specs.Words.{Words}
use Rattle.word_laws.specs.WrittenRows.{row_text, rows_at, left_at, left_behind}
use Rattle.calc_words.proofs.WrittenLists.{inside}
use Rattle.word_laws.proofs.NoOffences.{none_append, none_next}
use Rattle.sym_model.proofs.Tableaux.{columns_rise-nothing}
use Rattle.sym_model.proofs.Lists.{none_chosen}

every_append : (test : ℕ → Bool) (xs ys : List ℕ) → every test xs ≡ true → every test ys ≡ true → every test (xs ++ ys) ≡ true
every_append test [] ys h k = k
every_append test (x ∷ xs) ys h k =
    let p = and_parts (test x) (every test xs) h in
    ap (λ b. b && every test (xs ++ ys)) p.0 ∙ every_append test xs ys p.1 k

letters_after : (before : List ℕ) (k : ℕ) (ns : List ℕ) → offences_after entry_rule before k ns ≡ [] → are_letters ns ≡ true
letters_after before k [] h = refl
letters_after before k (a ∷ ns) h =
    let n = none_next entry_rule before k a ns h in
    let o = none_append (when (is_wide a) literal) (when (is_outside greatest_letter a) range) n.0 in
    let i = inside greatest_letter a (none_chosen (is_outside greatest_letter a) range o.1) in
    ap (λ b. b && are_letters ns) (le-leb 1 a i.0) ∙ letters_after (a ∷ before) (k + 1) ns n.1

pub faultless_letters : (k : ℕ) (ws : List Words) → row_offences entry_rule (rows_at k ws) ≡ [] → are_letters (letters_of (map numbers ws)) ≡ true
faultless_letters k [] h = refl
faultless_letters k (w ∷ ws) h =
    let n = none_append (offences_by entry_rule k (numbers w)) (row_offences entry_rule (rows_at (k + length (row_text w) + 1) ws)) h in
    every_append (λ a. nat_le 1 a) (numbers w) (letters_of (map numbers ws)) (letters_after [] k (numbers w) n.0)
    (faultless_letters (k + length (row_text w) + 1) ws n.1)

-- ---- rows without an error are weakly increasing, and their columns strictly increasing

not_less : (a b : ℕ) → nat_lt a b ≡ false → nat_le b a ≡ true
not_less a b h = le-leb b a (ltb-false a b h)

not_most : (a b : ℕ) → nat_le a b ≡ false → nat_lt b a ≡ true
not_most a b h = lt-ltb b a (leb-false a b h)

rises_after : (c : ℕ) (upper : List ℕ) (d b : ℕ) (before : List ℕ) (k : ℕ) (ns : List ℕ)
    → offences_after (λ before a. when (is_disordered c upper d before a) shape) (b ∷ before) k ns ≡ [] → row_rises (b ∷ ns) ≡ true
rises_after c upper d b before k [] h = refl
rises_after c upper d b before k (a ∷ ns) h =
    let n = none_next (λ before a. when (is_disordered c upper d before a) shape) (b ∷ before) k a ns h in
    let o = or_parts (nat_lt a b) (stays (entry_above upper c (d + length (b ∷ before))) a) (none_chosen (is_disordered c upper d (b ∷ before) a) shape n.0) in
    ap (λ x. x && row_rises (a ∷ ns)) (not_less a b o.0) ∙ rises_after c upper d a (b ∷ before) (k + 1) ns n.1

row_fine : (c : ℕ) (upper : List ℕ) (d k : ℕ) (ns : List ℕ) → offences_by (λ before a. when (is_disordered c upper d before a) shape) k ns ≡ [] → row_rises ns ≡ true
row_fine c upper d k [] h = refl
row_fine c upper d k (a ∷ ns) h =
    let n = none_next (λ before a. when (is_disordered c upper d before a) shape) [] k a ns h in rises_after c upper d a [] (k + 1) ns n.1

below_one : (upper : List ℕ) (j a : ℕ) (rest : Bool) → stays (slice_get upper j) a ≡ false
    → (j < length upper → rest ≡ true) → (b : ℕ) → b ≡ get_or upper j 0 → j < length upper → (nat_lt b a && rest) ≡ true
below_one [] j a rest h r b e l = absurd (omega (arith, l))
below_one (u ∷ upper) zero a rest h r b e l = ap (λ x. x && rest) (ap (λ y. nat_lt y a) e ∙ not_most a u h) ∙ r l
below_one (u ∷ upper) (suc j) a rest h r b e l = below_one upper j a rest h (λ m. r l) b e (omega (arith, l))

columns_on : (c : ℕ) (upper : List ℕ) (d : ℕ) (before : List ℕ) (k : ℕ) (ns : List ℕ) → d ≤ c → c - d ≤ length before
    → offences_after (λ before a. when (is_disordered c upper d before a) shape) before k ns ≡ []
    → columns_rise (drop (length before - (c - d)) upper) ns ≡ true
columns_on c upper d before k [] h l e = columns_rise-nothing (drop (length before - (c - d)) upper)
columns_on c upper d before k (a ∷ ns) h l e =
    let n = none_next (λ before a. when (is_disordered c upper d before a) shape) before k a ns e in
    let o = or_parts (falls (left_of before) a) (stays (entry_above upper c (d + length before)) a) (none_chosen (is_disordered c upper d before a) shape n.0) in
    let j = length before - (c - d) in
    let above : entry_above upper c (d + length before) ≡ slice_get upper j =
    ap (λ b. cond b (slice_get upper (d + length before - c)) None) (le-leb c (d + length before) (omega (arith, h, l)))
    ∙ (let z : d + length before - c ≡ j = omega (arith, h, l) in ap (slice_get upper) z) in
    let there : stays (slice_get upper j) a ≡ false = ap (λ x. stays x a) (sym above) ∙ o.1 in
    let next : suc j ≡ length (a ∷ before) - (c - d) = omega (arith, h, l) in
    by j there
    (ap (λ i. columns_rise (drop i upper) ns) next ∙ columns_on c upper d (a ∷ before) (k + 1) ns h (omega (arith, l)) n.1)
  where
    past : (j : ℕ) → length upper ≤ j → columns_rise (drop j upper) (a ∷ ns) ≡ true
    past j m = ap (λ xs. columns_rise xs (a ∷ ns)) (drop_of_length-le upper m)

    at : (j : ℕ) → stays (slice_get upper j) a ≡ false → columns_rise (drop (suc j) upper) ns ≡ true → j < length upper → columns_rise (drop j upper) (a ∷ ns) ≡ true
    at j s r m =
        ap (λ xs. columns_rise xs (a ∷ ns)) (drop-cons upper j 0 m)
        ∙ below_one upper j a (columns_rise (drop (suc j) upper) ns) s (λ q. r) (get_or upper j 0) refl m

    by : (j : ℕ) → stays (slice_get upper j) a ≡ false → columns_rise (drop (suc j) upper) ns ≡ true → columns_rise (drop j upper) (a ∷ ns) ≡ true
    by j s r = split (nat_lt j (length upper)) refl
      where
        split : (b : Bool) → nat_lt j (length upper) ≡ b → columns_rise (drop j upper) (a ∷ ns) ≡ true
        split true q = at j s r (ltb-true j (length upper) q)
        split false q = past j (ltb-false j (length upper) q)

columns_from : (c : ℕ) (upper : List ℕ) (d : ℕ) (before : List ℕ) (k : ℕ) (ns : List ℕ) → d ≤ c → length before ≤ c - d
    → offences_after (λ before a. when (is_disordered c upper d before a) shape) before k ns ≡ []
    → columns_rise upper (drop (c - d - length before) ns) ≡ true
columns_from c upper d before k [] h l e =
    ap (columns_rise upper) (drop_of_length-le [] (omega arith)) ∙ columns_rise-nothing upper
columns_from c upper d before k (a ∷ ns) h l e =
    by (nat_lt (length before) (c - d)) refl
    (λ m. columns_from c upper d (a ∷ before) (k + 1) ns h m (none_next (λ before a. when (is_disordered c upper d before a) shape) before k a ns e).1)
  where
    here : (i : ℕ) → length before ≡ c - d → i ≡ 0 → columns_rise upper (drop i (a ∷ ns)) ≡ true
    here i q z =
        ap (λ n. columns_rise upper (drop n (a ∷ ns))) z
        ∙ ap (λ n. columns_rise (drop n upper) (a ∷ ns)) (let y : 0 ≡ length before - (c - d) = omega (arith, q) in y)
        ∙ columns_on c upper d before k (a ∷ ns) h (omega (arith, q)) e

    later : (i j : ℕ) → i ≡ suc j → columns_rise upper (drop j ns) ≡ true → columns_rise upper (drop i (a ∷ ns)) ≡ true
    later i j q r = ap (λ n. columns_rise upper (drop n (a ∷ ns))) q ∙ r

    by : (b : Bool) → nat_lt (length before) (c - d) ≡ b
        → (length (a ∷ before) ≤ c - d → columns_rise upper (drop (c - d - length (a ∷ before)) ns) ≡ true)
        → columns_rise upper (drop (c - d - length before) (a ∷ ns)) ≡ true
    by true q again =
        let m = ltb-true (length before) (c - d) q in
        later (c - d - length before) (c - d - length (a ∷ before)) (omega (arith, m)) (again (omega (arith, m)))
    by false q again =
        let m = ltb-false (length before) (c - d) q in
        here (c - d - length before) (omega (arith, m, l)) (omega (arith, m, l))

falling_next : (xs : List ℕ) → Falls xs → part (drop 1 xs) 1 ≤ part xs 1
falling_next [] f = omega arith
falling_next (x ∷ []) f = omega arith
falling_next (x ∷ y ∷ xs) f = f.0

pub faultless_order : (c : ℕ) (upper inner : List ℕ) (k : ℕ) (ws : List Words) → Falls inner → order_offences c upper inner (rows_at k ws) ≡ []
    → semistandard inner (map numbers ws) ≡ true
faultless_order c upper inner k [] f h = refl
faultless_order c upper inner k (w ∷ []) f h =
    row_fine c upper (part inner 1) k (numbers w)
    (none_append (offences_by (λ before a. when (is_disordered c upper (part inner 1) before a) shape) k (numbers w)) [] h).0
faultless_order c upper inner k (w ∷ v ∷ ws) f h =
    let m = k + length (row_text w) + 1 in
    let d = part inner 1 in
    let e = part (drop 1 inner) 1 in
    let p = none_append (offences_by (λ before a. when (is_disordered c upper d before a) shape) k (numbers w)) (order_offences d (numbers w) (drop 1 inner) (rows_at m (v ∷ ws))) h in
    let q = none_append (offences_by (λ before a. when (is_disordered d (numbers w) e before a) shape) m (numbers v))
    (order_offences e (numbers v) (drop 1 (drop 1 inner)) (rows_at (m + length (row_text v) + 1) ws)) p.1 in
    all (row_rises (numbers w)) (columns_rise (numbers w) (drop (d - part inner 2) (numbers v))) (semistandard (drop 1 inner) (map numbers (v ∷ ws)))
    (row_fine c upper d k (numbers w) p.0)
    (ap (λ n. columns_rise (numbers w) (drop n (numbers v))) (ap (λ x. d - x) (sym (part-drop inner)) ∙ (let z : d - e ≡ d - e - 0 = omega arith in z))
    ∙ columns_from d (numbers w) e [] m (numbers v) (falling_next inner f) (omega arith) q.0)
    (faultless_order d (numbers w) (drop 1 inner) m (v ∷ ws) (falls_after inner f) p.1)
  where
    all : (a b c : Bool) → a ≡ true → b ≡ true → c ≡ true → (a && b && c) ≡ true
    all true true true h k l = refl
    all true true false h k l = cc
    all true false c h k l = cc
    all false b c h k l = cc

pub faultless_lengths : (k : ℕ) (lengths : List ℕ) (ws : List Words) → 0 < length lengths → 0 < length ws → left_at k lengths ws ≡ [] → map length ws ≡ lengths
faultless_lengths k [] ws l s h = absurd (omega (arith, l))
faultless_lengths k (n ∷ lengths) [] l s h = absurd (omega (arith, s))
faultless_lengths k (n ∷ lengths) (w ∷ ws) l s h =
    by (length w == n) refl h (λ q r t. faultless_lengths (k + length (row_text w) + 1) lengths ws q r t)
  where
    rest : (ls : List ℕ) (vs : List Words) (later : List Offence) → left_behind (k + length (row_text w)) ls vs later ≡ []
        → (0 < length ls → 0 < length vs → later ≡ [] → map length vs ≡ ls) → map length vs ≡ ls
    rest [] [] later e again = refl
    rest [] (v ∷ vs) later e again = cc
    rest (m ∷ ls) [] later e again = cc
    rest (m ∷ ls) (v ∷ vs) later e again = again (omega arith) (omega arith) e

    by : (b : Bool) → (length w == n) ≡ b
        → cond (length w == n) (left_behind (k + length (row_text w)) lengths ws (left_at (k + length (row_text w) + 1) lengths ws)) ((k + min n (length w), 0, shape) ∷ []) ≡ []
        → (0 < length lengths → 0 < length ws → left_at (k + length (row_text w) + 1) lengths ws ≡ [] → map length ws ≡ lengths)
        → map length (w ∷ ws) ≡ n ∷ lengths
    by true e f again =
        ap (λ m. m ∷ map length ws) (eqb-true (length w) n e)
        ∙ ap (λ ls. n ∷ ls)
        (rest lengths ws (left_at (k + length (row_text w) + 1) lengths ws)
        (ap (λ b. cond b (left_behind (k + length (row_text w)) lengths ws (left_at (k + length (row_text w) + 1) lengths ws)) ((k + min n (length w), 0, shape) ∷ [])) (sym e) ∙ f) again)
    by false e f again =
        absurd (none (ap (λ b. cond b (left_behind (k + length (row_text w)) lengths ws (left_at (k + length (row_text w) + 1) lengths ws)) ((k + min n (length w), 0, shape) ∷ [])) (sym e) ∙ f))
      where
        none : ◌≡◌ {A = List Offence} ((k + min n (length w), 0, shape) ∷ []) [] → ⊥
        none e = cc
