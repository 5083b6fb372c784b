-- If the two tableaux of `unrsk` have no error, the first is straight, the second is standard, and they have the same shape.
use Rattle.std.proofs.Common.{◌≡◌, ℕ, zero, suc, ◌+◌, ◌<◌, ◌≤◌, ◌==◌, nat_le, nat_lt, Bool, true, false, ◌||◌, cond, List, [], ◌∷◌, ◌++◌, map, length, replicate, refl, sym, ap, ◌∙◌, subst, arith, Option, Some, None, rules}
use Rattle.std.proofs.lemmas.Bool.{ltb-false, eqb-true, eqb-false, or_parts}
use Rattle.std.proofs.lemmas.List.{length-map}
use Rattle.sym_model.specs.Partition.{part, size, after, Falls, ArePositive}
use Rattle.sym_model.specs.Schur.{letters_of, times_in, content}
use Rattle.sym_model.specs.Tableau.{IsStraightTableau}
use Rattle.sym_model.specs.ExpressionOffence.{shape, range, literal, is_wide}
use Rattle.sym_model.specs.CommandOffence.{first_offence, offences_by, offences_after, entry_rule, row_offences, count_offences, length_offences, empty_row_offences, order_offences, standard_offences, when, is_outside, greatest_letter, falls, stays, left_of, stands_in, entry_above, most_letters, rows_in}
use Rattle.sym_model.specs.Grammar.{insertion_offences, filled_offences}
use Rattle.sym_model.specs.WordForms.{numbers}
use Rattle.sym_model.proofs.Contents.{times_in-append}
use Rattle.sym_model.proofs.AfterLists.{length_after}
use Rattle.sym_model.proofs.Tableaux.{length-letters_of, row_lengths-none}
use Rattle.sym_model.proofs.Parts.{size-map_add, size-map_none}
use Rattle.sym_model.proofs.SortedParts.{Falls_tail}
use Rattle.word_laws.specs.JudgedRows.{is_no_record}
use Rattle.word_laws.specs.Words.{Words}
use Rattle.word_laws.specs.WrittenRows.{row_text, rows_at, left_at}
use Rattle.word_laws.proofs.FirstOffences.{first_none}
use Rattle.calc_language.specs.WrittenPairs.{IsWrittenPair}
use Rattle.calc_language.proofs.EmptyRows.{empties}
use Rattle.calc_language.proofs.FaultlessRows.{faultless_letters, faultless_order, faultless_lengths}
use Rattle.calc_language.proofs.PairJudging.{number_lengths}
use Rattle.calc_words.proofs.WrittenLists.{inside}
use Rattle.word_laws.proofs.NoOffences.{none_append, none_next}
use Rattle.word_laws.proofs.EarlierOffences.{one_if}
use Rattle.sym_model.proofs.Lists.{none_chosen}

-- ---- the lengths of the rows of the first tableau, and the number of its entries

row_short : (l : ℕ) (before : List ℕ) (k : ℕ) (ns : List ℕ) → 0 < length ns
    → offences_after (λ before a. when (nat_le l (length before)) shape) before k ns ≡ [] → length before + length ns ≤ l
row_short l before k [] s h = absurd (omega (arith, s))
row_short l before k (a ∷ []) s h = search rules
row_short l before k (a ∷ b ∷ ns) s h =
    let n = none_next (λ before a. when (nat_le l (length before)) shape) before k a (b ∷ ns) h in
    let r = row_short l (a ∷ before) (k + 1) (b ∷ ns) (omega arith) n.1 in
    omega (arith, r)

short : (l k : ℕ) (ns : List ℕ) → offences_by (λ before a. when (nat_le l (length before)) shape) k ns ≡ [] → length ns ≤ l
short l k [] h = omega arith
short l k (a ∷ ns) h = let r = row_short l [] k (a ∷ ns) (omega arith) h in omega (arith, r)

lengths_fall : (upper : List ℕ) (k : ℕ) (ws : List Words) → length_offences upper (rows_at k ws) ≡ [] → Falls (length upper ∷ map length (map numbers ws))
lengths_fall upper k [] h = tt
lengths_fall upper k (w ∷ ws) h =
    let n = none_append (offences_by (λ before a. when (nat_le (length upper) (length before)) shape) k (numbers w)) (length_offences (numbers w) (rows_at (k + length (row_text w) + 1) ws)) h in
    (short (length upper) k (numbers w) n.0, lengths_fall (numbers w) (k + length (row_text w) + 1) ws n.1)

all_some : (k : ℕ) (ws : List Words) → empties (rows_at k ws) ≡ [] → ArePositive (map length (map numbers ws))
all_some k [] h = tt
all_some k (w ∷ ws) h =
    let n = none_append (cond (length (numbers w) == 0) ((k, 0, shape) ∷ []) []) (empties (rows_at (k + length (row_text w) + 1) ws)) h in
    let z = eqb-false (length (numbers w)) 0 (none_chosen (length (numbers w) == 0) (k, 0, shape) n.0) in
    (omega (arith, z), all_some (k + length (row_text w) + 1) ws n.1)

straight : (k : ℕ) (ws : List Words) → Falls (map length (map numbers ws)) → ArePositive (map length (map numbers ws))
    → row_offences entry_rule (rows_at k ws) ≡ [] → order_offences 0 [] [] (rows_at k ws) ≡ [] → IsStraightTableau (map numbers ws)
straight k ws f p e d = search (rules, inside, row_lengths-none, faultless_letters, faultless_order)

row_few : (count : ℕ) (before : List ℕ) (k : ℕ) (ns : List ℕ) → count + length before ≤ 256
    → offences_after (λ before a. when (count + length before == most_letters) range) before k ns ≡ [] → count + length before + length ns ≤ 256
row_few count before k [] l h = omega (arith, l)
row_few count before k (a ∷ ns) l h = search (rules, none_next, eqb-false, none_chosen, (row_few count (a ∷ before) (k + 1) ns))

all_few : (count k : ℕ) (ws : List Words) → count ≤ 256 → count_offences count (rows_at k ws) ≡ [] → count + size (map length (map numbers ws)) ≤ 256
all_few count k [] l h = omega (arith, l)
all_few count k (w ∷ ws) l h =
    let n = none_append (offences_by (λ before a. when (count + length before == most_letters) range) k (numbers w))
    (count_offences (count + length (numbers w)) (rows_at (k + length (row_text w) + 1) ws)) h in
    let r = row_few count [] k (numbers w) (omega (arith, l)) n.0 in
    let m = all_few (count + length (numbers w)) (k + length (row_text w) + 1) ws (omega (arith, r)) n.1 in
    omega (arith, m)

stays_falls : (left : Option ℕ) (a : ℕ) → stays left a ≡ false → falls left a ≡ false
stays_falls None a h = refl
stays_falls (Some b) a h = search rules

no_disorder : (cells : ℕ) (earlier upper before : List ℕ) (k : ℕ) (ns : List ℕ)
    → offences_after (λ before a. when (nat_lt cells a || stays (left_of before) a || stays (entry_above upper 0 (length before)) a || stands_in a before || stands_in a earlier) shape) before k ns ≡ []
    → offences_after (λ before a. when (falls (left_of before) a || stays (entry_above upper 0 (part [] 1 + length before)) a) shape) before k ns ≡ []
no_disorder cells earlier upper before k [] h = refl
no_disorder cells earlier upper before k (a ∷ ns) h =
    let test = nat_lt cells a || stays (left_of before) a || stays (entry_above upper 0 (length before)) a || stands_in a before || stands_in a earlier in
    let n = none_next (λ before a. when (nat_lt cells a || stays (left_of before) a || stays (entry_above upper 0 (length before)) a || stands_in a before || stands_in a earlier) shape) before k a ns h in
    let p = or_parts (nat_lt cells a || stays (left_of before) a || stays (entry_above upper 0 (length before)) a || stands_in a before) (stands_in a earlier) (none_chosen test shape n.0) in
    let q = or_parts (nat_lt cells a || stays (left_of before) a || stays (entry_above upper 0 (length before)) a) (stands_in a before) p.0 in
    let r = or_parts (nat_lt cells a || stays (left_of before) a) (stays (entry_above upper 0 (length before)) a) q.0 in
    let s = or_parts (nat_lt cells a) (stays (left_of before) a) r.0 in
    let here : part [] 1 + length before ≡ length before = omega arith in
    let z : (falls (left_of before) a || stays (entry_above upper 0 (part [] 1 + length before)) a) ≡ false =
    ap (λ b. b || stays (entry_above upper 0 (part [] 1 + length before)) a) (stays_falls (left_of before) a s.1) ∙ ap (λ m. stays (entry_above upper 0 m) a) here ∙ r.1 in
    ap (λ b. map (λ kind. (k, 0, kind)) (when b shape) ++ offences_after (λ before a. when (falls (left_of before) a || stays (entry_above upper 0 (part [] 1 + length before)) a) shape) (a ∷ before) (k + 1) ns) z
    ∙ no_disorder cells earlier upper (a ∷ before) (k + 1) ns n.1

order_from : (cells : ℕ) (earlier upper : List ℕ) (k : ℕ) (ws : List Words) → standard_offences cells earlier upper (rows_at k ws) ≡ [] → order_offences 0 upper [] (rows_at k ws) ≡ []
order_from cells earlier upper k [] h = refl
order_from cells earlier upper k (w ∷ ws) h =
    let n = none_append (offences_by (λ before a. when (is_no_record cells earlier upper before a) shape) k (numbers w))
    (standard_offences cells (numbers w ++ earlier) (numbers w) (rows_at (k + length (row_text w) + 1) ws)) h in
    ap (λ os. os ++ order_offences 0 (numbers w) [] (rows_at (k + length (row_text w) + 1) ws)) (no_disorder cells earlier upper [] k (numbers w) n.0)
    ∙ order_from cells (numbers w ++ earlier) (numbers w) (k + length (row_text w) + 1) ws n.1

-- ---- each number from 1 to the number of cells occurs once in the second tableau

absent : (a : ℕ) (ns : List ℕ) → stands_in a ns ≡ false → times_in a ns ≡ 0
absent a [] h = refl
absent a (b ∷ ns) h =
    let o = or_parts (a == b) (stands_in a ns) h in
    let z = absent a ns o.1 in
    let y : (b == a) ≡ false = by (b == a) refl (eqb-false a b o.0) in
    let x : one_if (b == a) ≡ 0 = ap one_if y in
    omega (arith, x, z)
  where
    by : (t : Bool) → (b == a) ≡ t → (a ≡ b → ⊥) → t ≡ false
    by true e n = absurd (n (sym (eqb-true b a e)))
    by false e n = refl

abbrev Single : List ℕ → List ℕ → Type 0
Single before earlier = (x : ℕ) → times_in x before + times_in x earlier ≤ 1

row_single : (cells : ℕ) (earlier upper before : List ℕ) (k : ℕ) (ns : List ℕ) → Single before earlier
    → offences_after (λ before a. when (is_no_record cells earlier upper before a) shape) before k ns ≡ []
    → (x : ℕ) → times_in x ns + times_in x before + times_in x earlier ≤ 1
row_single cells earlier upper before k [] s h x = let z = s x in omega (arith, z)
row_single cells earlier upper before k (a ∷ ns) s h x =
    let n = none_next (λ before a. when (is_no_record cells earlier upper before a) shape) before k a ns h in
    let p = or_parts (nat_lt cells a || stays (left_of before) a || stays (entry_above upper 0 (length before)) a || stands_in a before) (stands_in a earlier) (none_chosen (is_no_record cells earlier upper before a) shape n.0) in
    let q = or_parts (nat_lt cells a || stays (left_of before) a || stays (entry_above upper 0 (length before)) a) (stands_in a before) p.0 in
    let next : Single (a ∷ before) earlier = λ y. one y (a == y) refl (absent a before q.1) (absent a earlier p.1) in
    let r = row_single cells earlier upper (a ∷ before) (k + 1) ns next n.1 x in
    omega (arith, r)
  where
    one : (y : ℕ) (b : Bool) → (a == y) ≡ b → times_in a before ≡ 0 → times_in a earlier ≡ 0 → cond (a == y) 1 0 + times_in y before + times_in y earlier ≤ 1
    one y true e u v =
        let z : one_if (a == y) ≡ 1 = ap one_if e in
        let w = eqb-true a y e in
        let i : times_in y before ≡ 0 = ap (λ t. times_in t before) (sym w) ∙ u in
        let j : times_in y earlier ≡ 0 = ap (λ t. times_in t earlier) (sym w) ∙ v in
        omega (arith, z, i, j)
    one y false e u v = let z : one_if (a == y) ≡ 0 = ap one_if e in let t = s y in omega (arith, z, t)

all_single : (cells : ℕ) (earlier upper : List ℕ) (k : ℕ) (ws : List Words) → ((x : ℕ) → times_in x earlier ≤ 1)
    → standard_offences cells earlier upper (rows_at k ws) ≡ [] → (x : ℕ) → times_in x (letters_of (map numbers ws)) + times_in x earlier ≤ 1
all_single cells earlier upper k [] s h x = let z = s x in omega (arith, z)
all_single cells earlier upper k (w ∷ ws) s h x =
    let n = none_append (offences_by (λ before a. when (is_no_record cells earlier upper before a) shape) k (numbers w))
    (standard_offences cells (numbers w ++ earlier) (numbers w) (rows_at (k + length (row_text w) + 1) ws)) h in
    let row : (y : ℕ) → times_in y (numbers w ++ earlier) ≤ 1 =
    λ y. (let r = row_single cells earlier upper [] k (numbers w) (λ v. let t = s v in omega (arith, t)) n.0 y in let e = times_in-append y (numbers w) earlier in omega (arith, r, e)) in
    let r = all_single cells (numbers w ++ earlier) (numbers w) (k + length (row_text w) + 1) ws row n.1 x in
    let e = times_in-append x (numbers w) earlier in
    let f = times_in-append x (numbers w) (letters_of (map numbers ws)) in
    omega (arith, r, e, f)

-- each number of the list is from 1 to n
abbrev AllIn : ℕ → List ℕ → Type 0
AllIn n [] = Unit {0}
AllIn n (a ∷ ns) = (1 ≤ a) × (a ≤ n) × AllIn n ns

in_append : (n : ℕ) (xs ys : List ℕ) → AllIn n xs → AllIn n ys → AllIn n (xs ++ ys)
in_append n [] ys a b = b
in_append n (x ∷ xs) ys a b = (a.0, a.1, in_append n xs ys a.2 b)

row_in : (cells : ℕ) (earlier upper before heard : List ℕ) (k m : ℕ) (ns : List ℕ) → offences_after entry_rule heard m ns ≡ []
    → offences_after (λ before a. when (is_no_record cells earlier upper before a) shape) before k ns ≡ [] → AllIn cells ns
row_in cells earlier upper before heard k m [] e h = tt
row_in cells earlier upper before heard k m (a ∷ ns) e h =
    let n = none_next (λ before a. when (is_no_record cells earlier upper before a) shape) before k a ns h in
    let p = or_parts (nat_lt cells a || stays (left_of before) a || stays (entry_above upper 0 (length before)) a || stands_in a before) (stands_in a earlier) (none_chosen (is_no_record cells earlier upper before a) shape n.0) in
    let q = or_parts (nat_lt cells a || stays (left_of before) a || stays (entry_above upper 0 (length before)) a) (stands_in a before) p.0 in
    let r = or_parts (nat_lt cells a || stays (left_of before) a) (stays (entry_above upper 0 (length before)) a) q.0 in
    let s = or_parts (nat_lt cells a) (stays (left_of before) a) r.0 in
    let f = none_next entry_rule heard m a ns e in
    let o = none_append (when (is_wide a) literal) (when (is_outside greatest_letter a) range) f.0 in
    let i = inside greatest_letter a (none_chosen (is_outside greatest_letter a) range o.1) in
    (i.0, ltb-false cells a s.0, row_in cells earlier upper (a ∷ before) (a ∷ heard) (k + 1) (m + 1) ns f.1 n.1)

all_in : (cells : ℕ) (earlier upper : List ℕ) (k : ℕ) (ws : List Words) → row_offences entry_rule (rows_at k ws) ≡ []
    → standard_offences cells earlier upper (rows_at k ws) ≡ [] → AllIn cells (letters_of (map numbers ws))
all_in cells earlier upper k [] e h = tt
all_in cells earlier upper k (w ∷ ws) e h =
    let m = k + length (row_text w) + 1 in
    let n = none_append (offences_by (λ before a. when (is_no_record cells earlier upper before a) shape) k (numbers w)) (standard_offences cells (numbers w ++ earlier) (numbers w) (rows_at m ws)) h in
    let f = none_append (offences_by entry_rule k (numbers w)) (row_offences entry_rule (rows_at m ws)) e in
    in_append cells (numbers w) (letters_of (map numbers ws)) (row_in cells earlier upper [] [] k k (numbers w) f.0 n.0)
    (all_in cells (numbers w ++ earlier) (numbers w) m ws f.1 n.1)

place_none : (a n b : ℕ) → b ≤ a → size (map (λ k. cond (b == k) 1 0) (after a n)) ≡ 0
place_none a zero b h = refl
place_none a (suc n) b h = search (rules, one_if, eqb-true, (place_none (a + 1) n b))

place_once : (a n b : ℕ) → a < b → b ≤ a + n → size (map (λ k. cond (b == k) 1 0) (after a n)) ≡ 1
place_once a zero b h l = absurd (omega (arith, h, l))
place_once a (suc n) b h l = by (b == a + 1) refl (λ m. place_once (a + 1) n b m (omega (arith, l)))
  where
    by : (t : Bool) → (b == a + 1) ≡ t → (a + 1 < b → size (map (λ k. cond (b == k) 1 0) (after (a + 1) n)) ≡ 1)
        → cond (b == a + 1) 1 0 + size (map (λ k. cond (b == k) 1 0) (after (a + 1) n)) ≡ 1
    by true e again =
        let w = eqb-true b (a + 1) e in
        let y : one_if (b == a + 1) ≡ 1 = ap one_if e in
        let z = place_none (a + 1) n b (omega (arith, w)) in
        omega (arith, y, z)
    by false e again =
        let w = eqb-false b (a + 1) e in
        let y : one_if (b == a + 1) ≡ 0 = ap one_if e in
        let z = again (omega (arith, w, h)) in
        omega (arith, y, z)

content_size : (n : ℕ) (ls : List ℕ) → AllIn n ls → size (map (λ k. times_in k ls) (after 0 n)) ≡ length ls
content_size n [] a = size-map_none (after 0 n)
content_size n (b ∷ ls) a =
    let e = size-map_add (λ k. cond (b == k) 1 0) (λ k. times_in k ls) (after 0 n) in
    let p = place_once 0 n b (omega (arith, a.0)) (omega (arith, a.1)) in
    let r = content_size n ls a.2 in
    omega (arith, e, p, r)

abbrev AtMostOnce : List ℕ → Type 0
AtMostOnce [] = Unit {0}
AtMostOnce (x ∷ xs) = (x ≤ 1) × AtMostOnce xs

once_size : (xs : List ℕ) → AtMostOnce xs → size xs ≤ length xs
once_size [] a = omega arith
once_size (x ∷ xs) a = let r = once_size xs a.1 in omega (arith, a.0, r)

all_ones : (xs : List ℕ) → AtMostOnce xs → size xs ≡ length xs → xs ≡ replicate (length xs) 1
all_ones [] a h = refl
all_ones (x ∷ xs) a h = search (rules, once_size, (all_ones xs a.1))

at_most : (f : ℕ → ℕ) → ((x : ℕ) → f x ≤ 1) → (xs : List ℕ) → AtMostOnce (map f xs)
at_most f h [] = tt
at_most f h (x ∷ xs) = (h x, at_most f h xs)

each_once : (n : ℕ) (ls : List ℕ) → length ls ≡ n → AllIn n ls → ((x : ℕ) → times_in x ls ≤ 1) → content n ls ≡ replicate n 1
each_once n ls l a o =
    let m = length-map (after 0 n) (λ k. times_in k ls) ∙ length_after 0 n in
    let s = content_size n ls a in
    all_ones (content n ls) (at_most (λ k. times_in k ls) o (after 0 n)) (omega (arith, m, s, l)) ∙ ap (λ c. replicate c 1) m

insertion_parts : (k : ℕ) (w : Words) (ws : List Words) → insertion_offences (rows_at k (w ∷ ws)) ≡ []
    → (row_offences entry_rule (rows_at k (w ∷ ws)) ≡ []) × (count_offences 0 (rows_at k (w ∷ ws)) ≡ [])
    × (length_offences (numbers w) (rows_at (k + length (row_text w) + 1) ws) ≡ []) × (empty_row_offences (rows_at k (w ∷ ws)) ≡ [])
    × (order_offences 0 [] [] (rows_at k (w ∷ ws)) ≡ [])
insertion_parts k w ws h = search (rules, none_append)

first_positive : (k : ℕ) (w : Words) (ws : List Words) → rows_in [] (map numbers (w ∷ ws)) ≡ map numbers (w ∷ ws) → empty_row_offences (rows_at k (w ∷ ws)) ≡ []
    → ArePositive (map length (map numbers (w ∷ ws)))
first_positive k [] [] e h = search rules
first_positive k (t ∷ w) [] e h = (omega arith, tt)
first_positive k w (v ∷ ws) e h = all_some k (w ∷ v ∷ ws) h

record Recorded (n : ℕ) (k : ℕ) (second : List Words) : Type 0 where
  entries : row_offences entry_rule (rows_at k second) ≡ []
  stands : standard_offences n [] [] (rows_at k second) ≡ []

both_fine : (k : ℕ) (w : Words) (ws second : List Words) (n : ℕ) → insertion_offences (rows_at 1 (w ∷ ws)) ≡ [] → Recorded n k second
    → map length (map numbers second) ≡ map length (map numbers (w ∷ ws)) → n ≡ size (map length (map numbers (w ∷ ws)))
    → rows_in [] (map numbers (w ∷ ws)) ≡ map numbers (w ∷ ws) → rows_in [] (map numbers second) ≡ map numbers second
    → IsWrittenPair (rows_in [] (map numbers (w ∷ ws))) (rows_in [] (map numbers second))
both_fine k w ws second n h r l m e f =
    let first = w ∷ ws in
    let p = insertion_parts 1 w ws h in
    let falls = Falls_tail (length (numbers w)) (map length (map numbers first)) (twice (length (numbers w)) (map length (map numbers ws)) (lengths_fall (numbers w) (1 + length (row_text w) + 1) ws p.2)) in
    let positive = first_positive 1 w ws e p.3 in
    let one = straight 1 first falls positive p.0 p.4 in
    let other = straight k second (subst Falls (sym l) falls) (subst ArePositive (sym l) positive) r.entries (order_from n [] [] k second r.stands) in
    let count : length (letters_of (map numbers second)) ≡ n = length-letters_of (map numbers second) ∙ ap size l ∙ sym m in
    let single : (x : ℕ) → times_in x (letters_of (map numbers second)) ≤ 1 = λ x. (let z = all_single n [] [] k second (λ y. omega arith) r.stands x in omega (arith, z)) in
    let within = subst (λ c. AllIn c (letters_of (map numbers second))) (sym count) (all_in n [] [] k second r.entries r.stands) in
    let few = all_few 0 1 first (omega arith) p.1 in
    let letters = length-letters_of (map numbers first) in
    subst (λ q. IsWrittenPair (rows_in [] (map numbers first)) q) (sym f)
    (subst (λ q. IsWrittenPair q (map numbers second)) (sym e)
    (record {
      straight = one;
      standard = record { tableau = other; once = each_once (length (letters_of (map numbers second))) (letters_of (map numbers second)) refl within single };
      one_shape = sym l;
      few = omega (arith, few, letters);
    }))
  where
    twice : (a : ℕ) (ls : List ℕ) → Falls (a ∷ ls) → Falls (a ∷ a ∷ ls)
    twice a ls g = (omega arith, g)

no_pair : IsWrittenPair [] []
no_pair = search rules

two_or_none : (n : ℕ) (ns : List ℕ) → ◌≡◌ {A = List ℕ} (n ∷ ns) (0 ∷ []) → (n ≡ 0) × (ns ≡ [])
two_or_none n ns h = (cc, cc)

paired : (k : ℕ) (first second : List Words) (n : ℕ) → 0 < length first → 0 < length second → insertion_offences (rows_at 1 first) ≡ [] → Recorded n k second
    → map length (map numbers second) ≡ map length (map numbers first) → n ≡ size (map length (map numbers first))
    → IsWrittenPair (rows_in [] (map numbers first)) (rows_in [] (map numbers second))
paired k [] second n s t h r l m = absurd (omega (arith, s))
paired k (w ∷ ws) [] n s t h r l m = absurd (omega (arith, t))
paired k ([] ∷ []) ([] ∷ []) n s t h r l m = no_pair
paired k ([] ∷ []) ((u ∷ v) ∷ vs) n s t h r l m = absurd (let z = (two_or_none (length (numbers (u ∷ v))) (map length (map numbers vs)) l).0 in omega (arith, z))
paired k ([] ∷ []) ([] ∷ v ∷ vs) n s t h r l m = absurd (let z = ap length (two_or_none 0 (map length (map numbers (v ∷ vs))) l).1 in omega (arith, z))
paired k ((u ∷ v) ∷ ws) ([] ∷ []) n s t h r l m = absurd (let z = (two_or_none (length (numbers (u ∷ v))) (map length (map numbers ws)) (sym l)).0 in omega (arith, z))
paired k ([] ∷ v ∷ ws) ([] ∷ []) n s t h r l m = absurd (let z = ap length (two_or_none 0 (map length (map numbers (v ∷ ws))) (sym l)).1 in omega (arith, z))
paired k ((u ∷ v) ∷ ws) ((a ∷ b) ∷ vs) n s t h r l m = both_fine k (u ∷ v) ws ((a ∷ b) ∷ vs) n h r l m refl refl
paired k ((u ∷ v) ∷ ws) ([] ∷ b ∷ vs) n s t h r l m = both_fine k (u ∷ v) ws ([] ∷ b ∷ vs) n h r l m refl refl
paired k ([] ∷ v ∷ ws) ((a ∷ b) ∷ vs) n s t h r l m = both_fine k [] (v ∷ ws) ((a ∷ b) ∷ vs) n h r l m refl refl
paired k ([] ∷ v ∷ ws) ([] ∷ b ∷ vs) n s t h r l m = both_fine k [] (v ∷ ws) ([] ∷ b ∷ vs) n h r l m refl refl

some_lengths : (ws : List Words) → 0 < length ws → 0 < length (map length ws)
some_lengths [] h = absurd (omega (arith, h))
some_lengths (w ∷ ws) h = omega arith

pub written_pair : (k : ℕ) (first second : List Words) (lengths : List ℕ) → 0 < length first → 0 < length second → lengths ≡ map length first
    → first_offence (insertion_offences (rows_at 1 first)) ≡ None
    → first_offence (filled_offences (rows_at k second) ++ (left_at k lengths second ++ standard_offences (size lengths) [] [] (rows_at k second))) ≡ None
    → IsWrittenPair (rows_in [] (map numbers first)) (rows_in [] (map numbers second))
written_pair k first second lengths s t q h g =
    let rows = rows_at k second in
    let a = none_append (filled_offences rows) (left_at k lengths second ++ standard_offences (size lengths) [] [] rows)
    (first_none (filled_offences rows ++ (left_at k lengths second ++ standard_offences (size lengths) [] [] rows)) g) in
    let b = none_append (left_at k lengths second) (standard_offences (size lengths) [] [] rows) a.1 in
    let c = none_append (row_offences entry_rule rows) (count_offences 0 rows) a.0 in
    let some : 0 < length lengths = subst (λ ls. 0 < length ls) (sym q) (some_lengths first s) in
    let same = faultless_lengths k lengths second some t b.0 in
    paired k first second (size lengths) s t (first_none (insertion_offences (rows_at 1 first)) h)
    (record { entries = c.0; stands = b.1 })
    (number_lengths second ∙ same ∙ q ∙ sym (number_lengths first)) (ap size (q ∙ sym (number_lengths first)))
