-- The first error of the words of `rect`: two partitions and a tableau.
use Rattle.std.proofs.Common.{◌≡◌, ℕ, zero, suc, ◌+◌, ◌-◌, ◌<◌, ◌⊎◌, inl, inr, List, [], ◌∷◌, ◌++◌, map, length, drop, refl, sym, ap, ◌∙◌, subst, arith, Some, None, Result, rules}
use Rattle.std.proofs.lemmas.List.{length-map, append-nil}
use Rattle.sym_model.specs.Sum.{Among}
use Rattle.sym_model.proofs.Sums.{Among_from_append}
use Rattle.sym_model.specs.Partition.{part, in_front, without_last_zeros}
use Rattle.sym_model.specs.PrintedBlock.{decimal_value}
use Rattle.sym_model.specs.Schur.{row_lengths}
use Rattle.sym_model.specs.Form.{EachOf}
use Rattle.sym_model.specs.Command.{rect}
use Rattle.sym_model.specs.CommandOffence.{Offence, PlacedRow, first_offence, offences_by, offences_after, part_offences, part_rule, inside_rule, judged_against, entry_rule, row_offences, order_offences, rows_in}
use Rattle.sym_model.specs.Grammar.{rect_entry, rect_offends, inner_offences}
use Rattle.sym_model.specs.WordForms.{numbers, partition, placed_rows, shape_offences}
use Rattle.sym_model.proofs.Parts.{get_or-without_last_zeros, part-in_front}
use Rattle.word_laws.specs.Words.{Words}
use Rattle.word_laws.proofs.FirstOffences.{first-among, first_none}
use Rattle.word_laws.specs.WrittenRows.{rows_text, written_rows, rows_at, left_at}
use Rattle.word_laws.specs.JudgedRows.{earlier, skewed}
use Rattle.word_laws.proofs.EarlierOffences.{first_of_both, tally_append, first_alike}
use Rattle.word_laws.proofs.JudgedRows.{skewed_first}
use Rattle.calc_base.specs.declared.words.WordsFault.{WordsFault}
use Rattle.calc_language.specs.AskedLengths.{asked_lengths}
use Rattle.calc_words.specs.NumberRuns.{IsNumber}
use Rattle.calc_words.specs.Reading.{IsJudged, IsRead}
use Rattle.calc_language.specs.SkewTotals.{offences_of_skew, all_skew_offences}
use Rattle.calc_words.specs.Commands.{StandsFor}
use Rattle.calc_words.specs.declared.command.Command.{Command as Read}
use Rattle.calc_language.specs.SkewWords.{AreSkewWords, skew_offences}
use Rattle.calc_words.proofs.Commands.{read_standing}
use Rattle.calc_words.proofs.FirstOffences.{within}
use Rattle.word_laws.proofs.NoOffences.{none_judged}
use Rattle.calc_language.proofs.PairJudging.{After, entries_after, earlier_word, some_judged, left_shape_of, after_append}
use Rattle.calc_language.proofs.WrittenTableaux.{rows_placed, rows_entered}
use Rattle.calc_language.proofs.CutTableaux.{rows_spelled}
use Rattle.std.proofs.lemmas.Simd.{map-map}

-- ---- the lengths of the rows of a skew shape, and the first error of rows that must have these lengths

pub asked_some : (outer inner : List ℕ) → 0 < length (asked_lengths outer inner)
asked_some [] inner = omega arith
asked_some (a ∷ outer) [] = omega arith
asked_some (a ∷ outer) (b ∷ inner) = omega arith

pub asked_shape : (k : ℕ) (outer inner : List ℕ) (words : Words) → shape_offences k (row_lengths outer inner) words ≡ shape_offences k (asked_lengths outer inner) words
asked_shape k [] inner words = refl
asked_shape k (a ∷ outer) inner words = refl

pub rows_first_offence : (k : ℕ) (outer inner : List ℕ) (rows : List Words) → 0 < length rows → EachOf (EachOf IsNumber) rows
    → first_offence (skew_offences k outer inner rows)
    ≡ earlier (first_offence (skewed 0 [] inner (rows_at k rows))) (first_offence (left_at k (asked_lengths outer inner) rows))
rows_first_offence k outer inner rows s e =
    let fills = row_offences entry_rule (rows_at k rows) in
    let orders = order_offences 0 [] inner (rows_at k rows) in
    let lefts = left_at k (asked_lengths outer inner) rows in
    ap (λ os. first_offence (fills ++ (os ++ orders))) (asked_shape k outer inner (rows_text rows) ∙ left_shape_of k (asked_lengths outer inner) rows (asked_some outer inner) s e)
    ∙ first_alike (fills ++ (lefts ++ orders)) ((fills ++ orders) ++ lefts)
    (λ f.
    let a = tally_append f fills (lefts ++ orders) in
    let b = tally_append f lefts orders in
    let c = tally_append f (fills ++ orders) lefts in
    let d = tally_append f fills orders in
    omega (arith, a, b, c, d))
    ∙ first_of_both (fills ++ orders) lefts
    ∙ ap (λ x. earlier x (first_offence lefts)) (skewed_first inner (rows_at k rows))

-- ---- zeros at the end of a written partition do not change the errors

other_parts : (a : ℕ) (xs : List ℕ) → drop 1 (in_front a xs) ≡ xs
other_parts zero [] = refl
other_parts zero (x ∷ xs) = refl
other_parts (suc a) xs = refl

order_same : (c : ℕ) (upper xs : List ℕ) (rows : List PlacedRow) → order_offences c upper (without_last_zeros xs) rows ≡ order_offences c upper xs rows
order_same c upper xs [] = refl
order_same c upper [] (row ∷ rows) = refl
order_same c upper (a ∷ xs) (row ∷ rows) = search (rules, part-in_front, other_parts, (order_same a row.1 xs rows))

part_same : (xs : List ℕ) (j : ℕ) → part (without_last_zeros xs) (j + 1) ≡ part xs (j + 1)
part_same xs j = get_or-without_last_zeros xs (j + 1 - 1)

inside_same : (xs before : List ℕ) (k : ℕ) (ns : List ℕ) → offences_after (inside_rule (without_last_zeros xs)) before k ns ≡ offences_after (inside_rule xs) before k ns
inside_same xs before k [] = refl
inside_same xs before k (a ∷ ns) = search (rules, part_same, (inside_same xs (a ∷ before) (k + 1) ns))

-- ---- the errors of the partitions come before those of the tableau

some_before : (found fills later : List Offence) (o : Offence) → first_offence found ≡ Some o → ((q : Offence) → Among q fills → o.0 < q.0)
    → first_offence (found ++ fills ++ judged_against found later) ≡ Some o
some_before found fills later o h a =
    ap (λ os. first_offence ((found ++ fills) ++ os)) (some_judged found later o h)
    ∙ ap first_offence (append-nil (found ++ fills))
    ∙ first_of_both found fills
    ∙ ap (λ x. earlier x (first_offence fills)) h
    ∙ earlier_word o (first_offence fills) (λ q e. a q (first-among fills q e))

after_judged : (k : ℕ) (found ys : List Offence) → After k ys → After k (judged_against found ys)
after_judged k [] ys a = a
after_judged k (o ∷ found) ys a = λ p m. absurd m

before_both : (k : ℕ) (xs ys : List Offence) (p : Offence) → (Among p xs → p.0 < k) → (Among p ys → p.0 < k) → Among p (xs ++ ys) → p.0 < k
before_both k xs ys p a b m = by (Among_from_append p xs ys m)
  where
    by : Among p xs ⊎ Among p ys → p.0 < k
    by (inl h) = a h
    by (inr h) = b h

-- the errors of the inner partition, which begins at word k, if the outer one has the parts `parts` and no error
abbrev pub inner_alone : ℕ → List ℕ → Words → List Offence
inner_alone k parts inner = part_offences k (numbers inner) ++ offences_by (inside_rule parts) k (numbers inner)

inner_is : (k : ℕ) (parts : List ℕ) (outer inner : Words) → parts ≡ partition outer → first_offence (part_offences 1 (numbers outer)) ≡ None
    → inner_alone k parts inner ≡ inner_offences k (part_offences 1 (numbers outer)) (numbers outer) (numbers inner)
inner_is k parts outer inner e h = search (rules, inside_same, none_judged)

pub outer_first : (outer inner : Words) (rows : List Words) (o : Offence) → first_offence (part_offences 1 (numbers outer)) ≡ Some o
    → first_offence (all_skew_offences outer inner rows) ≡ Some o
outer_first outer inner rows o h =
    let k = 3 + length outer + length inner in
    let outers = part_offences 1 (numbers outer) in
    let inners = inner_offences (2 + length outer) outers (numbers outer) (numbers inner) in
    let l = length-map outer decimal_value in
    let before = (within part_rule [] 1 (numbers outer) o (first-among outers o h)).1 in
    let after : After (2 + length outer) inners =
    after_append (2 + length outer) (part_offences (2 + length outer) (numbers inner)) (judged_against outers (offences_by (inside_rule (numbers outer)) (2 + length outer) (numbers inner)))
    (λ p m. (within part_rule [] (2 + length outer) (numbers inner) p m).0)
    (after_judged (2 + length outer) outers (offences_by (inside_rule (numbers outer)) (2 + length outer) (numbers inner))
    (λ p m. (within (inside_rule (numbers outer)) [] (2 + length outer) (numbers inner) p m).0)) in
    some_before (outers ++ inners) (row_offences entry_rule (rows_at k rows))
    (shape_offences k (row_lengths (partition outer) (partition inner)) (rows_text rows) ++ order_offences 0 [] (numbers inner) (rows_at k rows)) o
    (first_of_both outers inners ∙ ap (λ x. earlier x (first_offence inners)) h
    ∙ earlier_word o (first_offence inners) (λ q e. let z = after q (first-among inners q e) in omega (arith, z, before, l)))
    (λ q m. let z = entries_after k rows q m in omega (arith, z, before, l))

pub inner_first : (outer inner : Words) (rows : List Words) (parts : List ℕ) (o : Offence) → parts ≡ partition outer → first_offence (part_offences 1 (numbers outer)) ≡ None
    → first_offence (inner_alone (2 + length outer) parts inner) ≡ Some o → first_offence (all_skew_offences outer inner rows) ≡ Some o
inner_first outer inner rows parts o e n h =
    let k = 3 + length outer + length inner in
    let m = 2 + length outer in
    let outers = part_offences 1 (numbers outer) in
    let inners = inner_offences m outers (numbers outer) (numbers inner) in
    let l = length-map inner decimal_value in
    let before = before_both (m + length (numbers inner)) (part_offences m (numbers inner)) (offences_by (inside_rule parts) m (numbers inner)) o
    (λ a. (within part_rule [] m (numbers inner) o a).1) (λ a. (within (inside_rule parts) [] m (numbers inner) o a).1)
    (first-among (inner_alone m parts inner) o h) in
    some_before (outers ++ inners) (row_offences entry_rule (rows_at k rows))
    (shape_offences k (row_lengths (partition outer) (partition inner)) (rows_text rows) ++ order_offences 0 [] (numbers inner) (rows_at k rows)) o
    (first_of_both outers inners ∙ ap (λ x. earlier x (first_offence inners)) n ∙ ap first_offence (sym (inner_is m parts outer inner e n)) ∙ h)
    (λ q a. let z = entries_after k rows q a in omega (arith, z, before, l))

pub neither_first : (outer inner : Words) (rows : List Words) (parts : List ℕ) → parts ≡ partition outer → first_offence (part_offences 1 (numbers outer)) ≡ None
    → first_offence (inner_alone (2 + length outer) parts inner) ≡ None
    → first_offence (skew_offences (3 + length outer + length inner) (partition outer) (partition inner) rows) ≡ first_offence (all_skew_offences outer inner rows)
neither_first outer inner rows parts e n h = search (rules, first_of_both, inner_is, order_same, none_judged, first_none)

pub skew_read : (words outer inner : Words) (rows : List Words) (r : Result Read WordsFault) → AreSkewWords outer inner rows words
    → IsJudged (StandsFor (rect (partition outer) (partition inner) (rows_in (partition outer) (map numbers rows)))) (first_offence (all_skew_offences outer inner rows)) r
    → IsRead (rect_entry ∷ []) words r
skew_read words outer inner rows r t j =
    let o = t.has.written.1.0 in
    let i = t.has.written.1.1.1.0 in
    let x = t.has.written.1.1.1.1.1 in
    let k = 3 + length o + length i in
    let offends : rect_offends t.has.written.1 ≡ all_skew_offences o i (written_rows x) =
    ap (λ p. offences_of_skew o i k p (placed_rows k x)) (rows_spelled x)
    ∙ ap (λ p. offences_of_skew o i k (rows_text (written_rows x)) p) (rows_placed k x) in
    read_standing rect_entry words t.has (rect (partition o) (partition i) (rows_in (partition o) (map numbers (written_rows x))))
    (ap (λ p. rect (partition o) (partition i) (rows_in (partition o) p)) (sym (rows_entered x))) r
    (subst (λ os. IsJudged (StandsFor (rect (partition o) (partition i) (rows_in (partition o) (map numbers (written_rows x))))) (first_offence os) r) (sym offends)
    (subst (λ w. Judged o i w) t.rows_are (subst (λ w. Judged o w rows) t.inner_is (subst (λ w. Judged w inner rows) t.outer_is j))))
  where
    Judged : Words → Words → List Words → Type 0
    Judged outer inner rows =
        IsJudged (StandsFor (rect (partition outer) (partition inner) (rows_in (partition outer) (map numbers rows)))) (first_offence (all_skew_offences outer inner rows)) r

pub skew_read_rows : {A : Type 0} (f : A → Words) (words outer inner : Words) (xs : List A) (r : Result Read WordsFault) → AreSkewWords outer inner (map f xs) words
    → IsJudged (StandsFor (rect (partition outer) (partition inner) (rows_in (partition outer) (map (λ r. numbers (f r)) xs)))) (first_offence (all_skew_offences outer inner (map f xs))) r
    → IsRead (rect_entry ∷ []) words r
skew_read_rows f words outer inner xs r t j = search (rules, skew_read, map-map)
