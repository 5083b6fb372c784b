-- The first error of the two tableaux of `unrsk`, an insertion tableau and a recording tableau.
use Rattle.std.proofs.Common.{◌≡◌, ℕ, ◌+◌, ◌<◌, ◌≤◌, ◌==◌, Bool, true, false, cond, List, [], ◌∷◌, ◌++◌, map, length, refl, sym, ap, ◌∙◌, subst, arith, Option, Some, None, Result, ◌⊎◌, inl, inr, rules}
use Rattle.std.proofs.lemmas.List.{length-map, append-nil}
use Rattle.sym_model.specs.Sum.{Among}
use Rattle.sym_model.proofs.Sums.{Among_from_append}
use Rattle.sym_model.specs.Partition.{size}
use Rattle.sym_model.specs.PrintedBlock.{decimal_value}
use Rattle.sym_model.specs.ExpressionOffence.{range, shape}
use Rattle.sym_model.specs.Form.{EachOf}
use Rattle.sym_model.specs.Command.{unrsk}
use Rattle.sym_model.specs.CommandOffence.{Offence, PlacedRow, first_offence, offences_by, judged_against, entry_rule, row_offences, count_offences, empty_row_offences, standard_offences, when, most_letters, rows_in}
use Rattle.sym_model.specs.Grammar.{insertion_offences, filled_offences, unrsk_entry, unrsk_offends}
use Rattle.sym_model.specs.WordForms.{tableau_words, numbers, placed_rows, tableau_rows, shape_offences}
use Rattle.sym_model.specs.Form.{words_of}
use Rattle.calc_language.proofs.RowJudging.{further_length, numbers_fit, row_width}
use Rattle.word_laws.specs.Words.{Words}
use Rattle.word_laws.proofs.FirstOffences.{first-among, first_none}
use Rattle.word_laws.specs.WrittenRows.{row_text, further_text, rows_text, written_rows, rows_at, left_at}
use Rattle.word_laws.specs.JudgedRows.{earlier, inserted, recorded, cell_rule, is_disordered}
use Rattle.word_laws.proofs.EarlierOffences.{first_of_both, tally_append, first_alike}
use Rattle.word_laws.proofs.JudgedRows.{inserted_first, recorded_first}
use Rattle.word_laws.proofs.LeftShapes.{left_shape}
use Rattle.calc_base.specs.declared.words.WordsFault.{WordsFault}
use Rattle.calc_language.specs.PairOffences.{offences_of_pair, pair_offences}
use Rattle.calc_words.specs.NumberRuns.{IsNumber}
use Rattle.calc_words.specs.Reading.{IsJudged, IsRead}
use Rattle.calc_language.specs.TableauWords.{AreTwoTableaux}
use Rattle.calc_words.specs.Commands.{StandsFor}
use Rattle.calc_words.specs.declared.command.Command.{Command as Read}
use Rattle.calc_words.proofs.Commands.{read_standing}
use Rattle.calc_language.proofs.EmptyRows.{empties}
use Rattle.calc_words.proofs.FirstOffences.{within, no_later_word}
use Rattle.word_laws.proofs.NoOffences.{none_judged}
use Rattle.calc_language.proofs.WrittenTableaux.{rows_placed, rows_entered}
use Rattle.calc_language.proofs.CutTableaux.{rows_spelled}
use Rattle.std.proofs.lemmas.Simd.{map-map}

-- ---- the words at which the rows of a tableau can have errors

abbrev pub After : ℕ → List Offence → Type 0
After k os = (p : Offence) → Among p os → k ≤ p.0

pub after_append : (k : ℕ) (xs ys : List Offence) → After k xs → After k ys → After k (xs ++ ys)
after_append k xs ys a b p m = by (Among_from_append p xs ys m)
  where
    by : Among p xs ⊎ Among p ys → k ≤ p.0
    by (inl h) = a p h
    by (inr h) = b p h

after_less : (k m : ℕ) (os : List Offence) → k ≤ m → After m os → After k os
after_less k m os h a p l = let z = a p l in omega (arith, z, h)

pub entries_after : (k : ℕ) (ws : List Words) → After k (row_offences entry_rule (rows_at k ws))
entries_after k [] = λ p m. absurd m
entries_after k (w ∷ ws) =
    after_append k (offences_by entry_rule k (numbers w)) (row_offences entry_rule (rows_at (k + length (row_text w) + 1) ws))
    (λ p m. (within entry_rule [] k (numbers w) p m).0)
    (after_less k (k + length (row_text w) + 1) (row_offences entry_rule (rows_at (k + length (row_text w) + 1) ws)) (omega arith) (entries_after (k + length (row_text w) + 1) ws))

counts_after : (count k : ℕ) (ws : List Words) → After k (count_offences count (rows_at k ws))
counts_after count k [] = λ p m. absurd m
counts_after count k (w ∷ ws) =
    after_append k (offences_by (λ before a. when (count + length before == most_letters) range) k (numbers w))
    (count_offences (count + length (numbers w)) (rows_at (k + length (row_text w) + 1) ws))
    (λ p m. (within (λ before a. when (count + length before == most_letters) range) [] k (numbers w) p m).0)
    (after_less k (k + length (row_text w) + 1) (count_offences (count + length (numbers w)) (rows_at (k + length (row_text w) + 1) ws)) (omega arith)
    (counts_after (count + length (numbers w)) (k + length (row_text w) + 1) ws))

filled_after : (k : ℕ) (ws : List Words) → After k (filled_offences (rows_at k ws))
filled_after k ws = after_append k (row_offences entry_rule (rows_at k ws)) (count_offences 0 (rows_at k ws)) (entries_after k ws) (counts_after 0 k ws)

abbrev BeforeIt : ℕ → List Offence → Type 0
BeforeIt k os = (p : Offence) → Among p os → p.0 < k

before_append : (k : ℕ) (xs ys : List Offence) → BeforeIt k xs → BeforeIt k ys → BeforeIt k (xs ++ ys)
before_append k xs ys a b p m = by (Among_from_append p xs ys m)
  where
    by : Among p xs ⊎ Among p ys → p.0 < k
    by (inl h) = a p h
    by (inr h) = b p h

before_more : (k m : ℕ) (os : List Offence) → k ≤ m → BeforeIt k os → BeforeIt m os
before_more k m os h a p l = let z = a p l in omega (arith, z, h)

inserted_before : (count : ℕ) (most : Option ℕ) (upper : List ℕ) (k : ℕ) (ws : List Words)
    → BeforeIt (k + length (further_text ws)) (inserted count most upper (rows_at k ws))
inserted_before count most upper k [] = λ p m. absurd m
inserted_before count most upper k (w ∷ ws) =
    let l = further_length w ws in
    let fit = numbers_fit w in
    before_append (k + length (further_text (w ∷ ws))) (offences_by (cell_rule (Some count) most (is_disordered 0 upper 0)) k (numbers w))
    (inserted (count + length (numbers w)) (Some (length (numbers w))) (numbers w) (rows_at (k + length (row_text w) + 1) ws))
    (λ p m. let z = (within (cell_rule (Some count) most (is_disordered 0 upper 0)) [] k (numbers w) p m).1 in omega (arith, z, l, fit))
    (before_more (k + length (row_text w) + 1 + length (further_text ws)) (k + length (further_text (w ∷ ws)))
    (inserted (count + length (numbers w)) (Some (length (numbers w))) (numbers w) (rows_at (k + length (row_text w) + 1) ws)) (omega (arith, l))
    (inserted_before (count + length (numbers w)) (Some (length (numbers w))) (numbers w) (k + length (row_text w) + 1) ws))

dot_before : (b : Bool) (k m : ℕ) → k < m → BeforeIt m (cond b ((k, 0, shape) ∷ []) [])
dot_before true k m h p (inl e) = let z : p.0 ≡ k = ap (λ (o : Offence). o.0) e in omega (arith, z, h)
dot_before true k m h p (inr l) = absurd l
dot_before false k m h p l = absurd l

empties_before : (k : ℕ) (ws : List Words) → BeforeIt (k + length (further_text ws)) (empties (rows_at k ws))
empties_before k [] = λ p m. absurd m
empties_before k (w ∷ ws) =
    let l = further_length w ws in
    before_append (k + length (further_text (w ∷ ws))) (cond (length (numbers w) == 0) ((k, 0, shape) ∷ []) []) (empties (rows_at (k + length (row_text w) + 1) ws))
    (dot_before (length (numbers w) == 0) k (k + length (further_text (w ∷ ws))) (omega (arith, l)))
    (before_more (k + length (row_text w) + 1 + length (further_text ws)) (k + length (further_text (w ∷ ws))) (empties (rows_at (k + length (row_text w) + 1) ws))
    (omega (arith, l)) (empties_before (k + length (row_text w) + 1) ws))

empty_rows_before : (k : ℕ) (ws : List Words) → BeforeIt (k + length (further_text ws)) (empty_row_offences (rows_at k ws))
empty_rows_before k [] = λ p m. absurd m
empty_rows_before k (w ∷ []) = λ p m. absurd m
empty_rows_before k (w ∷ v ∷ ws) = empties_before k (w ∷ v ∷ ws)

first_before : (k : ℕ) (ws : List Words) (o : Offence) → first_offence (insertion_offences (rows_at k ws)) ≡ Some o → o.0 < k + length (further_text ws)
first_before k ws o h =
    before_append (k + length (further_text ws)) (inserted 0 None [] (rows_at k ws)) (empty_row_offences (rows_at k ws))
    (inserted_before 0 None [] k ws) (empty_rows_before k ws) o
    (first-among (inserted 0 None [] (rows_at k ws) ++ empty_row_offences (rows_at k ws)) o (sym (inserted_first (rows_at k ws)) ∙ h))

pub earlier_word : (o : Offence) (rest : Option Offence) → ((q : Offence) → rest ≡ Some q → o.0 < q.0) → earlier (Some o) rest ≡ Some o
earlier_word o None h = refl
earlier_word o (Some q) h = ap (λ b. cond b (Some o) (Some q)) (no_later_word o q (h q refl))

pub some_judged : (xs ys : List Offence) (o : Offence) → first_offence xs ≡ Some o → judged_against xs ys ≡ []
some_judged [] ys o h = cc
some_judged (x ∷ xs) ys o h = refl

pub first_of_pair : (first second : List Words) (o : Offence) → 0 < length first → first_offence (insertion_offences (rows_at 1 first)) ≡ Some o
    → first_offence (pair_offences first second) ≡ Some o
first_of_pair [] second o s h = absurd (omega (arith, s))
first_of_pair (w ∷ ws) second o s h =
    let first = w ∷ ws in
    let k = 2 + length (rows_text first) in
    let inserts = insertion_offences (rows_at 1 first) in
    let fills = filled_offences (rows_at k second) in
    let lengths = map length (rows_in [] (map numbers first)) in
    let before = first_before 1 first o h in
    ap (λ os. first_offence ((inserts ++ fills) ++ os))
    (some_judged inserts (shape_offences k lengths (rows_text second) ++ standard_offences (size lengths) [] [] (rows_at k second)) o h)
    ∙ ap first_offence (append-nil (inserts ++ fills))
    ∙ first_of_both inserts fills
    ∙ ap (λ x. earlier x (first_offence fills)) h
    ∙ earlier_word o (first_offence fills) (λ q e. let z = filled_after k second q (first-among fills q e) in omega (arith, before, z))

shape_same : (k : ℕ) (first : List Words) (words : Words) → 0 < length first
    → shape_offences k (map length (rows_in [] (map numbers first))) words ≡ shape_offences k (map length (map numbers first)) words
shape_same k [] words h = absurd (omega (arith, h))
shape_same k ([] ∷ []) words h = refl
shape_same k ([] ∷ v ∷ ws) words h = refl
shape_same k ((t ∷ w) ∷ ws) words h = refl

size_same : (first : List Words) → 0 < length first → size (map length (rows_in [] (map numbers first))) ≡ size (map length (map numbers first))
size_same [] h = absurd (omega (arith, h))
size_same ([] ∷ []) h = refl
size_same ([] ∷ v ∷ ws) h = refl
size_same ((t ∷ w) ∷ ws) h = refl

pub number_lengths : (first : List Words) → map length (map numbers first) ≡ map length first
number_lengths [] = refl
number_lengths (w ∷ ws) = ap (λ n. n ∷ map length (map numbers ws)) (length-map w decimal_value) ∙ ap (λ ns. length w ∷ ns) (number_lengths ws)

pub left_shape_of : (k : ℕ) (lengths : List ℕ) (second : List Words) → 0 < length lengths → 0 < length second → EachOf (EachOf IsNumber) second
    → shape_offences k lengths (rows_text second) ≡ left_at k lengths second
left_shape_of k [] second l s e = absurd (omega (arith, l))
left_shape_of k (n ∷ lengths) [] l s e = absurd (omega (arith, s))
left_shape_of k (n ∷ lengths) (row ∷ rows) l s e = left_shape k n lengths row rows e

pub second_of_pair : (first second : List Words) (k : ℕ) (lengths : List ℕ) → 0 < length first → 0 < length second → EachOf (EachOf IsNumber) second
    → k ≡ 2 + length (rows_text first) → lengths ≡ map length first → first_offence (insertion_offences (rows_at 1 first)) ≡ None
    → first_offence (filled_offences (rows_at k second) ++ (left_at k lengths second ++ standard_offences (size lengths) [] [] (rows_at k second)))
    ≡ first_offence (pair_offences first second)
second_of_pair first second k lengths s t e p q h =
    search (rules, number_lengths, shape_same, left_shape_of, length-map, size_same, none_judged, first_none)

-- let `rows` be the rows of a recording tableau, and `lefts` any list of errors. The first of the errors of single numbers, the errors in `lefts`
-- and the errors of standardness is the earlier of two errors: the first one found row by row (`recorded`), and the first one in `lefts`
pub recording_first : (cells : ℕ) (rows : List PlacedRow) (lefts : List Offence)
    → first_offence (filled_offences rows ++ (lefts ++ standard_offences cells [] [] rows)) ≡ earlier (first_offence (recorded cells 0 [] [] rows)) (first_offence lefts)
recording_first cells rows lefts =
    let fills = filled_offences rows in
    let stands = standard_offences cells [] [] rows in
    first_alike (fills ++ (lefts ++ stands)) ((fills ++ stands) ++ lefts)
    (λ f.
    let a = tally_append f fills (lefts ++ stands) in
    let b = tally_append f lefts stands in
    let c = tally_append f (fills ++ stands) lefts in
    let d = tally_append f fills stands in
    omega (arith, a, b, c, d))
    ∙ first_of_both (fills ++ stands) lefts
    ∙ ap (λ x. earlier x (first_offence lefts)) (recorded_first cells rows)

pub lengths_fit : (ws : List Words) → size (map length ws) ≤ length (further_text ws)
lengths_fit [] = omega arith
lengths_fit (w ∷ ws) = let e = further_length w ws in let i = lengths_fit ws in let r = row_width w in omega (arith, e, i, r)

pub place_of_second : (ws : List Words) → 0 < length ws → 1 + length (further_text ws) ≡ 2 + length (rows_text ws)
place_of_second [] h = absurd (omega (arith, h))
place_of_second (w ∷ ws) h = omega arith

each_length : {A : Type 0} (g : A → List ℕ) (xs : List A) → map (λ x. length (g x)) xs ≡ map length (map g xs)
each_length g [] = refl
each_length g (x ∷ xs) = ap (λ ns. length (g x) ∷ ns) (each_length g xs)

-- if the lists g x, for x in xs, are the numbers of the rows f r, for r in `rows`, then they have the lengths of these rows
pub read_lengths : {A B : Type 0} (g : A → List ℕ) (f : B → Words) (xs : List A) (rows : List B) → map g xs ≡ map (λ r. numbers (f r)) rows
    → map (λ x. length (g x)) xs ≡ map length (map f rows)
read_lengths g f xs rows h =
    each_length g xs ∙ ap (map length) (h ∙ sym (map-map numbers f rows)) ∙ number_lengths (map f rows)

abbrev offends_so : List PlacedRow → List (List ℕ) → Words → Words → (ℕ → List PlacedRow) → List Offence
offends_so first nss words more second = offences_of_pair first nss (2 + length words) more (second (2 + length words))

pub pair_read : (words : Words) (first second : List Words) (r : Result Read WordsFault) → AreTwoTableaux first second words
    → IsJudged (StandsFor (unrsk (rows_in [] (map numbers first)) (rows_in [] (map numbers second)))) (first_offence (pair_offences first second)) r
    → IsRead (unrsk_entry ∷ []) words r
pair_read words first second r t j =
    let x = t.has.written.1.0 in
    let y = t.has.written.1.1.1 in
    let u = written_rows x in
    let v = written_rows y in
    let offends : unrsk_offends t.has.written.1 ≡ pair_offences u v =
    ap (λ p. offends_so p (tableau_rows x) (words_of tableau_words x) (words_of tableau_words y) (λ k. placed_rows k y)) (rows_placed 1 x)
    ∙ ap (λ p. offends_so (rows_at 1 u) p (words_of tableau_words x) (words_of tableau_words y) (λ k. placed_rows k y)) (rows_entered x)
    ∙ ap (λ p. offends_so (rows_at 1 u) (map numbers u) p (words_of tableau_words y) (λ k. placed_rows k y)) (rows_spelled x)
    ∙ ap (λ p. offends_so (rows_at 1 u) (map numbers u) (rows_text u) p (λ k. placed_rows k y)) (rows_spelled y)
    ∙ ap (λ p. offences_of_pair (rows_at 1 u) (map numbers u) (2 + length (rows_text u)) (rows_text v) p) (rows_placed (2 + length (rows_text u)) y) in
    read_standing unrsk_entry words t.has (unrsk (rows_in [] (map numbers u)) (rows_in [] (map numbers v)))
    (ap (λ p. unrsk (rows_in [] p) (rows_in [] (map numbers v))) (sym (rows_entered x))
    ∙ ap (λ p. unrsk (rows_in [] (tableau_rows x)) (rows_in [] p)) (sym (rows_entered y)))
    r
    (subst (λ os. IsJudged (StandsFor (unrsk (rows_in [] (map numbers u)) (rows_in [] (map numbers v)))) (first_offence os) r) (sym offends)
    (subst (λ w. IsJudged (StandsFor (unrsk (rows_in [] (map numbers u)) (rows_in [] (map numbers w)))) (first_offence (pair_offences u w)) r) t.second_is
    (subst (λ w. IsJudged (StandsFor (unrsk (rows_in [] (map numbers w)) (rows_in [] (map numbers second)))) (first_offence (pair_offences w second)) r) t.first_is j)))

pub pair_read_rows : {A : Type 0} (f : A → Words) (words : Words) (xs ys : List A) (r : Result Read WordsFault) → AreTwoTableaux (map f xs) (map f ys) words
    → IsJudged (StandsFor (unrsk (rows_in [] (map (λ r. numbers (f r)) xs)) (rows_in [] (map (λ r. numbers (f r)) ys)))) (first_offence (pair_offences (map f xs) (map f ys))) r
    → IsRead (unrsk_entry ∷ []) words r
pair_read_rows f words xs ys r t j =
    pair_read words (map f xs) (map f ys) r t
    (subst (λ ns. IsJudged (StandsFor (unrsk (rows_in [] ns) (rows_in [] (map numbers (map f ys))))) (first_offence (pair_offences (map f xs) (map f ys))) r) (sym (map-map numbers f xs))
    (subst (λ ns. IsJudged (StandsFor (unrsk (rows_in [] (map (λ r. numbers (f r)) xs)) (rows_in [] ns))) (first_offence (pair_offences (map f xs) (map f ys))) r) (sym (map-map numbers f ys)) j))
