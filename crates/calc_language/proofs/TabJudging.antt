-- The first error of the words of `tab`: two partitions and, if it is given, a tableau after `-from`.
use Rattle.std.proofs.Common.{◌≡◌, ℕ, ◌+◌, ◌<◌, ◌≤◌, Bool, true, false, cond, ◌⊎◌, inl, inr, List, [], ◌∷◌, ◌++◌, map, length, refl, sym, ap, ap₂, ◌∙◌, subst, arith, append_assoc, Option, Some, None, Result, Ok, rules}
use Rattle.std.proofs.lemmas.List.{length-map}
use Rattle.sym_model.specs.Sum.{Among}
use Rattle.sym_model.proofs.Sums.{Among_from_append}
use Rattle.sym_model.proofs.Exponents.{tests_agree}
use Rattle.sym_model.specs.GoodTableau.{column_reading}
use Rattle.sym_model.specs.Partition.{Falls}
use Rattle.sym_model.specs.PrintedBlock.{decimal_value}
use Rattle.sym_model.specs.ExpressionOffence.{shape}
use Rattle.sym_model.specs.Form.{Written}
use Rattle.sym_model.specs.Command.{tab}
use Rattle.sym_model.specs.CommandOffence.{Offence, first_offence, offences_after, part_offences, part_rule, judged_against, entry_rule, row_offences, rows_in}
use Rattle.sym_model.specs.TableauList.{is_lattice_tableau}
use Rattle.sym_model.specs.Grammar.{tab_entry, tab_offends, two_partitions, last_reading}
use Rattle.sym_model.specs.WordForms.{optional, from_words, numbers, partition}
use Rattle.word_laws.specs.Words.{Words}
use Rattle.word_laws.specs.WrittenRows.{row_text, rows_at}
use Rattle.tableau_iter.proofs.EntryLimits.{RowsWithin, rows_within}
use Rattle.calc_base.specs.declared.words.WordsFault.{WordsFault}
use Rattle.expression_reading.specs.declared.offence.Kind.TheVariants.{Shape as Misshapen}
use Rattle.calc_words.specs.Faults.{fault_of}
use Rattle.calc_language.specs.FoundOffences.{at_most_entry}
use Rattle.calc_words.specs.Reading.{IsJudged, IsRead, IsFirst}
use Rattle.calc_language.specs.TabWords.{AreTabWords, from_rows, last_of, unlisted, from_offences, all_tab_offences}
use Rattle.calc_words.specs.declared.command.Command.{Command as Read}
use Rattle.calc_words.specs.declared.command.Command.TheVariants.{Tab}
use Rattle.calc_words.proofs.Commands.{read_judged, judged_err}
use Rattle.calc_words.proofs.FirstOffences.{AllBefore, first-append, within}
use Rattle.calc_language.proofs.PairJudging.{entries_after}
use Rattle.calc_language.proofs.WrittenTableaux.{rows_placed, rows_entered}
use Rattle.sym_model.specs.Bounded.{AreLetters as AreWithin}
use Rattle.std.proofs.lemmas.Simd.{map-map}

entry_none : (n : ℕ) (before : List ℕ) (a : ℕ) → n ≤ 512 → 1 ≤ a → a ≤ n → entry_rule before a ≡ []
entry_none n before a f l h = search rules

row_none : (n : ℕ) (before : List ℕ) (k : ℕ) (ns : List ℕ) → n ≤ 512 → AreWithin n ns → offences_after entry_rule before k ns ≡ []
row_none n before k [] f h = refl
row_none n before k (a ∷ ns) f h =
    ap₂ (λ kinds os. map (λ kind. (k, 0, kind)) kinds ++ os) (entry_none n before a f h.0.0 h.0.1) (row_none n (a ∷ before) (k + 1) ns f h.1)

rows_none : (n k : ℕ) (ws : List Words) → n ≤ 512 → RowsWithin n (map numbers ws) → row_offences entry_rule (rows_at k ws) ≡ []
rows_none n k [] f h = refl
rows_none n k (w ∷ ws) f h =
    ap₂ (λ xs ys. xs ++ ys) (row_none n [] k (numbers w) f h.0) (rows_none n (k + length (row_text w) + 1) ws f h.1)

-- ---- replacing each entry over 65,535 by 65,535 does not change whether rows are a lattice tableau

abbrev capped : List (List ℕ) → List (List ℕ)
capped rows = map (map at_most_entry) rows

row_same : (n : ℕ) (ns : List ℕ) → n ≤ 512 → AreWithin n ns → map at_most_entry ns ≡ ns
row_same n [] f h = refl
row_same n (a ∷ ns) f h = search (rules, (row_same n ns f h.1))

rows_same : (n : ℕ) (rows : List (List ℕ)) → n ≤ 512 → RowsWithin n rows → capped rows ≡ rows
rows_same n [] f h = refl
rows_same n (row ∷ rows) f h = ap₂ ◌∷◌ (row_same n row f h.0) (rows_same n rows f h.1)

row_kept : (n : ℕ) (ns : List ℕ) → n ≤ 512 → AreWithin n (map at_most_entry ns) → map at_most_entry ns ≡ ns
row_kept n [] f h = refl
row_kept n (a ∷ ns) f h = search (rules, (row_kept n ns f h.1))

rows_kept : (n : ℕ) (rows : List (List ℕ)) → n ≤ 512 → RowsWithin n (capped rows) → capped rows ≡ rows
rows_kept n [] f h = refl
rows_kept n (row ∷ rows) f h = ap₂ ◌∷◌ (row_kept n row f h.0) (rows_kept n rows f h.1)

rows_in_capped : (outer : List ℕ) (rows : List (List ℕ)) → rows_in outer (capped rows) ≡ capped (rows_in outer rows)
rows_in_capped (a ∷ outer) rows = refl
rows_in_capped [] [] = refl
rows_in_capped [] ([] ∷ []) = refl
rows_in_capped [] ([] ∷ row ∷ rows) = refl
rows_in_capped [] ((a ∷ row) ∷ rows) = refl

capped_listed : (outer inner : List ℕ) (rows : List (List ℕ)) → Falls outer → length outer ≤ 512
    → is_lattice_tableau outer inner (capped rows) ≡ is_lattice_tableau outer inner rows
capped_listed outer inner rows f n =
    tests_agree (is_lattice_tableau outer inner (capped rows)) (is_lattice_tableau outer inner rows)
    (λ e. subst (λ rs. is_lattice_tableau outer inner rs ≡ true) (rows_kept (length outer) rows n (rows_within outer inner (capped rows) f e)) e)
    (λ e. subst (λ rs. is_lattice_tableau outer inner rs ≡ true) (sym (rows_same (length outer) rows n (rows_within outer inner rows f e))) e)

capped_each : {A : Type 0} (f : A → Words) (xs : List A) → map (λ r. map at_most_entry (numbers (f r))) xs ≡ capped (map (λ r. numbers (f r)) xs)
capped_each f [] = refl
capped_each f (x ∷ xs) = ap (λ rs. map at_most_entry (numbers (f x)) ∷ rs) (capped_each f xs)

-- let outer be weakly decreasing, with at most 512 parts: the rows that were read, with each entry over 65,535 replaced by 65,535, are a lattice
-- tableau of outer/inner if and only if the written rows are one
pub read_listed : {A : Type 0} (f : A → Words) (outer inner : List ℕ) (xs : List A) (read : List (List ℕ)) → Falls outer → length outer ≤ 512
    → read ≡ rows_in outer (map (λ r. map at_most_entry (numbers (f r))) xs)
    → is_lattice_tableau outer inner read ≡ is_lattice_tableau outer inner (rows_in outer (map (λ r. numbers (f r)) xs))
read_listed f outer inner xs read h n e = search (rules, capped_each, rows_in_capped, capped_listed)

pub read_same : {A : Type 0} (f : A → Words) (outer inner : List ℕ) (xs : List A) (read : List (List ℕ)) → Falls outer → length outer ≤ 512
    → read ≡ rows_in outer (map (λ r. map at_most_entry (numbers (f r))) xs) → is_lattice_tableau outer inner read ≡ true
    → read ≡ rows_in outer (map (λ r. numbers (f r)) xs)
read_same f outer inner xs read h n e l =
    let R = rows_in outer (map (λ r. numbers (f r)) xs) in
    let is : read ≡ capped (rows_in outer (map (λ r. numbers (f r)) xs)) = e ∙ ap (rows_in outer) (capped_each f xs) ∙ rows_in_capped outer (map (λ r. numbers (f r)) xs) in
    is
    ∙ rows_kept (length outer) (rows_in outer (map (λ r. numbers (f r)) xs)) n
    (rows_within outer inner (capped (rows_in outer (map (λ r. numbers (f r)) xs))) h (ap (is_lattice_tableau outer inner) (sym is) ∙ l))

-- c is the command `tab` of outer/inner, which lists all lattice tableaux, or those after the one with the column reading `after`
abbrev pub IsTab : List ℕ → List ℕ → Option (List ℕ) → Read → Type 0
IsTab outer inner after c = c ≡ Tab outer inner after

-- if there are rows and they are no lattice tableau of outer/inner, the fault of shape at word k, the word `-from`, is their first error
pub unlisted_last : {A : Type 0} (f : A → Words) (k : ℕ) (outer inner : List ℕ) (xs : List A) (fault : WordsFault) → 0 < length xs
    → is_lattice_tableau outer inner (rows_in outer (map (λ r. numbers (f r)) xs)) ≡ false → fault ≡ fault_of k Misshapen
    → IsFirst (first_offence (from_offences k outer inner (map f xs))) fault
unlisted_last f k outer inner [] fault l n e = absurd (omega (arith, l))
unlisted_last f k outer inner (x ∷ xs) fault l n e =
    let entries = row_offences entry_rule (rows_at (k + 1) (map f (x ∷ xs))) in
    subst (λ y. IsFirst (first_offence (from_offences k outer inner (map f (x ∷ xs)))) y) (sym e)
    (ap (λ rs. first_offence (cond (is_lattice_tableau outer inner (rows_in outer rs)) [] ((k, 0, shape) ∷ []) ++ row_offences entry_rule (rows_at (k + 1) (map f (x ∷ xs))))) (map-map numbers f (x ∷ xs))
    ∙ ap (λ b. first_offence (cond b [] ((k, 0, shape) ∷ []) ++ row_offences entry_rule (rows_at (k + 1) (map f (x ∷ xs))))) n
    ∙ first-append ((k, 0, shape) ∷ []) entries (k, 0, shape) refl (λ p q m a. before p q m (entries_after (k + 1) (map f (x ∷ xs)) q a)))
  where
    before : (p q : Offence) → Among p ((k, 0, shape) ∷ []) → k + 1 ≤ q.0 → p.0 < q.0
    before p q (inl m) h = let z = ap (λ (o : Offence). o.0) m in omega (arith, z, h)
    before p q (inr m) h = absurd m

-- if there are rows and they are a lattice tableau of outer/inner, the command `tab` with their column reading is a correct result
pub listed_last : {A : Type 0} (f : A → Words) (k : ℕ) (outer inner : List ℕ) (xs : List A) (s : Read) → 0 < length xs → Falls outer → length outer ≤ 512
    → is_lattice_tableau outer inner (rows_in outer (map (λ r. numbers (f r)) xs)) ≡ true
    → IsTab outer inner (Some (column_reading outer inner (rows_in outer (map (λ r. numbers (f r)) xs)))) s
    → IsJudged (IsTab outer inner (last_of outer inner (map (λ r. numbers (f r)) xs))) (first_offence (from_offences k outer inner (map f xs))) (Ok s)
listed_last f k outer inner [] s l h n t a = absurd (omega (arith, l))
listed_last f k outer inner (x ∷ xs) s l h n t a = (a, first)
  where
    whole : (outer : List ℕ) (ws : List Words) → RowsWithin (length outer) (rows_in outer (map numbers ws)) → RowsWithin (length outer) (map numbers ws)
    whole (b ∷ outer) ws r = r
    whole [] [] r = r
    whole [] ([] ∷ []) r = (tt, tt)
    whole [] ([] ∷ w ∷ ws) r = r
    whole [] ((t ∷ w) ∷ ws) r = r

    first : first_offence (from_offences k outer inner (map f (x ∷ xs))) ≡ None
    first =
        let twice = map-map numbers f (x ∷ xs) in
        let all = ap (λ rs. is_lattice_tableau outer inner (rows_in outer rs)) twice ∙ t in
        ap₂ (λ (b : Bool) os. first_offence (cond b [] ((k, 0, shape) ∷ []) ++ os)) all
        (rows_none (length outer) (k + 1) (map f (x ∷ xs)) n
        (whole outer (map f (x ∷ xs)) (rows_within outer inner (rows_in outer (map numbers (map f (x ∷ xs)))) h all)))

after_shapes : (outer inner : Words) (rows : List Words)
    → AllBefore (two_partitions 1 outer inner)
    (judged_against (two_partitions 1 outer inner) (unlisted (2 + length outer + length inner) (partition outer) (partition inner) (map numbers rows))
    ++ row_offences entry_rule (rows_at (2 + length outer + length inner + 1) rows))
after_shapes outer inner rows p q m n =
    let lo = length-map outer decimal_value in
    let li = length-map inner decimal_value in
    omega (
      arith,
      lists (Among_from_append p (part_offences 1 (numbers outer)) (part_offences (1 + length outer + 1) (numbers inner)) m),
      later (Among_from_append q (judged_against (two_partitions 1 outer inner) (unlisted k (partition outer) (partition inner) (map numbers rows)))
          (row_offences entry_rule (rows_at (k + 1) rows)) n),
    )
  where
    k : ℕ
    k = 2 + length outer + length inner

    lists : Among p (part_offences 1 (numbers outer)) ⊎ Among p (part_offences (1 + length outer + 1) (numbers inner)) → p.0 < 2 + length outer + length inner
    lists (inl a) = let w = (within part_rule [] 1 (numbers outer) p a).1 in let l = length-map outer decimal_value in omega (arith, w, l)
    lists (inr a) = let w = (within part_rule [] (1 + length outer + 1) (numbers inner) p a).1 in let l = length-map inner decimal_value in omega (arith, w, l)

    from_unlisted : (nss : List (List ℕ)) → Among q (unlisted (2 + length outer + length inner) (partition outer) (partition inner) nss) → 2 + length outer + length inner ≤ q.0
    from_unlisted [] a = absurd a
    from_unlisted (ns ∷ nss) a = by (is_lattice_tableau (partition outer) (partition inner) (rows_in (partition outer) (ns ∷ nss))) a
      where
        by : (b : Bool) → Among q (cond b [] ((2 + length outer + length inner, 0, shape) ∷ [])) → 2 + length outer + length inner ≤ q.0
        by true a = absurd a
        by false (inl e) = let z = ap (λ (o : Offence). o.0) e in omega (arith, z)
        by false (inr a) = absurd a

    from_judged : (os : List Offence) → Among q (judged_against os (unlisted (2 + length outer + length inner) (partition outer) (partition inner) (map numbers rows))) → 2 + length outer + length inner ≤ q.0
    from_judged [] a = from_unlisted (map numbers rows) a
    from_judged (o ∷ os) a = absurd a

    later : Among q (judged_against (two_partitions 1 outer inner) (unlisted (2 + length outer + length inner) (partition outer) (partition inner) (map numbers rows)))
        ⊎ Among q (row_offences entry_rule (rows_at (2 + length outer + length inner + 1) rows)) → 2 + length outer + length inner ≤ q.0
    later (inl a) = from_judged (two_partitions 1 outer inner) a
    later (inr a) = let z = entries_after (2 + length outer + length inner + 1) rows q a in omega (arith, z)

-- if a fault reports the first error of the two partitions, then it reports the first error of all words
pub shapes_faulty : (outer inner : Words) (rows : List Words) (fault : WordsFault)
    → IsFirst (first_offence (two_partitions 1 outer inner)) fault → IsFirst (first_offence (all_tab_offences outer inner rows)) fault
shapes_faulty outer inner rows fault h =
    let k = 2 + length outer + length inner in
    let lists = two_partitions 1 outer inner in
    let judged = judged_against lists (unlisted k (partition outer) (partition inner) (map numbers rows)) in
    let fills = row_offences entry_rule (rows_at (k + 1) rows) in
    subst (λ os. IsFirst (first_offence os) fault) (sym (append_assoc lists judged fills))
    (judged_err lists (judged ++ fills) fault (after_shapes outer inner rows) h)

-- ---- a correct result for the two partitions and the rows is a correct result of reading the words of `tab`

abbrev IsTabJudged : Words → Words → List Words → Result Read WordsFault → Type 0
IsTabJudged outer inner rows r =
    IsJudged (IsTab (partition outer) (partition inner) (last_of (partition outer) (partition inner) (map numbers rows)))
    (first_offence (all_tab_offences outer inner rows)) r

tab_said : (P Q : List ℕ) (x : Written (optional from_words)) → last_reading P Q x ≡ last_of P Q (map numbers (from_rows x))
tab_said P Q (inl x) = refl
tab_said P Q (inr x) = ap (λ ns. Some (column_reading P Q (rows_in P ns))) (rows_entered x.1)

tab_offended : (outer inner : Words) (x : Written (optional from_words)) → tab_offends (outer, (tt, (inner, x))) ≡ all_tab_offences outer inner (from_rows x)
tab_offended outer inner (inl x) = refl
tab_offended outer inner (inr x) = search (rules, rows_entered, rows_placed)

tab_read : (words outer inner : Words) (rows : List Words) (r : Result Read WordsFault) → AreTabWords outer inner rows words
    → IsTabJudged outer inner rows r → IsRead (tab_entry ∷ []) words r
tab_read words outer inner rows r t j =
    let o = t.has.written.1.0 in
    let i = t.has.written.1.1.1.0 in
    let x = t.has.written.1.1.1.1 in
    let P = partition o in
    let Q = partition i in
    read_judged tab_entry words t.has (Tab P Q (last_of P Q (map numbers (from_rows x)))) (ap (tab P Q) (sym (tab_said P Q x))) tt r
    (subst (λ os. IsJudged (IsTab P Q (last_of P Q (map numbers (from_rows x)))) (first_offence os) r) (sym (tab_offended o i x))
    (subst (λ w. IsTabJudged o i w r) t.rows_are (subst (λ w. IsTabJudged o w rows r) t.inner_is (subst (λ w. IsTabJudged w inner rows r) t.outer_is j))))

pub tab_read_rows : {A : Type 0} (f : A → Words) (words outer inner : Words) (xs : List A) (r : Result Read WordsFault) → AreTabWords outer inner (map f xs) words
    → IsJudged (IsTab (partition outer) (partition inner) (last_of (partition outer) (partition inner) (map (λ r. numbers (f r)) xs)))
    (first_offence (all_tab_offences outer inner (map f xs))) r
    → IsRead (tab_entry ∷ []) words r
tab_read_rows f words outer inner xs r t j =
    tab_read words outer inner (map f xs) r t
    (subst
    (λ ns. IsJudged (IsTab (partition outer) (partition inner) (last_of (partition outer) (partition inner) ns)) (first_offence (all_tab_offences outer inner (map f xs))) r)
    (sym (map-map numbers f xs)) j)
