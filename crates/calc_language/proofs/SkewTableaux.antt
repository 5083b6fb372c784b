-- If rows have no error for a skew shape, they are a tableau of this shape.
use Rattle.std.proofs.Common.{◌≡◌, ℕ, zero, suc, ◌+◌, ◌-◌, ◌<◌, ◌≤◌, true, List, [], ◌∷◌, ◌++◌, map, length, get_or, refl, sym, ap, ◌∙◌, arith, None, rules}
use Rattle.sym_model.specs.Partition.{IsPartition, without_last_zeros}
use Rattle.sym_model.specs.Schur.{row_lengths, contains}
use Rattle.sym_model.specs.Tableau.{IsTableau}
use Rattle.sym_model.specs.Form.{EachOf}
use Rattle.sym_model.specs.CommandOffence.{first_offence, offences_by, offences_after, inside_rule, entry_rule, row_offences, order_offences, rows_in}
use Rattle.sym_model.specs.WordForms.{numbers, shape_offences}
use Rattle.sym_model.proofs.Parts.{get_or-without_last_zeros}
use Rattle.word_laws.specs.Words.{Words}
use Rattle.word_laws.specs.WrittenRows.{rows_text, rows_at}
use Rattle.word_laws.proofs.FirstOffences.{first_none}
use Rattle.calc_language.specs.AskedLengths.{asked_lengths}
use Rattle.calc_words.specs.NumberRuns.{IsNumber}
use Rattle.calc_language.specs.SkewWords.{skew_offences}
use Rattle.calc_language.proofs.FaultlessRows.{faultless_letters, faultless_order, faultless_lengths}
use Rattle.calc_language.proofs.PairJudging.{left_shape_of, number_lengths}
use Rattle.calc_language.proofs.SkewJudging.{asked_shape, asked_some}
use Rattle.word_laws.proofs.NoOffences.{none_append, none_next}
use Rattle.strip_laws.proofs.Containment.{contains_from_places}

none_inside : (outer before : List ℕ) (k : ℕ) (ns : List ℕ) → offences_after (inside_rule outer) before k ns ≡ []
    → (j : ℕ) → get_or ns j 0 ≤ get_or outer (length before + j) 0
none_inside outer before k [] h j = omega arith
none_inside outer before k (a ∷ ns) h zero = search rules
none_inside outer before k (a ∷ ns) h (suc j) =
    let n = none_next (inside_rule outer) before k a ns h in
    let r = none_inside outer (a ∷ before) (k + 1) ns n.1 j in
    let z : get_or outer (length (a ∷ before) + j) 0 ≡ get_or outer (length before + suc j) 0 =
    (let y : length (a ∷ before) + j ≡ length before + suc j = omega arith in ap (λ i. get_or outer i 0) y) in
    omega (arith, r, z)

pub inside_contains : (outer : List ℕ) (k : ℕ) (ns : List ℕ) → first_offence (offences_by (inside_rule outer) k ns) ≡ None → contains outer (without_last_zeros ns) ≡ true
inside_contains outer k ns h =
    let n = none_inside outer [] k ns (first_none (offences_by (inside_rule outer) k ns) h) in
    contains_from_places outer (without_last_zeros ns)
    (λ j.
    let e = get_or-without_last_zeros ns j in
    let y = n j in
    let z : get_or outer (0 + j) 0 ≡ get_or outer j 0 = (let x : 0 + j ≡ j = omega arith in ap (λ i. get_or outer i 0) x) in
    omega (arith, e, y, z))

one_empty : (ws : List Words) → map length ws ≡ 0 ∷ [] → rows_in [] (map numbers ws) ≡ []
one_empty [] h = refl
one_empty ([] ∷ []) h = refl
one_empty ([] ∷ v ∷ ws) h = let z = ap length h in absurd (omega (arith, z))
one_empty ((t ∷ w) ∷ ws) h = let z = ap (λ xs. get_or xs 0 0) h in absurd (omega (arith, z))

tableau_in : (outer inner : List ℕ) (k : ℕ) (ws : List Words) → IsPartition outer → IsPartition inner → contains outer inner ≡ true
    → row_offences entry_rule (rows_at k ws) ≡ [] → map length ws ≡ asked_lengths outer inner → order_offences 0 [] inner (rows_at k ws) ≡ []
    → IsTableau outer inner (rows_in outer (map numbers ws))
tableau_in [] inner k ws o i c e l d = search (rules, one_empty)
tableau_in (a ∷ outer) inner k ws o i c e l d = search (rules, number_lengths, faultless_letters, faultless_order)

pub skew_tableau : (k : ℕ) (outer inner : List ℕ) (ws : List Words) → IsPartition outer → IsPartition inner → contains outer inner ≡ true
    → 0 < length ws → EachOf (EachOf IsNumber) ws → first_offence (skew_offences k outer inner ws) ≡ None
    → IsTableau outer inner (rows_in outer (map numbers ws))
skew_tableau k outer inner ws o i c s e h =
    let fills = row_offences entry_rule (rows_at k ws) in
    let shapes = shape_offences k (row_lengths outer inner) (rows_text ws) in
    let orders = order_offences 0 [] inner (rows_at k ws) in
    let p = none_append fills (shapes ++ orders) (first_none (skew_offences k outer inner ws) h) in
    let q = none_append shapes orders p.1 in
    let left = sym (asked_shape k outer inner (rows_text ws) ∙ left_shape_of k (asked_lengths outer inner) ws (asked_some outer inner) s e) ∙ q.0 in
    tableau_in outer inner k ws o i c p.0 (faultless_lengths k (asked_lengths outer inner) ws (asked_some outer inner) s left) q.1
