-- If the words of a command have no error, the command is within its limits.
use Rattle.std.proofs.Common.{◌≡◌, ℕ, ◌+◌, ◌-◌, ◌≤◌, ◌==◌, cond, List, [], ◌∷◌, ◌++◌, map, length, sym, ap, subst, ◌∙◌, arith, inl, inr, None, rules}
use Rattle.std.proofs.lemmas.Bool.{eqb-false}
use Rattle.std.proofs.lemmas.List.{length-map}
use Rattle.sym_model.specs.Partition.{without_last_zeros}
use Rattle.sym_model.specs.Permutation.{kept}
use Rattle.sym_model.specs.PrintedBlock.{decimal_value}
use Rattle.sym_model.specs.Form.{Written, EachOf}
use Rattle.sym_model.specs.Command.{Command}
use Rattle.sym_model.specs.CommandOffence.{Offence, first_offence, most_factors, part_offences, factor_offences, most_doubled, permutation_offences, permutation_offences_within, judged_against}
use Rattle.sym_model.specs.ExpressionOffence.{range}
use Rattle.sym_model.specs.Entry.{Entry, SpellsFreely, SpellsWithoutOffence}
use Rattle.sym_model.specs.WordForms.{optional, rows_words, permutation_words, factors_words, from_words, numbers, letters, factors, factor_numbers, row_limit, row_limit_offences, partition}
use Rattle.sym_model.specs.Grammar.{all_entries, two_partitions, tab_entry, last_reading, not_listed, from_entries, expand_entry, plethysm_entry}
use Rattle.word_laws.specs.Words.{Words}
use Rattle.word_laws.proofs.FirstOffences.{first_none}
use Rattle.calc_words.specs.Commands.{KeepsLimits}
use Rattle.calc_words.specs.WrittenLimits.{IsWritten, IsInList, IsRowLimit, IsPermutationWithin, IsWrittenPermutation, AreWrittenFactors}
use Rattle.calc_words.proofs.WrittenLetters.{letters_within, written_letters}
use Rattle.calc_words.proofs.WordJudging.{written_word}
use Rattle.calc_words.proofs.WrittenExpressions.{no_signs, some_denominators}
use Rattle.calc_words.proofs.WrittenLists.{written, two_written, row_number}
use Rattle.word_laws.proofs.NoOffences.{none_append, none_first, none_judged, not_past, none_in_word, within_limit, within_degree}
use Rattle.sym_model.proofs.Lists.{none_chosen}

-- if words of the form of the entry e have no error, the command that they spell is within the limits (`KeepsLimits`)
abbrev pub Keeps : Entry → Type 0
Keeps e = (x : Written e.form) → first_offence (e.offends x) ≡ None → KeepsLimits (e.says x)

spelled_kept : (e : Entry) → Keeps e → (words : Words) (c : Command) → SpellsFreely e words c → KeepsLimits c
spelled_kept e k words c h = subst KeepsLimits (sym h.says_it) (k h.has.written h.no_offence)

limit_kept : (k : ℕ) (x : Written (optional rows_words)) → first_offence (row_limit_offences k x) ≡ None → IsRowLimit (row_limit x)
limit_kept k (inl x) h = tt
limit_kept k (inr x) h = row_number (k + 1) (decimal_value x.1) h

factors_keep : (count k : ℕ) (ns : List (List ℕ)) → count ≤ 8 → factor_offences count k ns ≡ []
    → (count + length ns ≤ 8) × EachOf IsWritten (map without_last_zeros ns)
factors_keep count k [] c h = (omega arith, tt)
factors_keep count k (n ∷ ns) c h =
    let ninth : List Offence = cond (count == most_factors) ((k - 1, 0, range) ∷ []) [] in
    let p = none_append (ninth ++ part_offences k n) (factor_offences (count + 1) (k + length n + 1) ns) h in
    let q = none_append ninth (part_offences k n) p.0 in
    let e = eqb-false count 8 (none_chosen (count == most_factors) (k - 1, 0, range) q.0) in
    let r = factors_keep (count + 1) (k + length n + 1) ns (omega (arith, c, e)) p.1 in
    let l = r.0 in
    (omega (arith, l), (written k n (ap first_offence q.1), r.1))

factors_written : (k : ℕ) (x : Written factors_words) → first_offence (factor_offences 0 k (factor_numbers x)) ≡ None → AreWrittenFactors (factors x)
factors_written k (first, (second, others)) h =
    let ns = factor_numbers (first, (second, others)) in
    let r = factors_keep 0 k ns (omega arith) (first_none (factor_offences 0 k ns) h) in
    let l = length-map ns without_last_zeros in
    let few = r.0 in
    record { some = omega arith; few = omega (arith, few, l); written = r.1 }

last_kept : (k : ℕ) (outer inner : List ℕ) (after : Written (optional from_words)) → first_offence (not_listed k outer inner after) ≡ None
    → IsInList outer inner (last_reading outer inner after)
last_kept k outer inner (inl x) h = tt
last_kept k outer inner (inr (name, x)) h = search rules

tab_keeps : Keeps tab_entry
tab_keeps (name, (outer, (slash, (inner, after)))) h =
    let lists = two_partitions 1 outer inner in
    let k = 2 + length outer + length inner in
    let last = not_listed k (partition outer) (partition inner) after in
    let p = none_first (lists ++ judged_against lists last) (from_entries k after) h in
    let q = none_first lists (judged_against lists last) p.0 in
    let w = two_written 1 outer inner q.0 in
    (w.0, w.1, last_kept k (partition outer) (partition inner) after (ap first_offence (sym (none_judged lists last q.0)) ∙ q.1))

expand_keeps : Keeps expand_entry
expand_keeps (name, (form, (basis, phrase))) h = search (rules, within_degree, some_denominators)

plethysm_keeps : Keeps plethysm_entry
plethysm_keeps (name, (basis, (outer, inner))) h =
    search (rules, none_first, none_append, none_in_word, first_none, none_judged, within_degree, within_limit, not_past, no_signs, some_denominators)

letters_kept : (k : ℕ) (x : Written permutation_words) → first_offence (permutation_offences k (letters x)) ≡ None → IsWrittenPermutation (kept (letters x))
letters_kept k (t, ts) h = written_letters k (numbers (t ∷ ts)) (omega arith) h

short_kept : (k : ℕ) (x : Written permutation_words) → first_offence (permutation_offences_within most_doubled k (letters x)) ≡ None
    → IsPermutationWithin most_doubled (kept (letters x))
short_kept k (t, ts) h = letters_within most_doubled k (numbers (t ∷ ts)) (omega arith) (omega arith) h

-- if each entry of a list has the property `Keeps`, a command that words spell without an error is within the limits
pub some_keeps : (entries : List Entry) → EachOf Keeps entries → (words : Words) (c : Command) → SpellsWithoutOffence entries words c → KeepsLimits c
some_keeps [] k words c h = absurd h
some_keeps (e ∷ entries) k words c (inl h) = spelled_kept e k.0 words c h
some_keeps (e ∷ entries) k words c (inr h) = some_keeps entries k.1 words c h

all_keep : EachOf Keeps all_entries
all_keep =
    search (rules, tab_keeps, expand_keeps, plethysm_keeps, none_first, limit_kept, row_number, written, factors_written, letters_kept, short_kept, written_word)
    parts 64

pub words_keep : (words : Words) (c : Command) → SpellsWithoutOffence all_entries words c → KeepsLimits c
words_keep words c h = some_keeps all_entries all_keep words c h
