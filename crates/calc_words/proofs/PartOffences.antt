-- The words of a command are divided into parts. The first error of the words is the first error of the first part that has an error.
use Rattle.std.proofs.Common.{◌≡◌, ℕ, true, ◌+◌, ◌<◌, ◌≤◌, List, [], ◌∷◌, map, length, refl, sym, ap, ◌∙◌, arith, None, ◌⊎◌, inl, inr, flat_map, rules}
use Rattle.std.proofs.lemmas.Bool.{and_parts}
use Rattle.std.proofs.lemmas.List.{length-map}
use Rattle.sym_model.specs.Sum.{Among}
use Rattle.sym_model.proofs.Sums.{Among_from_append}
use Rattle.sym_model.specs.PrintedBlock.{decimal_value}
use Rattle.sym_model.specs.CommandOffence.{Offence, Rule, first_offence, offences_by, part_rule, letter_rule, permutation_rule_within, most_permuted, most_doubled, permutation_offences_within, rows_rule, lines_rule, seed_rule}
use Rattle.sym_model.specs.Form.{Written, words_of}
use Rattle.sym_model.specs.WordForms.{numbers, letters, permutation_words, next_words}
use Rattle.word_laws.specs.Words.{Words}
use Rattle.calc_base.specs.declared.words.WordsFault.{WordsFault}
use Rattle.calc_words.specs.Reading.{IsFirst}
use Rattle.calc_words.specs.Parts.{form_of_part, form_of, part_offends, parts_offend, IsFirstOf, AreFine, is_bounded, are_bounded}
use Rattle.calc_words.specs.declared.word_parts.Part.{Part}
use Rattle.calc_words.specs.declared.word_parts.Part.TheVariants.{Rows, MaybeRows, Bound, Lines, Seed, Shape, Word, Letters, Doubled, Factors}
use Rattle.calc_words.proofs.FirstOffences.{within, none-append}
use Rattle.calc_words.proofs.FactorJudging.{factors_from}
use Rattle.calc_words.proofs.Commands.{singles, judged_err, judged_later}

number_count : (ns : Words) → length (numbers ns) ≡ length (flat_map (λ t. t ∷ []) ns)
number_count ns = length-map ns decimal_value ∙ ap length (sym (singles ns))

part_from : (p : Part) (k : ℕ) (x : Written (form_of_part p)) (o : Offence) → Among o (part_offends p k x) → k ≤ o.0
part_from Rows k x o m = let w = (within rows_rule [] (k + 1) (decimal_value x.1 ∷ []) o m).0 in omega (arith, w)
part_from MaybeRows k (inl x) o m = absurd m
part_from MaybeRows k (inr x) o m = let w = (within rows_rule [] (k + 1) (decimal_value x.1 ∷ []) o m).0 in omega (arith, w)
part_from Bound k x o m = (within rows_rule [] k (decimal_value x ∷ []) o m).0
part_from Lines k x o m = (within lines_rule [] k (decimal_value x ∷ []) o m).0
part_from Seed k x o m = (within seed_rule [] k (decimal_value x ∷ []) o m).0
part_from Shape k x o m = (within part_rule [] k (numbers x) o m).0
part_from Word k x o m = (within letter_rule [] k (numbers x) o m).0
part_from Letters k x o m = (within (permutation_rule_within most_permuted (length (letters x))) [] k (letters x) o m).0
part_from Doubled k x o m = (within (permutation_rule_within most_doubled (length (letters x))) [] k (letters x) o m).0
part_from Factors k (first, (second, others)) o m =
    factors_from k (numbers first) (numbers second.1 ∷ map (λ (next : Written next_words). numbers next.1) others) o m
part_from p k x o m = absurd m

list_below : (rule : Rule) (k : ℕ) (x : Words) (o : Offence) → Among o (offences_by rule k (numbers x)) → o.0 < k + length (flat_map (λ t. t ∷ []) x)
list_below rule k x o m = let w = (within rule [] k (numbers x) o m).1 in let n = number_count x in omega (arith, w, n)

letters_below : (most : ℕ) (k : ℕ) (x : Written permutation_words) (o : Offence) → Among o (permutation_offences_within most k (letters x))
    → o.0 < k + length (words_of permutation_words x)
letters_below most k (t, ts) o m =
    let w = (within (permutation_rule_within most (length (numbers (t ∷ ts)))) [] k (numbers (t ∷ ts)) o m).1 in
    let n = number_count ts in
    omega (arith, w, n)

part_below : (p : Part) (k : ℕ) (x : Written (form_of_part p)) (o : Offence) → is_bounded p ≡ true → Among o (part_offends p k x)
    → o.0 < k + length (words_of (form_of_part p) x)
part_below Rows k x o b m = let w = (within rows_rule [] (k + 1) (decimal_value x.1 ∷ []) o m).1 in omega (arith, w)
part_below MaybeRows k (inl x) o b m = absurd m
part_below MaybeRows k (inr x) o b m = let w = (within rows_rule [] (k + 1) (decimal_value x.1 ∷ []) o m).1 in omega (arith, w)
part_below Bound k x o b m = (within rows_rule [] k (decimal_value x ∷ []) o m).1
part_below Lines k x o b m = (within lines_rule [] k (decimal_value x ∷ []) o m).1
part_below Seed k x o b m = (within seed_rule [] k (decimal_value x ∷ []) o m).1
part_below Shape k x o b m = list_below part_rule k x o m
part_below Word k x o b m = list_below letter_rule k x o m
part_below Letters k x o b m = letters_below most_permuted k x o m
part_below Doubled k x o b m = letters_below most_doubled k x o m
part_below Factors k x o b m = cc
part_below p k x o b m = absurd m

parts_from : (ps : List Part) (k : ℕ) (x : Written (form_of ps)) (o : Offence) → Among o (parts_offend ps k x) → k ≤ o.0
parts_from [] k x o m = absurd m
parts_from (p ∷ []) k x o m = part_from p k x o m
parts_from (p ∷ q ∷ ps) k x o m =
    by (Among_from_append o (part_offends p k x.0) (parts_offend (q ∷ ps) (k + length (words_of (form_of_part p) x.0)) x.1) m)
    (parts_from (q ∷ ps) (k + length (words_of (form_of_part p) x.0)) x.1 o)
  where
    by : Among o (part_offends p k x.0) ⊎ Among o (parts_offend (q ∷ ps) (k + length (words_of (form_of_part p) x.0)) x.1)
        → (Among o (parts_offend (q ∷ ps) (k + length (words_of (form_of_part p) x.0)) x.1) → k + length (words_of (form_of_part p) x.0) ≤ o.0) → k ≤ o.0
    by (inl a) r = part_from p k x.0 o a
    by (inr a) r = let w = r a in omega (arith, w)

-- let no part but the last be a list of factors (`are_bounded`). Then a fault that reports the first error of the first part with an error reports
-- the first error of all parts.
pub parts_faulty : (ps : List Part) (k : ℕ) (x : Written (form_of ps)) (fault : WordsFault) → are_bounded ps ≡ true → IsFirstOf ps k x fault
    → IsFirst (first_offence (parts_offend ps k x)) fault
parts_faulty [] k x fault b h = absurd h
parts_faulty (p ∷ []) k x fault b h = h
parts_faulty (p ∷ q ∷ ps) k x fault b (inl h) =
    let c = and_parts (is_bounded p) (are_bounded (q ∷ ps)) b in
    judged_err (part_offends p k x.0) (parts_offend (q ∷ ps) (k + length (words_of (form_of_part p) x.0)) x.1) fault
    (λ o r m n.
    let u = part_below p k x.0 o c.0 m in
    let v = parts_from (q ∷ ps) (k + length (words_of (form_of_part p) x.0)) x.1 r n in
    omega (arith, u, v))
    h
parts_faulty (p ∷ q ∷ ps) k x fault b (inr h) = search (rules, and_parts, judged_later, (parts_faulty (q ∷ ps)))

pub parts_fine : (ps : List Part) (k : ℕ) (x : Written (form_of ps)) → AreFine ps k x → first_offence (parts_offend ps k x) ≡ None
parts_fine [] k x h = refl
parts_fine (p ∷ []) k x h = h
parts_fine (p ∷ q ∷ ps) k x h = search (rules, none-append, (parts_fine (q ∷ ps)))
