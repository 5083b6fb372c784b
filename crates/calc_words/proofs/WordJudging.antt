-- The test of the letters of a word in the sense of combinatorics: a list of letters, each typed as a number, tested one after another.
use Rattle.std.proofs.Common.{◌≡◌, ℕ, suc, ◌+◌, ◌<◌, ◌≤◌, ◌==◌, Bool, true, false, ◌||◌, List, [], ◌∷◌, ◌++◌, map, length, take, drop, get_or, drop-cons, refl, sym, ap, ◌∙◌, subst, arith, Some, None, rules}
use Rattle.std.proofs.lemmas.Bool.{eqb-false, or_parts}
use Rattle.std.proofs.Math.ListN.{set, length-set}
use Rattle.std.proofs.lemmas.List.{take_more, take_more_set}
use Rattle.sym_model.specs.Sum.{Among}
use Rattle.sym_model.specs.ExpressionOffence.{is_wide, literal, range}
use Rattle.sym_model.specs.CommandOffence.{Offence, first_offence, offences_by, offences_after, letter_rule, when, is_outside, greatest_letter, most_letters}
use Rattle.calc_base.specs.declared.words.WordsFault.{WordsFault}
use Rattle.word_laws.proofs.FirstOffences.{first_none}
use Rattle.expression_reading.specs.declared.offence.Kind.TheVariants.{Literal, Range}
use Rattle.calc_words.specs.Faults.{fault_of}
use Rattle.calc_words.specs.NumberRuns.{narrow}
use Rattle.calc_words.specs.Reading.{IsFirst}
use Rattle.calc_words.specs.WrittenLimits.{IsWrittenWord}
use Rattle.calc_words.proofs.FirstOffences.{first-kind, first_of_three, lowest, Behind, within}
use Rattle.word_laws.proofs.JudgedRows.{of_kind}
use Rattle.calc_words.proofs.Judging.{narrow_none, narrow_some}
use Rattle.calc_words.proofs.WrittenLists.{inside}
use Rattle.word_laws.proofs.NoOffences.{none_append, none_next}
use Rattle.sym_model.proofs.Lists.{none_chosen}

two_kinds : (k : ℕ) (x y : Bool) (rest : List Offence) → Behind k rest
    → first_offence (map (of_kind k) (when x literal ++ when y range) ++ rest) ≡ first_of_three k x y false (first_offence rest)
two_kinds k true y rest l = first-kind k literal (when y range) rest (λ q m. lowest q) l
two_kinds k false true rest l = first-kind k range [] rest (λ q m. absurd m) l
two_kinds k false false rest l = refl

-- the first i letters of ns, which begin at word `at`, have no error and are stored in `letters`; `heard` lists them, the last one first
pub record Spelling (at : ℕ) (ns : List ℕ) (i : ℕ) (letters : List ℕ) : Type 0 where
  pub heard : List ℕ
  pub count_is : length heard ≡ i
  pub rest_is : offences_by letter_rule at ns ≡ offences_after letter_rule heard (at + i) (drop i ns)
  pub few : i ≤ 256
  pub letters_are : take i letters ≡ take i ns
  pub room : length letters ≡ 256

judged : (at : ℕ) (ns : List ℕ) (i a : ℕ) (letters : List ℕ) (j : Spelling at ns i letters) → i < length ns → get_or ns i 0 ≡ a
    → first_offence (offences_by letter_rule at ns)
    ≡ first_of_three (at + i) (is_wide a) (is_outside greatest_letter a || (i == most_letters)) false
    (first_offence (offences_after letter_rule (a ∷ j.heard) (at + i + 1) (drop (suc i) ns)))
judged at ns i a letters j h e =
    let more = offences_after letter_rule (a ∷ j.heard) (at + i + 1) (drop (suc i) ns) in
    ap first_offence (j.rest_is ∙ ap (offences_after letter_rule j.heard (at + i)) (drop-cons ns i 0 h ∙ ap (λ x. x ∷ drop (suc i) ns) e))
    ∙ two_kinds (at + i) (is_wide a) (is_outside greatest_letter a || (length j.heard == most_letters)) more
    (λ p m. let w = within letter_rule (a ∷ j.heard) (at + i + 1) (drop (suc i) ns) p m in omega arith)
    ∙ ap (λ n. first_of_three (at + i) (is_wide a) (is_outside greatest_letter a || (n == most_letters)) false (first_offence more)) j.count_is

pub wide_in_word : (at : ℕ) (ns : List ℕ) (i a : ℕ) (letters : List ℕ) → Spelling at ns i letters → i < length ns → get_or ns i 0 ≡ a
    → narrow a ≡ None → (fault : WordsFault) → fault ≡ fault_of (at + i) Literal
    → IsFirst (first_offence (offences_by letter_rule at ns)) fault
wide_in_word at ns i a letters j h e w fault f =
    subst (λ r. IsFirst (first_offence (offences_by letter_rule at ns)) r) (sym f)
    (judged at ns i a letters j h e
    ∙ ap (λ b. first_of_three (at + i) b (is_outside greatest_letter a || (i == most_letters)) false
    (first_offence (offences_after letter_rule (a ∷ j.heard) (at + i + 1) (drop (suc i) ns)))) (narrow_none a w))

pub past_in_word : (at : ℕ) (ns : List ℕ) (i a v : ℕ) (letters : List ℕ) → Spelling at ns i letters → i < length ns → get_or ns i 0 ≡ a
    → Some v ≡ narrow a → (is_outside greatest_letter v || (i == most_letters)) ≡ true → (fault : WordsFault) → fault ≡ fault_of (at + i) Range
    → IsFirst (first_offence (offences_by letter_rule at ns)) fault
past_in_word at ns i a v letters j h e w o fault f =
    let n = narrow_some a v w in
    let rest = first_offence (offences_after letter_rule (a ∷ j.heard) (at + i + 1) (drop (suc i) ns)) in
    subst (λ r. IsFirst (first_offence (offences_by letter_rule at ns)) r) (sym f)
    (judged at ns i a letters j h e
    ∙ ap (λ b. first_of_three (at + i) b (is_outside greatest_letter a || (i == most_letters)) false rest) n.0
    ∙ ap (λ b. first_of_three (at + i) false b false rest) (ap (λ x. is_outside greatest_letter x || (i == most_letters)) (sym n.1) ∙ o))

no_kinds : (x y : Bool) → x ≡ false → y ≡ false → when x literal ++ when y range ≡ []
no_kinds x y a b = cc

pub word_goes_on : (at : ℕ) (ns : List ℕ) (i a v : ℕ) (letters : List ℕ) → Spelling at ns i letters → i < length ns → get_or ns i 0 ≡ a
    → Some v ≡ narrow a → (is_outside greatest_letter v || (i == most_letters)) ≡ false → Spelling at ns (i + 1) (set letters i v)
word_goes_on at ns i a v letters j h e w o =
    let n = narrow_some a v w in
    let m = eqb-false i 256 (or_parts (is_outside greatest_letter v) (i == most_letters) o).1 in
    let few : i + 1 ≤ 256 = let x = j.few in omega (arith, x, m) in
    let room = j.room in
    let here : i < length letters = omega (arith, room, few) in
    let y_not : (is_outside greatest_letter v || (length j.heard == most_letters)) ≡ false =
    ap (λ k. is_outside greatest_letter v || (k == most_letters)) j.count_is ∙ o in
    record {
      heard = v ∷ j.heard;
      count_is = let x = j.count_is in omega (arith, x);
      rest_is =
          j.rest_is
          ∙ ap (offences_after letter_rule j.heard (at + i)) (drop-cons ns i 0 h ∙ ap (λ x. x ∷ drop (suc i) ns) (e ∙ sym n.1))
          ∙ ap (λ kinds. map (of_kind (at + i)) kinds ++ offences_after letter_rule (v ∷ j.heard) (at + i + 1) (drop (suc i) ns))
          (no_kinds (is_wide v) (is_outside greatest_letter v || (length j.heard == most_letters)) (ap is_wide n.1 ∙ n.0) y_not)
          ∙ ap (λ k. offences_after letter_rule (v ∷ j.heard) k (drop (suc i) ns)) (let z : at + i + 1 ≡ at + (i + 1) = omega arith in z)
          ∙ ap (λ k. offences_after letter_rule (v ∷ j.heard) (at + (i + 1)) (drop k ns)) (let z : suc i ≡ i + 1 = omega arith in z);
      few = few;
      letters_are =
          take_more_set letters i v here
          ∙ ap (λ xs. xs ++ v ∷ []) j.letters_are
          ∙ ap (λ x. take i ns ++ x ∷ []) (n.1 ∙ sym e)
          ∙ sym (take_more ns i 0 h);
      room = length-set letters i v ∙ j.room;
    }

record Fit (before ns : List ℕ) : Type 0 where
  letters : (b : ℕ) → Among b ns → (1 ≤ b) × (b ≤ greatest_letter)
  few : length before + length ns ≤ 256

letters_fit : (before : List ℕ) (k : ℕ) (ns : List ℕ) → length before ≤ 256 → offences_after letter_rule before k ns ≡ [] → Fit before ns
letters_fit before k [] f h = record { letters = λ b m. absurd m; few = omega arith }
letters_fit before k (a ∷ ns) f h =
    search (rules, none_next, none_append, or_parts, none_chosen, eqb-false, inside, (letters_fit (a ∷ before) (k + 1) ns))

pub written_word : (k : ℕ) (ns : List ℕ) → first_offence (offences_by letter_rule k ns) ≡ None → IsWrittenWord ns
written_word k ns h = search (rules, letters_fit, first_none)
