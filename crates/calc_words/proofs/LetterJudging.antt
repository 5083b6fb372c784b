-- The test of the letters of a permutation, one letter after another.
use Rattle.std.proofs.lemmas.Grind.{common_steps}
use Rattle.std.proofs.Common.{◌≡◌, ℕ, suc, ◌+◌, ◌<◌, ◌≤◌, ◌==◌, nat_lt, false, ◌||◌, List, [], ◌∷◌, ◌++◌, map, length, length-append, take, drop, get_or, drop-cons, refl, sym, ap, ◌∙◌, subst, arith, Some, None}
use Rattle.std.proofs.lemmas.Bool.{eqb-false, or_parts}
use Rattle.std.proofs.Math.ListN.{drop_of_length-le, set, length-set}
use Rattle.std.proofs.lemmas.List.{take_more, take_more_set}
use Rattle.sym_model.specs.ExpressionOffence.{is_wide}
use Rattle.sym_model.specs.CommandOffence.{first_offence, permutation_offences_within, permutation_rule_within, offences_after, is_outside, stands_in}
use Rattle.calc_base.specs.declared.words.WordsFault.{WordsFault}
use Rattle.expression_reading.specs.declared.offence.Kind.{Kind}
use Rattle.expression_reading.specs.declared.offence.Kind.TheVariants.{Literal}
use Rattle.calc_words.specs.Faults.{fault_of}
use Rattle.calc_words.specs.LetterRules.{letter_kind}
use Rattle.calc_words.specs.NumberRuns.{narrow}
use Rattle.calc_words.specs.Reading.{IsFirst}
use Rattle.calc_words.proofs.FirstOffences.{first_of_three, three_kinds_left, within}
use Rattle.word_laws.proofs.JudgedRows.{of_kind}
use Rattle.calc_words.proofs.Judging.{narrow_none, narrow_some, kind_judged, no_kinds, none_kinds}
use Rattle.sym_model.proofs.Numbers.{or_left_comm}

-- the first i letters of ns, which begin at word `at`, have no error and are stored in `letters`; `heard` lists them, the last one first
pub record Hearing (most at : ℕ) (ns : List ℕ) (i : ℕ) (letters : List ℕ) : Type 0 where
  pub heard : List ℕ
  pub count_is : length heard ≡ i
  pub rest_is : permutation_offences_within most at ns ≡ offences_after (permutation_rule_within most (length ns)) heard (at + i) (drop i ns)
  pub few : i ≤ most
  pub letters_are : take i letters ≡ take i ns
  pub heard_are : (a : ℕ) → stands_in a heard ≡ stands_in a (take i letters)
  pub length_is : length (take i letters) ≡ i
  pub room : length letters ≡ 16

judged : (most at : ℕ) (ns : List ℕ) (i a : ℕ) (letters : List ℕ) (j : Hearing most at ns i letters) → i < length ns → get_or ns i 0 ≡ a
    → first_offence (permutation_offences_within most at ns)
    ≡ first_of_three (at + i) (is_wide a) (nat_lt most a || (length (take i letters) == most))
    (is_outside (length ns) a || stands_in a (take i letters))
    (first_offence (offences_after (permutation_rule_within most (length ns)) (a ∷ j.heard) (at + i + 1) (drop (suc i) ns)))
judged most at ns i a letters j h e =
    let rule = permutation_rule_within most (length ns) in
    let more = offences_after rule (a ∷ j.heard) (at + i + 1) (drop (suc i) ns) in
    ap first_offence (j.rest_is ∙ ap (offences_after rule j.heard (at + i)) (drop-cons ns i 0 h ∙ ap (λ x. x ∷ drop (suc i) ns) e))
    ∙ three_kinds_left (at + i) (is_wide a) (nat_lt most a || (length j.heard == most)) (is_outside (length ns) a || stands_in a j.heard) more
    (λ p m. let w = within rule (a ∷ j.heard) (at + i + 1) (drop (suc i) ns) p m in omega arith)
    ∙ ap (λ n. first_of_three (at + i) (is_wide a) (nat_lt most a || (n == most)) (is_outside (length ns) a || stands_in a j.heard) (first_offence more))
    (j.count_is ∙ sym j.length_is)
    ∙ ap (λ b. first_of_three (at + i) (is_wide a) (nat_lt most a || (length (take i letters) == most)) (is_outside (length ns) a || b) (first_offence more))
    (j.heard_are a)

-- if the first i letters have no error and the next letter a exceeds 2^127 - 1, the fault `Literal` at the word of a reports the first error
pub wide_letter : (most at : ℕ) (ns : List ℕ) (i a : ℕ) (letters : List ℕ) → Hearing most at ns i letters → i < length ns → get_or ns i 0 ≡ a
    → narrow a ≡ None → (fault : WordsFault) → fault ≡ fault_of (at + i) Literal
    → IsFirst (first_offence (permutation_offences_within most at ns)) fault
wide_letter most at ns i a letters j h e w fault f =
    subst (λ r. IsFirst (first_offence (permutation_offences_within most at ns)) r) (sym f)
    (judged most at ns i a letters j h e
    ∙ ap (λ b. first_of_three (at + i) b (nat_lt most a || (length (take i letters) == most)) (is_outside (length ns) a || stands_in a (take i letters))
    (first_offence (offences_after (permutation_rule_within most (length ns)) (a ∷ j.heard) (at + i + 1) (drop (suc i) ns)))) (narrow_none a w))

-- let the first i letters have no error, and let the next letter be at most 2^127 - 1. If this letter has an error of some kind, the fault of this
-- kind at its word reports the first error.
pub letter_first : (most at : ℕ) (ns : List ℕ) (i a v : ℕ) (letters : List ℕ) → Hearing most at ns i letters → i < length ns → get_or ns i 0 ≡ a
    → Some v ≡ narrow a → (kind : Kind) → Some kind ≡ letter_kind most (length ns) (take i letters) v → (fault : WordsFault) → fault ≡ fault_of (at + i) kind
    → IsFirst (first_offence (permutation_offences_within most at ns)) fault
letter_first most at ns i a v letters j h e w kind k fault f =
    let n = narrow_some a v w in
    let y = nat_lt most a || (length (take i letters) == most) in
    let z = is_outside (length ns) a || stands_in a (take i letters) in
    let rest = first_offence (offences_after (permutation_rule_within most (length ns)) (a ∷ j.heard) (at + i + 1) (drop (suc i) ns)) in
    subst (λ r. IsFirst (first_offence (permutation_offences_within most at ns)) r) (sym f)
    (kind_judged (at + i) y z rest (first_offence (permutation_offences_within most at ns)) kind
    (judged most at ns i a letters j h e ∙ ap (λ b. first_of_three (at + i) b y z rest) n.0)
    (k ∙ ap (letter_kind most (length ns) (take i letters)) n.1))

stands_last : (a v : ℕ) (xs : List ℕ) → stands_in a (xs ++ v ∷ []) ≡ ((a == v) || stands_in a xs)
stands_last a v [] = refl
stands_last a v (x ∷ xs) = ap (λ b. (a == x) || b) (stands_last a v xs) ∙ or_left_comm (a == x) (a == v) (stands_in a xs)

-- if most ≤ 16, and the first i letters and the next letter v have no error, then the first i + 1 letters have no error, with v stored after the
-- first i
pub letter_goes_on : (most at : ℕ) (ns : List ℕ) (i a v : ℕ) (letters : List ℕ) → most ≤ 16 → Hearing most at ns i letters → i < length ns → get_or ns i 0 ≡ a
    → Some v ≡ narrow a → letter_kind most (length ns) (take i letters) v ≡ None → Hearing most at ns (i + 1) (set letters i v)
letter_goes_on most at ns i a v letters low j h e w k =
    let n = narrow_some a v w in
    let rule = permutation_rule_within most (length ns) in
    let r = none_kinds (nat_lt most v || (length (take i letters) == most)) (is_outside (length ns) v || stands_in v (take i letters)) k in
    let here_few = or_parts (nat_lt most v) (length (take i letters) == most) r.0 in
    let few : i + 1 ≤ most = let x = j.few in let l = j.length_is in let m = eqb-false (length (take i letters)) most here_few.1 in omega (arith, x, l, m) in
    let room = j.room in
    let here : i < length letters = omega (arith, room, few, low) in
    let y_not : (nat_lt most v || (length j.heard == most)) ≡ false =
    ap (λ m. nat_lt most v || (m == most)) (j.count_is ∙ sym j.length_is) ∙ r.0 in
    let z_not : (is_outside (length ns) v || stands_in v j.heard) ≡ false = ap (λ b. is_outside (length ns) v || b) (j.heard_are v) ∙ r.1 in
    let more = take_more_set letters i v here in
    record {
      heard = v ∷ j.heard;
      count_is = let x = j.count_is in omega (arith, x);
      rest_is =
          j.rest_is
          ∙ ap (offences_after rule j.heard (at + i)) (drop-cons ns i 0 h ∙ ap (λ x. x ∷ drop (suc i) ns) (e ∙ sym n.1))
          ∙ ap (λ kinds. map (of_kind (at + i)) kinds ++ offences_after rule (v ∷ j.heard) (at + i + 1) (drop (suc i) ns))
          (no_kinds (is_wide v) (nat_lt most v || (length j.heard == most)) (is_outside (length ns) v || stands_in v j.heard)
          (ap is_wide n.1 ∙ n.0) y_not z_not)
          ∙ ap (λ m. offences_after rule (v ∷ j.heard) m (drop (suc i) ns)) (let z : at + i + 1 ≡ at + (i + 1) = omega arith in z)
          ∙ ap (λ m. offences_after rule (v ∷ j.heard) (at + (i + 1)) (drop m ns)) (let z : suc i ≡ i + 1 = omega arith in z);
      few = few;
      letters_are = more ∙ ap (λ xs. xs ++ v ∷ []) j.letters_are ∙ ap (λ x. take i ns ++ x ∷ []) (n.1 ∙ sym e) ∙ sym (take_more ns i 0 h);
      heard_are = λ b. ap (λ t. (b == v) || t) (j.heard_are b) ∙ sym (stands_last b v (take i letters)) ∙ sym (ap (stands_in b) more);
      length_is = ap length more ∙ length-append (take i letters) (v ∷ []) ∙ (let l = j.length_is in omega (arith, l));
      room = length-set letters i v ∙ j.room;
    }

-- if all letters of the list have been tested without an error, the list has no error
pub letters_end : (most at : ℕ) (ns : List ℕ) (i : ℕ) (letters : List ℕ) → Hearing most at ns i letters → length ns ≤ i
    → first_offence (permutation_offences_within most at ns) ≡ None
letters_end most at ns i letters j h =
    ap first_offence (j.rest_is ∙ ap (offences_after (permutation_rule_within most (length ns)) j.heard (at + i)) (drop_of_length-le ns h))

pub all_letters : (most at : ℕ) (ns : List ℕ) (i : ℕ) (letters : List ℕ) → Hearing most at ns i letters → length ns ≤ i → i ≤ length ns
    → take (length ns) letters ≡ ns
all_letters most at ns i letters j h k = grind (arith, common_steps)
