-- The first error of a list of factors, read one factor after another.
use Rattle.std.proofs.Common.{◌≡◌, ℕ, ◌+◌, ◌-◌, ◌<◌, ◌≤◌, ◌==◌, Bool, true, false, cond, List, [], ◌∷◌, ◌++◌, append_assoc, map, length, length-append, ap, ◌∙◌, arith, ◌⊎◌, inl, inr, Result, Some, None, rules}
use Rattle.std.proofs.lemmas.List.{length-map}
use Rattle.sym_model.specs.Sum.{Among}
use Rattle.sym_model.proofs.Sums.{Among_from_append}
use Rattle.sym_model.specs.PrintedBlock.{decimal_value}
use Rattle.sym_model.specs.ExpressionOffence.{range}
use Rattle.sym_model.specs.CommandOffence.{Offence, first_offence, part_offences, part_rule, factor_offences, most_factors}
use Rattle.sym_model.specs.Grammar.{two_partitions}
use Rattle.sym_model.specs.WordForms.{numbers, partition}
use Rattle.word_laws.specs.Words.{Words}
use Rattle.calc_base.specs.declared.words.WordsFault.{WordsFault}
use Rattle.calc_words.specs.Reading.{IsJudged, IsFirst}
use Rattle.calc_words.proofs.FirstOffences.{within, AllBefore, first-head, no_later_word}
use Rattle.calc_words.proofs.Commands.{judged_err, judged_next}
use Rattle.calc_words.specs.ReadProducts.{ninth_offences}

the_ninth : (ninth : Bool) (o p : Offence) → Among p (cond ninth (o ∷ []) []) → p ≡ o
the_ninth true o p (inl e) = e
the_ninth true o p (inr m) = absurd m
the_ninth false o p m = absurd m

ninth_word : (count word : ℕ) (p : Offence) → Among p (ninth_offences count word) → p.0 ≡ word
ninth_word count word p m = ap (λ (q : Offence). q.0) (the_ninth (count == most_factors) (word, 0, range) p m)

factor_within : (count k : ℕ) (ns : List (List ℕ)) (p : Offence) → Among p (factor_offences count k ns) → k ≤ p.0 + 1
factor_within count k [] p m = absurd m
factor_within count k (n ∷ ns) p m =
    by (Among_from_append p (ninth_offences count (k - 1) ++ part_offences k n) (factor_offences (count + 1) (k + length n + 1) ns) m)
    (factor_within (count + 1) (k + length n + 1) ns p)
  where
    here : Among p (ninth_offences count (k - 1)) ⊎ Among p (part_offences k n) → k ≤ p.0 + 1
    here (inl a) = let e = ninth_word count (k - 1) p a in omega (arith, e)
    here (inr a) = let w = within part_rule [] k n p a in let l = w.0 in omega (arith, l)

    by : Among p (ninth_offences count (k - 1) ++ part_offences k n) ⊎ Among p (factor_offences (count + 1) (k + length n + 1) ns)
        → (Among p (factor_offences (count + 1) (k + length n + 1) ns) → k + length n + 1 ≤ p.0 + 1) → k ≤ p.0 + 1
    by (inl a) r = here (Among_from_append p (ninth_offences count (k - 1)) (part_offences k n) a)
    by (inr a) r = let w = r a in omega (arith, w)

-- if the first factor of a product begins at word k, each error of its factors is at word k or later
pub factors_from : (k : ℕ) (n : List ℕ) (ns : List (List ℕ)) (p : Offence) → Among p (factor_offences 0 k (n ∷ ns)) → k ≤ p.0
factors_from k n ns p m = by (Among_from_append p (part_offences k n) (factor_offences 1 (k + length n + 1) ns) m)
  where
    by : Among p (part_offences k n) ⊎ Among p (factor_offences 1 (k + length n + 1) ns) → k ≤ p.0
    by (inl a) = (within part_rule [] k n p a).0
    by (inr a) = let w = factor_within 1 (k + length n + 1) ns p a in omega (arith, w)

-- the errors of the factor with the number words (words of digits) `list`, which follows `count` other factors: the error of a ninth factor, at the
-- word `at` in front of `list`, and the errors of the numbers
abbrev next_offences : ℕ → ℕ → Words → List Offence
next_offences count at list = ninth_offences count at ++ part_offences (at + 1) (numbers list)

abbrev rest_offences : ℕ → ℕ → Words → List Words → List Offence
rest_offences count at list more = factor_offences (count + 1) (at + 1 + length (numbers list) + 1) (map numbers more)

next_before : (count at : ℕ) (list : Words) (more : List Words) → AllBefore (next_offences count at list) (rest_offences count at list more)
next_before count at list more p q m n = search (rules, factor_within, ninth_word, within)

next_is : (count at : ℕ) (list : Words) (more : List Words)
    → factor_offences count (at + 1) (map numbers (list ∷ more)) ≡ next_offences count at list ++ rest_offences count at list more
next_is count at list more = search rules

-- if `count`, the number of earlier factors, is 8, the first error of the factor `list` is that of a ninth factor, at the word `at` in front of
-- `list`
pub ninth_first : (count at : ℕ) (list : Words) → (count == most_factors) ≡ true → first_offence (next_offences count at list) ≡ Some (at, 0, range)
ninth_first count at list h =
    ap (λ b. first_offence (cond b ((at, 0, range) ∷ []) [] ++ part_offences (at + 1) (numbers list))) h
    ∙ first-head (at, 0, range) (part_offences (at + 1) (numbers list))
    (λ p m. no_later_word (at, 0, range) p (let w = within part_rule [] (at + 1) (numbers list) p m in let l = w.0 in omega (arith, l)))

-- if the next factor, `list`, has an error, a fault that reports its first error reports the first error of this factor and the factors `more` after
-- it
pub next_faulty : (count at : ℕ) (list : Words) (more : List Words) (fault : WordsFault)
    → IsFirst (first_offence (next_offences count at list)) fault
    → IsFirst (first_offence (factor_offences count (at + 1) (map numbers (list ∷ more)))) fault
next_faulty count at list more fault h = search (rules, next_is, judged_err, next_before)

-- if the next factor, `list`, has no error, a correct result of reading the factors `more` after it is a correct result of reading `list` and `more`
pub next_fine : (factors next : List (List ℕ)) (at after : ℕ) (list : Words) (more : List Words) (r : Result (List (List ℕ)) WordsFault)
    → next ≡ factors ++ partition list ∷ [] → after ≡ at + 1 + length list → first_offence (next_offences (length factors) at list) ≡ None
    → IsJudged (λ f. f ≡ next ++ map partition more) (first_offence (factor_offences (length next) (after + 1) (map numbers more))) r
    → IsJudged (λ f. f ≡ factors ++ map partition (list ∷ more)) (first_offence (factor_offences (length factors) (at + 1) (map numbers (list ∷ more)))) r
next_fine factors next at after list more r e f n h = search (rules, length-map, length-append, append_assoc, next_is, judged_next)

-- the errors of the factors `first`, `second` and `others` are the errors of the two partitions `first` and `second`, followed by the errors of
-- `others` as factors that follow two factors
pub two_are : (at : ℕ) (first second : Words) (others : List Words)
    → factor_offences 0 at (numbers first ∷ numbers second ∷ map numbers others)
    ≡ two_partitions at first second ++ factor_offences 2 (at + length first + 1 + length second + 1) (map numbers others)
two_are at first second others = search (rules, length-map, append_assoc)

two_end : (at : ℕ) (first second : Words) (p : Offence) → Among p (two_partitions at first second) → p.0 < at + length first + 1 + length second
two_end at first second p m =
    by (Among_from_append p (part_offences at (numbers first)) (part_offences (at + length first + 1) (numbers second)) m)
  where
    by : Among p (part_offences at (numbers first)) ⊎ Among p (part_offences (at + length first + 1) (numbers second))
        → p.0 < at + length first + 1 + length second
    by (inl a) =
        let w = within part_rule [] at (numbers first) p a in
        let l = length-map first decimal_value in
        let u = w.1 in
        omega (arith, u, l)
    by (inr a) =
        let w = within part_rule [] (at + length first + 1) (numbers second) p a in
        let l = length-map second decimal_value in
        let u = w.1 in
        omega (arith, u, l)

two_before : (at : ℕ) (first second : Words) (others : List Words)
    → AllBefore (two_partitions at first second) (factor_offences 2 (at + length first + 1 + length second + 1) (map numbers others))
two_before at first second others p q m n = search (rules, two_end, factor_within)

pub two_faulty : (at : ℕ) (first second : Words) (others : List Words) (fault : WordsFault)
    → IsFirst (first_offence (two_partitions at first second)) fault
    → IsFirst (first_offence (factor_offences 0 at (numbers first ∷ numbers second ∷ map numbers others))) fault
two_faulty at first second others fault h = search (rules, two_are, judged_err, two_before)

pub two_fine : {B : Type 0} (Q : B → Type 0) (at after : ℕ) (first second : Words) (others : List Words) (r : Result B WordsFault)
    → after ≡ at + length first + 1 + length second → first_offence (two_partitions at first second) ≡ None
    → IsJudged Q (first_offence (factor_offences 2 (after + 1) (map numbers others))) r
    → IsJudged Q (first_offence (factor_offences 0 at (numbers first ∷ numbers second ∷ map numbers others))) r
two_fine Q at after first second others r e n h = search (rules, two_are, judged_next)
