-- The values of the parts of a command, from the words of these parts.
use Rattle.std.proofs.Common.{◌≡◌, ℕ, ◌==◌, Bool, not, List, [], ◌∷◌, ◌++◌, map, length, refl, sym, ap, ◌∙◌, subst, arith, Result, inl, inr, flat_map}
use Rattle.std.specs.Prelude.{codes}
use Rattle.sym_model.specs.Partition.{without_last_zeros}
use Rattle.sym_model.specs.Permutation.{kept}
use Rattle.sym_model.specs.CommandOffence.{first_offence, offences_by, letter_rule, part_offences, permutation_offences_within, factor_offences}
use Rattle.sym_model.specs.Form.{Written, May, words_of, word, number, EachOf}
use Rattle.sym_model.specs.WordForms.{optional, form_words, is_one_line, partition_words, permutation_words, next_words, factors_words, numbers, partition, letters, factors, factor_numbers}
use Rattle.word_laws.specs.Words.{Words}
use Rattle.word_laws.proofs.Classes.{number_complete}
use Rattle.calc_base.specs.declared.words.WordsFault.{WordsFault}
use Rattle.calc_words.specs.NumberRuns.{IsNumber, BeginsOtherwise}
use Rattle.calc_words.specs.Reading.{IsJudged}
use Rattle.calc_words.specs.FactorWords.{next_text, BeginsWithDigit}
use Rattle.calc_words.proofs.Commands.{singles}
use Rattle.calc_words.proofs.FactorCuts.{all_begin, next_begins, one_run, all_partitions}
use Rattle.sym_model.proofs.Numbers.{positive-test}

pub shape_judged : (at k : ℕ) (ws : Words) (x : Written partition_words) (r : Result (List ℕ) WordsFault) → at ≡ k → ws ≡ words_of partition_words x
    → IsJudged (λ p. p ≡ partition ws) (first_offence (part_offences at (numbers ws))) r
    → IsJudged (λ p. p ≡ partition x) (first_offence (part_offences k (numbers x))) r
shape_judged at k ws x r a e h =
    subst (λ n. IsJudged (λ (p : List ℕ). p ≡ partition x) (first_offence (part_offences n (numbers x))) r) a
    (subst (λ us. IsJudged (λ (p : List ℕ). p ≡ partition us) (first_offence (part_offences at (numbers us))) r) (e ∙ singles x) h)

pub letters_judged : (most at k : ℕ) (ws : Words) (x : Written permutation_words) (r : Result (List ℕ) WordsFault) → at ≡ k → ws ≡ words_of permutation_words x
    → IsJudged (λ w. w ≡ kept (numbers ws)) (first_offence (permutation_offences_within most at (numbers ws))) r
    → IsJudged (λ w. w ≡ kept (letters x)) (first_offence (permutation_offences_within most k (letters x))) r
letters_judged most at k ws (t, ts) r a e h =
    subst (λ n. IsJudged (λ (w : List ℕ). w ≡ kept (numbers (t ∷ ts))) (first_offence (permutation_offences_within most n (numbers (t ∷ ts)))) r) a
    (subst (λ us. IsJudged (λ (w : List ℕ). w ≡ kept (numbers us)) (first_offence (permutation_offences_within most at (numbers us))) r)
    (e ∙ ap (λ us. t ∷ us) (singles ts)) h)

pub word_judged : (at k : ℕ) (ws : Words) (x : Written partition_words) (r : Result (List ℕ) WordsFault) → at ≡ k → ws ≡ words_of partition_words x
    → IsJudged (λ w. w ≡ numbers ws) (first_offence (offences_by letter_rule at (numbers ws))) r
    → IsJudged (λ w. w ≡ numbers x) (first_offence (offences_by letter_rule k (numbers x))) r
word_judged at k ws x r a e h =
    subst (λ n. IsJudged (λ (w : List ℕ). w ≡ numbers x) (first_offence (offences_by letter_rule n (numbers x))) r) a
    (subst (λ us. IsJudged (λ (w : List ℕ). w ≡ numbers us) (first_offence (offences_by letter_rule at (numbers us))) r) (e ∙ singles x) h)

-- ---- the factors that the words of a part denote

abbrev lists_of : List (Written next_words) → List Words
lists_of [] = []
lists_of (x ∷ xs) = x.1 ∷ lists_of xs

next_spelled : (xs : List (Written next_words)) → flat_map (words_of next_words) xs ≡ next_text (lists_of xs)
next_spelled [] = refl
next_spelled (x ∷ xs) =
    ap (λ ws. codes "-" ∷ (ws ++ flat_map (words_of next_words) xs)) (singles x.1) ∙ ap (λ ws. codes "-" ∷ (x.1 ++ ws)) (next_spelled xs)

next_numbers : (xs : List (Written next_words)) → map (λ (next : Written next_words). numbers next.1) xs ≡ map numbers (lists_of xs)
next_numbers [] = refl
next_numbers (x ∷ xs) = ap (λ ns. numbers x.1 ∷ ns) (next_numbers xs)

pub are_numbers : (ws : Words) → EachOf (May (word number)) ws → EachOf IsNumber ws
are_numbers [] e = tt
are_numbers (w ∷ ws) e = (number_complete w e.0, are_numbers ws e.1)

next_are_numbers : (xs : List (Written next_words)) → EachOf (May next_words) xs → EachOf (EachOf IsNumber) (lists_of xs)
next_are_numbers [] e = tt
next_are_numbers (x ∷ xs) e = (are_numbers x.1 e.0.1, next_are_numbers xs e.1)

pub factors_judged : (at k : ℕ) (ws first rest later : Words) (x : Written factors_words) (r : Result (List (List ℕ)) WordsFault) → May factors_words x → at ≡ k
    → ws ≡ words_of factors_words x → ws ≡ first ++ rest → EachOf BeginsWithDigit first → BeginsOtherwise BeginsWithDigit rest
    → ((more : Words) → rest ≡ codes "-" ∷ more → later ≡ more)
    → ((second : Words) (others : List Words) → later ≡ second ++ next_text others → EachOf IsNumber second → EachOf (EachOf IsNumber) others
    → IsJudged (λ f. f ≡ partition first ∷ partition second ∷ map partition others)
    (first_offence (factor_offences 0 at (numbers first ∷ numbers second ∷ map numbers others))) r)
    → IsJudged (λ f. f ≡ factors x) (first_offence (factor_offences 0 k (factor_numbers x))) r
factors_judged at k ws first rest later (one, (second, others)) r m a e f n b l h =
    let two = second.1 in
    let lists = lists_of others in
    let spelled : ws ≡ one ++ next_text (two ∷ lists) =
    e
    ∙ ap (λ us. us ++ (codes "-" ∷ (flat_map (λ t. t ∷ []) two ++ flat_map (words_of next_words) others))) (singles one)
    ∙ ap (λ us. one ++ (codes "-" ∷ (us ++ flat_map (words_of next_words) others))) (singles two)
    ∙ ap (λ us. one ++ (codes "-" ∷ (two ++ us))) (next_spelled others) in
    let runs = one_run BeginsWithDigit first one rest (next_text (two ∷ lists)) n (all_begin one (are_numbers one m.0)) b (next_begins (two ∷ lists)) (sym f ∙ spelled) in
    let judged = h two lists (l (two ++ next_text lists) runs.1) (are_numbers two m.1.0.1) (next_are_numbers others m.1.1) in
    let numbers_are : factor_numbers (one, (second, others)) ≡ numbers one ∷ numbers two ∷ map numbers lists =
    ap (λ ns. numbers one ∷ numbers two ∷ ns) (next_numbers others) in
    let factors_are : factors (one, (second, others)) ≡ partition one ∷ partition two ∷ map partition lists =
    ap (map without_last_zeros) numbers_are ∙ ap (λ ps. partition one ∷ partition two ∷ ps) (all_partitions lists) in
    subst (λ i. IsJudged (λ (g : List (List ℕ)). g ≡ factors (one, (second, others))) (first_offence (factor_offences 0 i (factor_numbers (one, (second, others))))) r) a
    (subst (λ fs. IsJudged (λ (g : List (List ℕ)). g ≡ fs) (first_offence (factor_offences 0 at (factor_numbers (one, (second, others))))) r) (sym factors_are)
    (subst (λ ns. IsJudged (λ (g : List (List ℕ)). g ≡ partition one ∷ partition two ∷ map partition lists) (first_offence (factor_offences 0 at ns)) r) (sym numbers_are)
    (subst (λ us. IsJudged (λ (g : List (List ℕ)). g ≡ partition us ∷ partition two ∷ map partition lists)
    (first_offence (factor_offences 0 at (numbers us ∷ numbers two ∷ map numbers lists))) r) runs.0 judged)))

-- let ws be the words of the option `-m`, or no word if it is not given: the option is given if and only if ws is not empty
pub form_said : {A : Type 0} (f : A → List ℕ) (ws : List A) (x : Written (optional form_words)) (b : Bool) → map f ws ≡ words_of (optional form_words) x
    → b ≡ (length ws == 0) → not b ≡ is_one_line x
form_said f [] (inl y) b e h = ap not h
form_said f [] (inr y) b e h = cc
form_said f (w ∷ ws) (inl y) b e h = cc
form_said f (w ∷ ws) (inr y) b e h = ap not (h ∙ positive-test (length (w ∷ ws)) (omega arith))
