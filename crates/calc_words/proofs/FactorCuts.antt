-- The words of factors, divided at each `-`.
use Rattle.std.proofs.Common.{◌≡◌, ℕ, true, false, List, [], ◌∷◌, ◌++◌, map, refl, sym, ap, ◌∙◌, subst, inl, inr, flat_map, rules}
use Rattle.std.specs.Prelude.{codes}
use Rattle.std.proofs.lemmas.Bool.{and_parts}
use Rattle.sym_model.specs.Partition.{without_last_zeros}
use Rattle.sym_model.specs.Form.{Written, words_of, May, EachOf, is_digit, are_digits}
use Rattle.sym_model.specs.WordForms.{next_words, factors_words, numbers, partition}
use Rattle.word_laws.specs.Words.{Words}
use Rattle.calc_words.specs.NumberRuns.{IsNumber, BeginsOtherwise}
use Rattle.calc_words.proofs.Commands.{may_be, singles}
use Rattle.calc_words.specs.FactorWords.{IsPieceWord, next_text, BeginsWithDigit}

-- the words are the numbers `second`, followed by the lists of numbers `others`, each after a `-`
pub record Cut (words : Words) : Type 0 where
  pub second : Words
  pub others : List Words
  pub words_are : words ≡ second ++ next_text others
  pub second_numbers : EachOf IsNumber second
  pub other_numbers : EachOf (EachOf IsNumber) others

pub cut : (words : Words) → EachOf IsPieceWord words → Cut words
cut [] e = record { second = []; others = []; words_are = refl; second_numbers = tt; other_numbers = tt }
cut (t ∷ words) e = by e.0 (cut words e.1)
  where
    by : IsPieceWord t → Cut words → Cut (t ∷ words)
    by (inl n) k =
        record {
          second = t ∷ k.second;
          others = k.others;
          words_are = ap (λ ws. t ∷ ws) k.words_are;
          second_numbers = (n, k.second_numbers);
          other_numbers = k.other_numbers;
        }
    by (inr m) k =
        record {
          second = [];
          others = k.second ∷ k.others;
          words_are = ap (λ x. x ∷ words) m ∙ ap (λ ws. codes "-" ∷ ws) k.words_are;
          second_numbers = tt;
          other_numbers = (k.second_numbers, k.other_numbers);
        }

number_begins : (t : List ℕ) → IsNumber t → BeginsWithDigit t
number_begins [] h = cc
number_begins (byte ∷ text) h = (and_parts (is_digit byte) (are_digits text) h).0

pub all_begin : (ns : Words) → EachOf IsNumber ns → EachOf BeginsWithDigit ns
all_begin [] e = tt
all_begin (t ∷ ns) e = (number_begins t e.0, all_begin ns e.1)

pub next_begins : (others : List Words) → BeginsOtherwise BeginsWithDigit (next_text others)
next_begins [] = tt
next_begins (list ∷ others) = λ h. let z : false ≡ true = h in cc

abbrev first_of : List ℕ → Words → List ℕ
first_of text [] = text
first_of text (t ∷ words) = t

abbrev behind_first : Words → Words
behind_first [] = []
behind_first (t ∷ words) = words

-- if each of `ps` and `qs` has the property P, the first of `us` and the first of `vs`, if any, do not have it, and ps ++ us equals qs ++ vs, then ps
-- = qs and us = vs
pub one_run : (P : List ℕ → Type 0) (ps qs us vs : Words) → EachOf P ps → EachOf P qs → BeginsOtherwise P us → BeginsOtherwise P vs
    → ps ++ us ≡ qs ++ vs → (ps ≡ qs) × (us ≡ vs)
one_run P [] [] us vs m n b d e = (refl, e)
one_run P [] (q ∷ qs) us vs m n b d e = absurd (subst (BeginsOtherwise P) e b n.0)
one_run P (p ∷ ps) [] us vs m n b d e = absurd (subst (BeginsOtherwise P) (sym e) d m.0)
one_run P (p ∷ ps) (q ∷ qs) us vs m n b d e = search (rules, (one_run P ps qs us vs m.1 n.1 b d (ap behind_first e)))

-- let words be the numbers `second` followed by the lists `others`, each after a `-`. Then `second` is the longest prefix of the words in which each
-- word begins with a digit
pub run_cut : (words second list rest : Words) (others : List Words) → words ≡ second ++ next_text others → EachOf IsNumber second
    → words ≡ list ++ rest → EachOf BeginsWithDigit list → BeginsOtherwise BeginsWithDigit rest → (second ≡ list) × (rest ≡ next_text others)
run_cut words second list rest others e n f m b =
    let r = one_run BeginsWithDigit second list (next_text others) rest (all_begin second n) m (next_begins others) b (sym e ∙ f) in (r.0, sym r.1)

-- `list` is the first of the lists `others`, and `more` are those after it; `rest` are the words of `more`, each list after a `-`
pub record NextCut (others : List Words) (list rest : Words) : Type 0 where
  pub more : List Words
  pub others_are : others ≡ list ∷ more
  pub rest_are : rest ≡ next_text more
  pub more_numbers : EachOf (EachOf IsNumber) more

pub next_cut : (words later list rest : Words) (others : List Words) → words ≡ next_text others → EachOf (EachOf IsNumber) others
    → words ≡ codes "-" ∷ later → later ≡ list ++ rest → EachOf BeginsWithDigit list → BeginsOtherwise BeginsWithDigit rest → NextCut others list rest
next_cut words later list rest [] e n f g m b = let z = sym e ∙ f in cc
next_cut words later list rest (l ∷ more) e n f g m b =
    let r = run_cut later l list rest more (ap behind_first (sym f ∙ e)) n.0 g m b in
    record { more = more; others_are = ap (λ x. x ∷ more) r.0; rest_are = r.1; more_numbers = n.1 }

-- if the words of the lists `others`, each after a `-`, do not begin with `-`, there are no such lists
pub nothing_behind : (words : Words) (others : List Words) → words ≡ next_text others → BeginsOtherwise (λ t. t ≡ codes "-") words → others ≡ []
nothing_behind words [] e b = refl
nothing_behind words (l ∷ others) e b = absurd (subst (BeginsOtherwise (λ t. t ≡ codes "-")) e b refl)

-- for each of the given lists of number words (words of digits), the value of the form `next_words`, which consists of the word `-` and the list
abbrev as_next : List Words → List (Written next_words)
as_next [] = []
as_next (list ∷ others) = (tt, list) ∷ as_next others

next_allowed : (others : List Words) → EachOf (EachOf IsNumber) others → EachOf (May next_words) (as_next others)
next_allowed [] e = tt
next_allowed (list ∷ others) e = ((tt, may_be list e.0), next_allowed others e.1)

next_spelled : (others : List Words) → flat_map (words_of next_words) (as_next others) ≡ next_text others
next_spelled [] = refl
next_spelled (list ∷ others) = search (rules, singles, (next_spelled others))

pub all_partitions : (others : List Words) → map without_last_zeros (map numbers others) ≡ map partition others
all_partitions [] = refl
all_partitions (list ∷ others) = ap (λ ps. partition list ∷ ps) (all_partitions others)

-- the words have the form of the factors of a product (`factors_words`): two or more lists of numbers with `-` between them
pub record AreWritten (words first second : Words) (others : List Words) : Type 0 where
  pub written : Written factors_words
  pub allowed : May factors_words written
  pub spelled : words ≡ words_of factors_words written

pub are_written : (words first second : Words) (others : List Words) → words ≡ first ++ codes "-" ∷ (second ++ next_text others)
    → EachOf IsNumber first → EachOf IsNumber second → EachOf (EachOf IsNumber) others → AreWritten words first second others
are_written words first second others e f s o =
    record {
      written = (first, ((tt, second), as_next others));
      allowed = (may_be first f, ((tt, may_be second s), next_allowed others o));
      spelled =
          e
          ∙ ap (λ ws. ws ++ codes "-" ∷ (second ++ next_text others)) (sym (singles first))
          ∙ ap (λ ws. flat_map (λ t. t ∷ []) first ++ codes "-" ∷ (ws ++ next_text others)) (sym (singles second))
          ∙ ap (λ ws. flat_map (λ t. t ∷ []) first ++ codes "-" ∷ (flat_map (λ t. t ∷ []) second ++ ws)) (sym (next_spelled others));
    }
