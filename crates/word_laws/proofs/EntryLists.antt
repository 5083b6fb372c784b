-- Laws of lists of commands, from laws of the forms of their words: the place of the first error of syntax, and the one command that words spell.
use Rattle.std.proofs.Common.{◌≡◌, ℕ, ◌<◌, nat_lt, Bool, true, false, not, ◌&&◌, cond, List, [], ◌∷◌, ◌++◌, length, take, refl, sym, ap, ◌∙◌, subst, arith, inl, inr, Option, Some, None, rules}
use Rattle.std.specs.Prelude.{slice_index_or}
use Rattle.std.proofs.lemmas.Bool.{ltb-true, lt-ltb, and_parts, both_ways}
use Rattle.sym_model.specs.LongestPrefix.{IsLongestPrefix}
use Rattle.sym_model.specs.Phrase.{BeginsExpression}
use Rattle.expression_laws.specs.LeftToRight.{start}
use Rattle.sym_model.specs.Form.{Form, Written, SomeOf, Has, Begins, Awaits, is_skippable, after_words, some_awaits_next}
use Rattle.sym_model.specs.Command.{Command}
use Rattle.sym_model.specs.CommandOffence.{Offence, first_offence}
use Rattle.sym_model.specs.Entry.{Entry, SpellsCommand, HasFirstOffence, BeginsCommand}
use Rattle.sym_model.specs.SyntaxPlace.{IsSyntaxByte, IsSyntaxPlace}
use Rattle.word_laws.specs.OneReading.{are_apart, firsts, is_unambiguous, is_told_from, are_unambiguous}
use Rattle.word_laws.specs.Reading.{is_expression, bytes_taken, forms_of, syntax_word, syntax_byte, syntax_place}
use Rattle.word_laws.proofs.LongestPrefixes.{CanBe, HasOne, BeginsOne, taken_longest, whole_sound, whole_complete}
use Rattle.word_laws.proofs.AwaitedExpressions.{awaits_sound, awaits_complete}
use Rattle.word_laws.proofs.Readings.{OnePhrase, told_apart, one_written}
use Rattle.word_laws.proofs.ExpressionWords.{tells_expressions, bytes_longest}
use Rattle.word_laws.specs.Words.{Words}
use Rattle.std.proofs.lemmas.Option.{some_pair_parts}

-- ---- words spell a command of a list if and only if they are of the form of one of its commands

pub of_forms : (P : Form → Type 0) (entries : List Entry) → SomeOf P (forms_of entries) → SomeOf (λ (e : Entry). P e.form) entries
of_forms P [] h = h
of_forms P (e ∷ entries) (inl h) = inl h
of_forms P (e ∷ entries) (inr h) = inr (of_forms P entries h)

pub to_forms : (P : Form → Type 0) (entries : List Entry) → SomeOf (λ (e : Entry). P e.form) entries → SomeOf P (forms_of entries)
to_forms P [] h = h
to_forms P (e ∷ entries) (inl h) = inl h
to_forms P (e ∷ entries) (inr h) = inr (to_forms P entries h)

some_length : (entries : List Entry) → 0 < length entries → 0 < length (forms_of entries)
some_length [] h = h
some_length (e ∷ entries) h = omega arith

pub spells_has : (entries : List Entry) (words : Words) (command : Command) → SpellsCommand entries words command → HasOne (forms_of entries) words
spells_has [] words command h = h
spells_has (e ∷ entries) words command (inl h) = inl h.has
spells_has (e ∷ entries) words command (inr h) = inr (spells_has entries words command h)

pub has_spells : (entries : List Entry) (words : Words) → HasOne (forms_of entries) words → (command : Command) × SpellsCommand entries words command
has_spells [] words h = absurd h
has_spells (e ∷ entries) words (inl h) = (e.says h.written, inl (record { has = h; says_it = refl }))
has_spells (e ∷ entries) words (inr h) = let r = has_spells entries words h in (r.0, inr r.1)

begins_entry : (entries : List Entry) (ws : Words) → BeginsOne (forms_of entries) ws → BeginsCommand entries ws
begins_entry entries ws h = of_forms (λ f. Begins f ws) entries h

prefix_entry : (entries : List Entry) (words : Words) (k : ℕ)
    → IsLongestPrefix (BeginsOne (forms_of entries)) words k → IsLongestPrefix (BeginsCommand entries) words k
prefix_entry entries words k h = record {
  within = h.within;
  begins = begins_entry entries (take k words) h.begins;
  longest = λ j l b. h.longest j l (to_forms (λ f. Begins f (take j words)) entries b);
}

-- `syntax_word` is the length of the longest prefix of the words that is also the beginning of some command
pub word_longest : (entries : List Entry) → CanBe (forms_of entries) → 0 < length entries → (words : Words)
    → IsLongestPrefix (BeginsCommand entries) words (syntax_word entries words)
word_longest entries c n words = search (rules, prefix_entry, taken_longest, tells_expressions, some_length)

pub byte_is : (entries : List Entry) (words : Words) (word : ℕ) → IsSyntaxByte entries words word (syntax_byte entries words word)
byte_is entries words word = by (nat_lt word (length words)) (some_awaits_next (after_words is_expression (forms_of entries) (take word words))) refl refl
  where
    by : (x y : Bool) → nat_lt word (length words) ≡ x
        → some_awaits_next (after_words is_expression (forms_of entries) (take word words)) ≡ y
        → IsSyntaxByte entries words word (cond (x && y) (bytes_taken start (slice_index_or words word [])) 0)
    by true true e k =
        inl (
          record {
            is_there = ltb-true word (length words) e;
            awaited = of_forms (λ f. Awaits f (take word words)) entries
                (awaits_sound is_expression tells_expressions (forms_of entries) (take word words) k);
          },
          bytes_longest (slice_index_or words word []),
        )
    by false y e k =
        inr ((λ h. both_ways (nat_lt word (length words)) e (lt-ltb word (length words) h.is_there)), refl)
    by true false e k =
        inr (
          (λ h.
              both_ways (some_awaits_next (after_words is_expression (forms_of entries) (take word words))) k
              (awaits_complete is_expression tells_expressions (forms_of entries) (take word words)
              (to_forms (λ f. Awaits f (take word words)) entries h.awaited))),
          refl,
        )

-- if `syntax_place` gives a word and a byte, the words spell no command, and their first error of syntax is at this word and byte
pub syntax_sound : (entries : List Entry) → CanBe (forms_of entries) → 0 < length entries → (words : Words) (word byte : ℕ)
    → syntax_place entries words ≡ Some (word, byte) → IsSyntaxPlace entries words word byte
syntax_sound entries c n words word byte h =
    search (rules, some_pair_parts, both_ways, whole_complete, tells_expressions, spells_has, word_longest, byte_is)

-- if `syntax_place` gives no place, the words spell a command
pub command_sound : (entries : List Entry) (words : Words) → syntax_place entries words ≡ None
    → (command : Command) × SpellsCommand entries words command
command_sound entries words h = search (rules, has_spells, whole_sound, tells_expressions)

-- ---- words spell at most one command

not_skippable : (p q : Bool) → not q ≡ true → not (p && q) ≡ true
not_skippable true q h = h
not_skippable false q h = refl

told_one : (f : Form) (entries : List Entry) (words : Words) → is_told_from f (forms_of entries) ≡ true → Has f words
    → HasOne (forms_of entries) words → ⊥
told_one f [] words h k m = m
told_one f (e ∷ entries) words h k (inl m) =
    let p = and_parts (not (is_skippable e.form)) (are_apart (firsts f) (firsts e.form) && is_told_from f (forms_of entries)) h in
    let q = and_parts (are_apart (firsts f) (firsts e.form)) (is_told_from f (forms_of entries)) p.1 in
    told_apart f e.form k.written m.written k.allowed m.allowed [] []
    (ap (λ us. us ++ []) (sym k.spelled ∙ m.spelled))
    q.0
    (not_skippable (is_skippable f) (is_skippable e.form) p.0)
    (λ i. tt)
    (λ i. tt)
told_one f (e ∷ entries) words h k (inr m) =
    let p = and_parts (not (is_skippable e.form)) (are_apart (firsts f) (firsts e.form) && is_told_from f (forms_of entries)) h in
    let q = and_parts (are_apart (firsts f) (firsts e.form)) (is_told_from f (forms_of entries)) p.1 in
    told_one f entries words q.1 k m

pub record Told (e : Entry) (entries : List Entry) : Type 0 where
  pub clear : is_unambiguous e.form ≡ true
  pub apart : is_told_from e.form (forms_of entries) ≡ true
  pub others : are_unambiguous (forms_of entries) ≡ true

told : (e : Entry) (entries : List Entry) → are_unambiguous (forms_of (e ∷ entries)) ≡ true → Told e entries
told e entries h = search rules

only_has : {B : Type 0} (f : (e : Entry) → Written e.form → B) (words : Words) (b : B) (entries : List Entry)
    → SomeOf (λ (e : Entry). (h : Has e.form words) × (b ≡ f e h.written)) entries → HasOne (forms_of entries) words
only_has f words b [] k = k
only_has f words b (g ∷ entries) (inl k) = inl k.0
only_has f words b (g ∷ entries) (inr k) = inr (only_has f words b entries k)

-- let each word spell at most one phrase, and let the entries be unambiguous: if the given words are of the form of an entry e, and x is the value
-- that they denote in this form, then f e x is the same for every such e
pub said_once : {B : Type 0} → OnePhrase → (f : (e : Entry) → Written e.form → B) (entries : List Entry) → are_unambiguous (forms_of entries) ≡ true
    → (words : Words) (b d : B)
    → SomeOf (λ (e : Entry). (h : Has e.form words) × (b ≡ f e h.written)) entries
    → SomeOf (λ (e : Entry). (h : Has e.form words) × (d ≡ f e h.written)) entries → b ≡ d
said_once one f [] u words b d h k = absurd h
said_once one f (e ∷ entries) u words b d (inl h) (inl k) =
    h.1 ∙ ap (f e) (one_written one e.form (told e entries u).clear words h.0 k.0) ∙ sym k.1
said_once one f (e ∷ entries) u words b d (inl h) (inr k) =
    absurd (told_one e.form entries words (told e entries u).apart h.0 (only_has f words d entries k))
said_once one f (e ∷ entries) u words b d (inr h) (inl k) =
    absurd (told_one e.form entries words (told e entries u).apart k.0 (only_has f words b entries h))
said_once one f (e ∷ entries) u words b d (inr h) (inr k) =
    said_once one f entries (told e entries u).others words b d h k

spelled_pairs : (entries : List Entry) (words : Words) (c : Command) → SpellsCommand entries words c
    → SomeOf (λ (e : Entry). (h : Has e.form words) × (c ≡ e.says h.written)) entries
spelled_pairs [] words c h = h
spelled_pairs (e ∷ entries) words c (inl h) = inl (h.has, h.says_it)
spelled_pairs (e ∷ entries) words c (inr h) = inr (spelled_pairs entries words c h)

offence_pairs : (entries : List Entry) (words : Words) (o : Option Offence) → HasFirstOffence entries words o
    → SomeOf (λ (e : Entry). (h : Has e.form words) × (o ≡ first_offence (e.offends h.written))) entries
offence_pairs [] words o h = h
offence_pairs (e ∷ entries) words o (inl h) = inl (h.has, h.first_is)
offence_pairs (e ∷ entries) words o (inr h) = inr (offence_pairs entries words o h)

pub one_command : OnePhrase → (entries : List Entry) → are_unambiguous (forms_of entries) ≡ true → (words : Words) (c d : Command)
    → SpellsCommand entries words c → SpellsCommand entries words d → c ≡ d
one_command one entries u words c d h k =
    said_once one (λ e x. e.says x) entries u words c d (spelled_pairs entries words c h) (spelled_pairs entries words d k)

pub one_offence : OnePhrase → (entries : List Entry) → are_unambiguous (forms_of entries) ≡ true → (words : Words) (o p : Option Offence)
    → HasFirstOffence entries words o → HasFirstOffence entries words p → o ≡ p
one_offence one entries u words o p h k =
    said_once one (λ e x. first_offence (e.offends x)) entries u words o p (offence_pairs entries words o h) (offence_pairs entries words p k)

one_length : {A : Type 0} (P : List A → Type 0) (xs : List A) (k j : ℕ) → IsLongestPrefix P xs k → IsLongestPrefix P xs j → k ≡ j
one_length P xs k j h l = search rules

-- given words have at most one place of the first error of syntax
pub one_place : (entries : List Entry) (words : Words) (word byte other at : ℕ)
    → IsSyntaxPlace entries words word byte → IsSyntaxPlace entries words other at → (word ≡ other) × (byte ≡ at)
one_place entries words word byte other at h k =
    let same = one_length (BeginsCommand entries) words word other h.word_is k.word_is in
    (same, by h.byte_is (subst (λ w. IsSyntaxByte entries words w at) (sym same) k.byte_is))
  where
    by : IsSyntaxByte entries words word byte → IsSyntaxByte entries words word at → byte ≡ at
    by (inl p) (inl q) = one_length BeginsExpression (slice_index_or words word []) byte at p.1 q.1
    by (inl p) (inr q) = absurd (q.0 p.0)
    by (inr p) (inl q) = absurd (p.0 q.0)
    by (inr p) (inr q) = p.1 ∙ sym q.1
