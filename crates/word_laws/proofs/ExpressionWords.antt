-- Words that are expressions, and the longest prefix of a text that is also the beginning of some expression, found by reading bytes from the left.
use Rattle.std.proofs.Common.{◌≡◌, ℕ, zero, suc, ◌+◌, ◌≤◌, Bool, true, false, cond, List, [], ◌∷◌, length, take, refl, sym, ap, ◌∙◌, subst, arith, Option, Some, None, rules}
use Rattle.std.specs.Prelude.{is_some}
use Rattle.std.proofs.Math.Numerals.{suc-eq-add-one}
use Rattle.sym_model.specs.LongestPrefix.{IsLongestPrefix}
use Rattle.sym_model.specs.Phrase.{Phrase, SpellsPhrase, BeginsExpression}
use Rattle.expression_laws.specs.LeftToRight.{State, dead, at, step, symbol, run, start, phrases, is_live, found}
use Rattle.expression_laws.proofs.PhraseRuns.{found-spelled}
use Rattle.expression_laws.proofs.PhrasePrefixes.{begins-from_live, live-from_begins, spells-from_found, read-dead}
use Rattle.sym_model.specs.Form.{TellsExpressions}
use Rattle.word_laws.specs.Reading.{is_expression, bytes_taken}

the_phrase : (text : List ℕ) (o : Option Phrase) → found phrases (run phrases text start) ≡ o → is_some o ≡ true
    → (phrase : Phrase) × SpellsPhrase text phrase
the_phrase text None e h = cc
the_phrase text (Some phrase) e h = (phrase, spells-from_found text phrase e)

-- `is_expression` is true for a word if and only if the word spells a phrase
pub tells_expressions : TellsExpressions is_expression
tells_expressions = record {
  sound = λ text h. the_phrase text (found phrases (run phrases text start)) refl h;
  complete = λ text phrase h. ap is_some (found-spelled text phrase h);
}

abbrev Live : State Phrase (List ℕ) → List ℕ → Type 0
Live state text = is_live (run phrases text state) ≡ true

live_before : (text : List ℕ) (state : State Phrase (List ℕ)) → Live state text → is_live state ≡ true
live_before text dead h = sym (ap is_live (read-dead text)) ∙ h
live_before text (at p t f o) h = refl

live_longest : (text : List ℕ) (state : State Phrase (List ℕ)) → is_live state ≡ true
    → IsLongestPrefix (Live state) text (bytes_taken state text)
live_longest [] state h = record { within = omega arith; begins = h; longest = λ j k b. k }
live_longest (byte ∷ text) state h =
    by (is_live (step phrases state (symbol byte))) refl (live_longest text (step phrases state (symbol byte)))
  where
    by : (b : Bool) → is_live (step phrases state (symbol byte)) ≡ b
        → (is_live (step phrases state (symbol byte)) ≡ true
        → IsLongestPrefix (Live (step phrases state (symbol byte))) text (bytes_taken (step phrases state (symbol byte)) text))
        → IsLongestPrefix (Live state) (byte ∷ text) (cond b (bytes_taken (step phrases state (symbol byte)) text + 1) 0)
    by false e again = record { within = omega arith; begins = h; longest = longest }
      where
        longest : (j : ℕ) → j ≤ length (byte ∷ text) → Live state (take j (byte ∷ text)) → j ≤ 0
        longest zero k b = omega arith
        longest (suc j) k b = let l = live_before (take j text) (step phrases state (symbol byte)) b in absurd (no e l)
          where
            no : is_live (step phrases state (symbol byte)) ≡ false → is_live (step phrases state (symbol byte)) ≡ true → ⊥
            no p q = cc
    by true e again =
        let a = again e in
        record {
          within = let w = a.within in omega arith;
          begins = subst (λ m. Live state (take m (byte ∷ text))) (suc-eq-add-one (bytes_taken (step phrases state (symbol byte)) text)) a.begins;
          longest = longest a;
        }
      where
        longest : IsLongestPrefix (Live (step phrases state (symbol byte))) text (bytes_taken (step phrases state (symbol byte)) text)
            → (j : ℕ) → j ≤ length (byte ∷ text) → Live state (take j (byte ∷ text))
            → j ≤ bytes_taken (step phrases state (symbol byte)) text + 1
        longest a zero k b = omega arith
        longest a (suc j) k b = let q = a.longest j (omega arith) b in omega arith

-- `bytes_taken` from the state `start` is the length of the longest prefix of the text that is also the beginning of some expression
pub bytes_longest : (text : List ℕ) → IsLongestPrefix BeginsExpression text (bytes_taken start text)
bytes_longest text = search (rules, live_longest, begins-from_live, live-from_begins)
