-- For unambiguous commands, all correct results of reading given words are the same, unless memory runs out: a command, a first error, or a place of
-- the first error of syntax.
use Rattle.std.proofs.Common.{◌≡◌, ℕ, ◌<◌, ◌==◌, true, false, List, [], ◌∷◌, map, length, arith, refl, sym, ap, ◌∙◌, Option, Some, None, Result, Ok, Err, inl, inr}
use Rattle.std.proofs.lemmas.Bool.{eqb-true, eqb-false}
use Rattle.sym_model.specs.Command.{Command}
use Rattle.sym_model.specs.CommandOffence.{Offence}
use Rattle.sym_model.specs.Entry.{Entry, SpellsCommand, HasFirstOffence, SpellsWithoutOffence}
use Rattle.sym_model.specs.SyntaxPlace.{IsSyntaxPlace}
use Rattle.word_laws.specs.Words.{Words}
use Rattle.expression_laws.proofs.PhraseRuns.{one_phrase}
use Rattle.calc_base.specs.declared.words.Place.{Place}
use Rattle.calc_base.specs.declared.words.WordsFault.{WordsFault}
use Rattle.calc_base.specs.declared.words.WordsFault.TheVariants.{Syntax, Literal, Range, Shape, NoMemory}
use Rattle.calc_words.specs.Commands.{command_of}
use Rattle.calc_words.specs.declared.command.Command.{Command as Read}
use Rattle.calc_words.specs.Reading.{IsRead, Accepts, Refuses, GoesWrong}
use Rattle.word_laws.specs.OneReading.{are_unambiguous}
use Rattle.word_laws.specs.Reading.{forms_of}
use Rattle.word_laws.proofs.EntryLists.{one_command, one_offence, one_place}

-- the commands are unambiguous: no words have the forms of two of them, or one form in two ways
abbrev pub Clear : List Entry → Type 0
Clear entries = are_unambiguous (forms_of entries) ≡ true

freely_spells : (entries : List Entry) (words : Words) (c : Command) → SpellsWithoutOffence entries words c → SpellsCommand entries words c
freely_spells [] words c h = h
freely_spells (e ∷ entries) words c (inl x) = inl (record { has = x.has; says_it = x.says_it })
freely_spells (e ∷ entries) words c (inr h) = inr (freely_spells entries words c h)

freely_none : (entries : List Entry) (words : Words) (c : Command) → SpellsWithoutOffence entries words c → HasFirstOffence entries words None
freely_none [] words c h = h
freely_none (e ∷ entries) words c (inl x) = inl (record { has = x.has; first_is = sym x.no_offence })
freely_none (e ∷ entries) words c (inr h) = inr (freely_none entries words c h)

first_spells : (entries : List Entry) (words : Words) (a : Option Offence) → HasFirstOffence entries words a → (c : Command) × SpellsCommand entries words c
first_spells [] words a h = absurd h
first_spells (e ∷ entries) words a (inl x) = (e.says x.has.written, inl (record { has = x.has; says_it = refl }))
first_spells (e ∷ entries) words a (inr h) = let r = first_spells entries words a h in (r.0, inr r.1)

none_some : (entries : List Entry) → Clear entries → (words : Words) (o : Offence) {A : Type 0} → HasFirstOffence entries words None → HasFirstOffence entries words (Some o) → A
none_some entries u words o h k = let e = one_offence one_phrase entries u words None (Some o) h k in cc

same_first : (entries : List Entry) → Clear entries → (words : Words) (o p : Offence) → HasFirstOffence entries words (Some o) → HasFirstOffence entries words (Some p) → o ≡ p
same_first entries u words o p h k = let e = one_offence one_phrase entries u words (Some o) (Some p) h k in cc

-- for unambiguous commands (`Clear`): if words spell c without an error, each correct result of reading them is c,
-- unless memory runs out
pub accepts : (entries : List Entry) → Clear entries → (words : Words) (r : Result Read WordsFault)
    → IsRead entries words r → (c : Command) → SpellsWithoutOffence entries words c → Accepts c r
accepts entries u words (Ok k) h c s =
    one_command one_phrase entries u words (command_of k) c (freely_spells entries words (command_of k) h.0) (freely_spells entries words c s)
accepts entries u words (Err (Syntax at)) h c s = absurd (h.no_command c (freely_spells entries words c s))
accepts entries u words (Err (Literal at)) h c s = none_some entries u words _ (freely_none entries words c s) h
accepts entries u words (Err (Range at)) h c s = none_some entries u words _ (freely_none entries words c s) h
accepts entries u words (Err (Shape at)) h c s = none_some entries u words _ (freely_none entries words c s) h
accepts entries u words (Err NoMemory) h c s = refl

-- for unambiguous commands (`Clear`): if words have the first error o, each correct result of reading them is the
-- refusal with o, unless memory runs out
pub refuses : (entries : List Entry) → Clear entries → (words : Words) (r : Result Read WordsFault)
    → IsRead entries words r → (o : Offence) → HasFirstOffence entries words (Some o) → Refuses o r
refuses entries u words (Ok k) h o s = none_some entries u words o (freely_none entries words (command_of k) h.0) s
refuses entries u words (Err (Syntax at)) h o s = let c = first_spells entries words (Some o) s in absurd (h.no_command c.0 c.1)
refuses entries u words (Err (Literal at)) h o s = inl (same_first entries u words o _ s h)
refuses entries u words (Err (Range at)) h o s = inl (same_first entries u words o _ s h)
refuses entries u words (Err (Shape at)) h o s = inl (same_first entries u words o _ s h)
refuses entries u words (Err NoMemory) h o s = inr refl

same_syntax : (at : Place) (w b : ℕ) → at.word ≡ w → at.byte ≡ b → Syntax at ≡ Syntax (record { word = w; byte = b })
same_syntax at w b h k =
    ap (λ n. Syntax (record { word = n; byte = at.byte })) h ∙ ap (λ n. Syntax (record { word = w; byte = n })) k

-- for unambiguous commands (`Clear`): if the place of the first error of syntax in words is byte b of word w, each correct result of reading them is
-- the refusal with an error of syntax there, unless memory runs out
pub goes_wrong : (entries : List Entry) → Clear entries → (words : Words) (r : Result Read WordsFault)
    → IsRead entries words r → (w b : ℕ) → IsSyntaxPlace entries words w b → GoesWrong w b r
goes_wrong entries u words (Ok k) h w b s = s.no_command (command_of k) (freely_spells entries words (command_of k) h.0)
goes_wrong entries u words (Err (Syntax at)) h w b s =
    let p = one_place entries words at.word at.byte w b h s in inl (same_syntax at w b p.0 p.1)
goes_wrong entries u words (Err (Literal at)) h w b s = let c = first_spells entries words _ h in absurd (s.no_command c.0 c.1)
goes_wrong entries u words (Err (Range at)) h w b s = let c = first_spells entries words _ h in absurd (s.no_command c.0 c.1)
goes_wrong entries u words (Err (Shape at)) h w b s = let c = first_spells entries words _ h in absurd (s.no_command c.0 c.1)
goes_wrong entries u words (Err NoMemory) h w b s = inr refl

pub some_more : {A : Type 0} (f : A → List ℕ) (xs : List A) → (length xs == 0) ≡ false → 0 < length (map f xs)
some_more f [] h = absurd (let e = eqb-false 0 0 h in omega (arith, e))
some_more f (x ∷ xs) h = omega arith

pub no_more : {A : Type 0} (f : A → List ℕ) (xs : List A) → (length xs == 0) ≡ true → map f xs ≡ []
no_more f [] h = refl
no_more f (x ∷ xs) h = absurd (let e = eqb-true (length (x ∷ xs)) 0 h in omega (arith, e))
