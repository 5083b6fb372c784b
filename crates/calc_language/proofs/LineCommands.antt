-- The kind of a line of a batch, from its words with `?` for each byte outside ASCII, and consequences of reading the line.
use Rattle.std.proofs.Common.{◌≡◌, ℕ, nat_lt, false, List, [], ◌∷◌, ◌++◌, map, length, refl, sym, subst, Option, Some, None, Result, Ok, Err, inl, inr, rules}
use Rattle.std.specs.Prelude.{IfOk}
use Rattle.sym_model.specs.BatchLine.{BatchLine, too_long, passed_over, spoken, most_bytes, words_of_line, without_return, batch_line}
use Rattle.sym_model.specs.Command.{Command as PlainCommand}
use Rattle.sym_model.specs.CommandOffence.{Offence}
use Rattle.sym_model.specs.Entry.{Entry, SpellsWithoutOffence, HasFirstOffence}
use Rattle.sym_model.specs.Form.{SomeOf}
use Rattle.sym_model.specs.SyntaxPlace.{IsSyntaxPlace}
use Rattle.word_laws.specs.Words.{Words}
use Rattle.calc_base.specs.declared.words.WordsFault.{WordsFault}
use Rattle.calc_words.specs.LineBytes.{seen, is_passed_over}
use Rattle.calc_words.specs.Reading.{IsRead, Refuses, GoesWrong}
use Rattle.calc_words.proofs.ForeignBytes.{seen_read}
use Rattle.calc_words.proofs.ReadingFacts.{accepts, refuses, goes_wrong}
use Rattle.sym_model.specs.Grammar.{all_entries, line_entries}
use Rattle.calc_language.specs.Lines.{IsLineRead, KeepsItsLimits, AcceptsInLine}
use Rattle.calc_words.specs.declared.command.Command.{Command}
use Rattle.calc_words.proofs.WrittenCommands.{words_keep}

pub spoken_line : (line : List ℕ) (kept : Words) → nat_lt most_bytes (length line) ≡ false → kept ≡ map seen (words_of_line (without_return line))
    → is_passed_over kept ≡ false → batch_line line ≡ spoken (words_of_line (without_return line))
spoken_line line kept n k h = search rules

abbrev whole : Result Command WordsFault → Result (Option Command) WordsFault
whole (Ok command) = Ok (Some command)
whole (Err fault) = Err fault

words_line : (words : Words) (r : Result Command WordsFault) → IsRead line_entries words r → IsLineRead (spoken words) (whole r)
words_line words (Ok command) h = h
words_line words (Err fault) h = h

pub line_read : (line : List ℕ) (kept : Words) (r : Result Command WordsFault) → nat_lt most_bytes (length line) ≡ false
    → kept ≡ map seen (words_of_line (without_return line)) → is_passed_over kept ≡ false → IsRead line_entries kept r
    → IsLineRead (batch_line line) (whole r)
line_read line kept r n k h read =
    let words = words_of_line (without_return line) in
    subst (λ l. IsLineRead l (whole r)) (sym (spoken_line line kept n k h))
    (words_line words r (seen_read line_entries refl words r (subst (λ ws. IsRead line_entries ws r) k read)))

-- ---- consequences of a correct result of reading a line

some_append : (P : Entry → Type 0) (xs ys : List Entry) → SomeOf P xs → SomeOf P (xs ++ ys)
some_append P [] ys h = absurd h
some_append P (x ∷ xs) ys (inl h) = inl h
some_append P (x ∷ xs) ys (inr h) = inr (some_append P xs ys h)

line_of_all : (words : Words) (c : PlainCommand) → SpellsWithoutOffence line_entries words c → SpellsWithoutOffence all_entries words c
line_of_all words c h = search (rules, some_append)

pub within : (line : BatchLine) (r : Result (Option Command) WordsFault) → IsLineRead line r → IfOk r KeepsItsLimits
within line (Err fault) h = tt
within line (Ok None) h = tt
within too_long (Ok (Some command)) h = absurd h
within passed_over (Ok (Some command)) h = absurd h
within (spoken words) (Ok (Some command)) h = search (rules, words_keep, line_of_all)

spoken_accepts : (words : Words) (r : Result (Option Command) WordsFault) → IsLineRead (spoken words) r → (c : PlainCommand)
    → SpellsWithoutOffence line_entries words c → AcceptsInLine c r
spoken_accepts words (Ok None) h c s = absurd h
spoken_accepts words (Ok (Some command)) h c s = accepts line_entries refl words (Ok command) h c s
spoken_accepts words (Err fault) h c s = accepts line_entries refl words (Err fault) h c s

spoken_refuses : (words : Words) (r : Result (Option Command) WordsFault) → IsLineRead (spoken words) r → (o : Offence)
    → HasFirstOffence line_entries words (Some o) → Refuses o r
spoken_refuses words (Ok None) h o s = absurd h
spoken_refuses words (Ok (Some command)) h o s = refuses line_entries refl words (Ok command) h o s
spoken_refuses words (Err fault) h o s = refuses line_entries refl words (Err fault) h o s

spoken_wrong : (words : Words) (r : Result (Option Command) WordsFault) → IsLineRead (spoken words) r → (w b : ℕ)
    → IsSyntaxPlace line_entries words w b → GoesWrong w b r
spoken_wrong words (Ok None) h w b s = absurd h
spoken_wrong words (Ok (Some command)) h w b s = goes_wrong line_entries refl words (Ok command) h w b s
spoken_wrong words (Err fault) h w b s = goes_wrong line_entries refl words (Err fault) h w b s

pub line_accepts : (line : BatchLine) (r : Result (Option Command) WordsFault) → IsLineRead line r → (words : Words) (c : PlainCommand) → line ≡ spoken words
    → SpellsWithoutOffence line_entries words c → AcceptsInLine c r
line_accepts line r h words c e s = spoken_accepts words r (subst (λ l. IsLineRead l r) e h) c s

pub line_refuses : (line : BatchLine) (r : Result (Option Command) WordsFault) → IsLineRead line r → (words : Words) (o : Offence) → line ≡ spoken words
    → HasFirstOffence line_entries words (Some o) → Refuses o r
line_refuses line r h words o e s = spoken_refuses words r (subst (λ l. IsLineRead l r) e h) o s

pub line_wrong : (line : BatchLine) (r : Result (Option Command) WordsFault) → IsLineRead line r → (words : Words) (w b : ℕ) → line ≡ spoken words
    → IsSyntaxPlace line_entries words w b → GoesWrong w b r
line_wrong line r h words w b e s = spoken_wrong words r (subst (λ l. IsLineRead l r) e h) w b s
