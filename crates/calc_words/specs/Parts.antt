-- The parts of the words of a command: their forms, their errors, and the division of a list of words into parts.
use Rattle.std.specs.Prelude.{◌≡◌, ◌⊎◌, ℕ, ◌≤◌, ◌<◌, ◌+◌, ◌-◌, Bool, true, false, ◌&&◌, List, []}
use Rattle.std.specs.Prelude.{◌∷◌, ◌++◌, map, drop, length, slice_index_or, None}
use Rattle.sym_model.specs.CommandOffence.{Offence, first_offence, rows_rule, lines_rule, seed_rule}
use Rattle.sym_model.specs.Form.{Form, sequence, Written, May, words_of}
use Rattle.sym_model.specs.Grammar as grammar
use Rattle.sym_model.specs.WordForms.{the}
use Rattle.sym_model.specs.Entry.{Entry}
use Rattle.sym_model.specs.Phrase.{Phrase, SpellsPhrase}
use Rattle.sym_model.specs.SyntaxPlace.{IsSyntaxPlace}
use Rattle.expression_reading.specs.Reading.{IsWrongByte}
use Rattle.calc_base.specs.declared.words.WordsFault.{WordsFault}
use Rattle.calc_words.specs.Cutting.{IsWrongAt}
use Rattle.word_laws.specs.OneReading.{are_apart, firsts, continuing}
use Rattle.calc_words.specs.Reading.{IsFirst}
use Rattle.calc_words.specs.declared.word_parts.Part.{Part}
use Rattle.calc_words.specs.declared.word_parts.Part.TheVariants.{Minus, Slash, MaybeForm, Rows}
use Rattle.calc_words.specs.declared.word_parts.Part.TheVariants.{MaybeRows, Bound, Lines, Seed}
use Rattle.calc_words.specs.declared.word_parts.Part.TheVariants.{Shape, Word, Letters, Doubled}
use Rattle.calc_words.specs.declared.word_parts.Part.TheVariants.{Factors, Tableau, MaybeFrom}
use Rattle.calc_words.specs.declared.word_parts.Part.TheVariants.{Target, Expression}

-- the part of the grammar that is read as this part
abbrev pub part_of : Part → grammar.Part
part_of Minus = grammar.minus
part_of Slash = grammar.slash
part_of MaybeForm = grammar.maybe_form
part_of Rows = grammar.rows
part_of MaybeRows = grammar.maybe_rows
part_of Bound = grammar.number_by rows_rule
part_of Lines = grammar.number_by lines_rule
part_of Seed = grammar.number_by seed_rule
part_of Shape = grammar.one_partition
part_of Word = grammar.letter_list
part_of Letters = grammar.one_permutation
part_of Doubled = grammar.short_permutation
part_of Factors = grammar.factor_list
part_of Tableau = grammar.one_tableau
part_of MaybeFrom = grammar.maybe_from
part_of Target = grammar.one_basis
part_of Expression = grammar.one_expression

-- the form of the words of a part
abbrev pub form_of_part : Part → Form
form_of_part p = (part_of p).form

-- the form of the words of these parts, one part after another
abbrev pub form_of : List Part → Form
form_of ps = grammar.form_of (map part_of ps)

-- the form of the words of a command: its name, followed by its parts
abbrev pub command_form : List ℕ → List Part → Form
command_form name [] = the name
command_form name (p ∷ ps) = sequence (the name) (form_of (p ∷ ps))

-- whether, for each part p of the list, the words that can continue the words of p are different from the words with which the parts after p can
-- begin
abbrev pub is_clear : List Part → Bool
is_clear [] = true
is_clear (p ∷ ps) = are_apart (continuing (form_of_part p)) (firsts (form_of ps)) && is_clear ps

-- the errors of a part whose first word is word k
abbrev pub part_offends : (p : Part) → ℕ → Written (form_of_part p) → List Offence
part_offends p = (part_of p).offends

-- the errors of these parts, if the first part begins at word k
abbrev pub parts_offend : (ps : List Part) → ℕ → Written (form_of ps) → List Offence
parts_offend ps = grammar.offends_of (map part_of ps)

-- the errors of the words of a command: those of its parts
abbrev pub command_offends : (name : List ℕ) (ps : List Part) → Written (command_form name ps) → List Offence
command_offends name [] x = []
command_offends name (p ∷ ps) x = parts_offend (p ∷ ps) 1 x.1

-- `piece` is the list of the words of part i, counted from 0, and begins at word k: entry i of `places` is k, and entry i + 1 is the index of the
-- word after `piece`
abbrev pub IsPiece : List ℕ → List (List ℕ) → ℕ → ℕ → List (List ℕ) → Type 0
IsPiece places words i k piece =
    (slice_index_or places i 0 ≡ k) × (slice_index_or places (i + 1) 0 ≡ k + length piece)
    × (k ≤ length words)
    × (rest : List (List ℕ)) × (drop k words ≡ piece ++ rest)

-- the words from word k on are the words of these parts, and `places` has, from entry i on, the index of the first word of each part and, at last,
-- the index after the last word
abbrev pub IsCut : List Part → ℕ → ℕ → List ℕ → List (List ℕ) → Type 0
IsCut [] i k places words = drop k words ≡ []
IsCut (p ∷ ps) i k places words =
    (x : Written (form_of_part p)) × May (form_of_part p) x
    × IsPiece places words i k (words_of (form_of_part p) x)
    × IsCut ps (i + 1) (k + length (words_of (form_of_part p) x)) places words

-- the values that the words of the parts denote
abbrev pub written_of : (ps : List Part) (i k : ℕ) (places : List ℕ) (words : List (List ℕ))
    → IsCut ps i k places words → Written (form_of ps)
written_of [] i k places words h = tt
written_of (p ∷ []) i k places words h = h.0
written_of (p ∷ q ∷ ps) i k places words h =
    (h.0, written_of (q ∷ ps) (i + 1) (k + length (words_of (form_of_part p) h.0)) places words h.3)

-- the words are the name and the words of the parts, and `places` has the indices of the first words of the parts (`IsCut`)
pub record AreCut (name : List ℕ) (ps : List Part) (places : List ℕ)
    (words : List (List ℕ)) : Type 0 where
  pub named : words ≡ name ∷ drop 1 words
  pub parts : IsCut ps 0 1 places words

-- false for a list of factors, and true for any other part, as all errors of such a part are at its own words; `are_bounded` says that this is true
-- for all parts but the last
abbrev pub is_bounded : Part → Bool
is_bounded Factors = false
is_bounded p = true

abbrev pub are_bounded : List Part → Bool
are_bounded [] = true
are_bounded (p ∷ []) = true
are_bounded (p ∷ q ∷ ps) = is_bounded p && are_bounded (q ∷ ps)

-- the refusal `fault` reports the first error of some part (`IsFirst`), and the parts before that part have no error; the first part begins at word k
abbrev pub IsFirstOf : (ps : List Part) → ℕ → Written (form_of ps) → WordsFault → Type 0
IsFirstOf [] k x fault = ⊥
IsFirstOf (p ∷ []) k x fault = IsFirst (first_offence (part_offends p k x)) fault
IsFirstOf (p ∷ q ∷ ps) k x fault =
    IsFirst (first_offence (part_offends p k x.0)) fault
    ⊎ ((first_offence (part_offends p k x.0) ≡ None)
    × IsFirstOf (q ∷ ps) (k + length (words_of (form_of_part p) x.0)) x.1 fault)

-- no part has an error; the first part begins at word k
abbrev pub AreFine : (ps : List Part) → ℕ → Written (form_of ps) → Type 0
AreFine [] k x = Unit {0}
AreFine (p ∷ []) k x = first_offence (part_offends p k x) ≡ None
AreFine (p ∷ q ∷ ps) k x =
    (first_offence (part_offends p k x.0) ≡ None)
    × AreFine (q ∷ ps) (k + length (words_of (form_of_part p) x.0)) x.1

-- The parts before part i, counted from 0, have been read, and part i begins at word `at`. The first error of syntax in the words from `at` on, read
-- as the parts from i on, is also the first error of syntax in all words after the name, read as all parts. If a list of places agrees with `places`
-- in the entries 0 to i and divides the words from `at` on into the parts from i on, it divides all words after the name into the parts (`IsCut`).
pub record IsCutTo (parts : List Part) (i at : ℕ) (places : List ℕ)
    (words : List (List ℕ)) : Type 0 where
  pub within : at ≤ length words
  pub six : length places ≡ 6
  pub here : slice_index_or places i 0 ≡ at
  pub clear : is_clear (drop i parts) ≡ true
  pub goes : (left byte : ℕ) → IsWrongAt (form_of (drop i parts)) (drop at words) left byte
      → IsWrongAt (form_of parts) (drop 1 words) left byte
  pub cut : (q : List ℕ) → ((j : ℕ) → j < i + 1 → slice_index_or q j 0 ≡ slice_index_or places j 0)
      → IsCut (drop i parts) i at q words
      → IsCut parts 0 1 q words

-- The last part is one word, `text`, which is word `at`. If `text` spells an expression, the words are the name and the parts (`AreCut`); if it
-- spells none, and its longest prefix that begins an expression has the length `byte`, the first error of syntax in the words is at this byte of word
-- `at`.
pub record IsUnread (name : List ℕ) (ps : List Part) (places : List ℕ)
    (words : List (List ℕ)) : Type 0 where
  pub at : ℕ
  pub text : List ℕ
  pub piece : IsPiece places words (length ps - 1) at (text ∷ [])
  pub spelled : (f : Phrase) → SpellsPhrase text f → AreCut name ps places words
  pub wrong : (byte : ℕ) → IsWrongByte text byte → (e : Entry) → e.form ≡ command_form name ps
      → IsSyntaxPlace (e ∷ []) words at byte

-- the words are the name of a command and its parts (`AreCut`); or the last word has not been tested, and the words are the name and the parts if the
-- last word spells an expression (`IsUnread`)
abbrev pub AreCutUnread : List ℕ → List Part → List ℕ → List (List ℕ) → Type 0
AreCutUnread name ps places words = AreCut name ps places words ⊎ IsUnread name ps places words
