-- The parts of the words of a command, which are read one after another: the parts that have been read without an error, and the correct results of
-- reading the next part.
use Rattle.std.specs.Prelude.{◌≡◌, ℕ, zero, suc, ◌+◌, nat_lt, true, cond, List, [], ◌∷◌, length, Option, Some, None, Result, Ok, Err}
use Rattle.std.specs.Prelude.{slice_index_or}
use Rattle.sym_model.specs.CommandOffence.{Offence, first_offence}
use Rattle.sym_model.specs.Entry.{Entry}
use Rattle.sym_model.specs.Form.{Form, Written, May, words_of}
use Rattle.sym_model.specs.Grammar.{all_entries}
use Rattle.sym_model.specs.Polynomial.{same}
use Rattle.calc_base.specs.declared.words.WordsFault.{WordsFault}
use Rattle.calc_words.specs.Parts.{form_of_part, form_of, command_form, part_offends, command_offends, IsPiece, written_of, AreCut, are_bounded}
use Rattle.calc_words.specs.Reading.{IsRefusal}
use Rattle.calc_words.specs.declared.word_parts.Part.{Part}
use Rattle.calc_words.specs.declared.word_parts.Part.TheVariants.{Minus, Slash}

-- the first entry of the list that has this name
abbrev pub entry_named : List ℕ → List Entry → Option Entry
entry_named name [] = None
entry_named name (e ∷ entries) = cond (same name e.name) (Some e) (entry_named name entries)

-- there is an entry, and its words are the name and the parts: they have their form and their errors
abbrev pub HasParts : Option Entry → List ℕ → List Part → Type 0
HasParts None name ps = ⊥
HasParts (Some e) name ps =
    ◌≡◌ {A = (f : Form) × (Written f → List Offence)} (e.form, e.offends) (command_form name ps, command_offends name ps)

-- the refusal is correct for the words of the command with this name
abbrev pub IsRefusalAs : Option Entry → List (List ℕ) → WordsFault → Type 0
IsRefusalAs None words fault = ⊥
IsRefusalAs (Some e) words fault = IsRefusal (e ∷ []) words fault

-- the first i parts have no error; the first part begins at word k
abbrev pub FineTo : ℕ → (ps : List Part) → ℕ → Written (form_of ps) → Type 0
FineTo zero ps k x = Unit {0}
FineTo (suc i) [] k x = Unit {0}
FineTo (suc i) (p ∷ []) k x = first_offence (part_offends p k x) ≡ None
FineTo (suc i) (p ∷ q ∷ ps) k x =
    (first_offence (part_offends p k x.0) ≡ None)
    × FineTo i (q ∷ ps) (k + length (words_of (form_of_part p) x.0)) x.1

-- the number of marks `-` and `/` at the front of a list of parts
abbrev pub marks : List Part → ℕ
marks [] = zero
marks (Minus ∷ ps) = suc (marks ps)
marks (Slash ∷ ps) = suc (marks ps)
marks (p ∷ ps) = zero

-- the index of the first part after part i that is not a mark
abbrev pub after : List Part → ℕ → ℕ
after [] i = zero
after (p ∷ ps) zero = suc (marks ps)
after (p ∷ ps) (suc i) = suc (after ps i)

-- however the words are divided into the parts, the first i parts have no error
pub record AreFineTo (name : List ℕ) (ps : List Part) (places : List ℕ) (words : List (List ℕ)) (i : ℕ) : Type 0 where
  pub fine : (h : AreCut name ps places words) → FineTo i ps 1 (written_of ps 0 1 places words h.parts)

-- the words are divided into the parts of the command with this name, the parts before part i have no error, and part i is p
pub record IsNext (p : Part) (name : List ℕ) (ps : List Part) (places : List ℕ) (words : List (List ℕ)) (i : ℕ) : Type 0 where
  pub cut : AreCut name ps places words
  pub fine : AreFineTo name ps places words i
  pub is : slice_index_or ps i Minus ≡ p
  pub within : nat_lt i (length ps) ≡ true
  pub few : nat_lt i 5 ≡ true
  pub bounded : are_bounded ps ≡ true
  pub named : HasParts (entry_named name all_entries) name ps

-- part i is p and has been read without an error as the value v, which is what its words denote according to `said`
pub record IsReadAs (p : Part) {V : Type 0} (said : Written (form_of_part p) → V) (v : V) (name : List ℕ) (ps : List Part) (places : List ℕ)
    (words : List (List ℕ)) (i : ℕ) : Type 0 where
  pub fine : AreFineTo name ps places words (after ps i)
  pub value : (k : ℕ) (x : Written (form_of_part p)) → May (form_of_part p) x → IsPiece places words i k (words_of (form_of_part p) x) → v ≡ said x

-- the result of reading part i as the part p is correct: if neither it nor a part before it has an error, the value that its words denote according
-- to `said`, and otherwise a correct refusal of the words
abbrev pub IsPartRead : (p : Part) {V : Type 0} → (Written (form_of_part p) → V) → List ℕ → List Part → List ℕ → List (List ℕ) → ℕ
    → Result V WordsFault → Type 0
IsPartRead p said name ps places words i (Ok v) = IsReadAs p said v name ps places words i
IsPartRead p said name ps places words i (Err fault) = IsRefusalAs (entry_named name all_entries) words fault
