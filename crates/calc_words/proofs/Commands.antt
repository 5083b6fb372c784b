-- Words are read as a command of the calculator. The result is a command, or a fault (`WordsFault`), which reports an error of syntax or the first
-- error of a number. The lemmas are about correct results for one command, and about the first error of xs ++ ys, for lists of errors xs and ys.
use Rattle.std.proofs.Common.{◌≡◌, ℕ, ◌+◌, map, Option, List, [], ◌∷◌, ◌++◌, length, sym, ap, ◌∙◌, subst, Some, None, Result, Ok, Err, inl, rules}
use Rattle.std.proofs.lemmas.List.{length-map}
use Rattle.sym_model.specs.ExpressionOffence.{literal, range, shape}
use Rattle.sym_model.specs.Form.{Has}
use Rattle.sym_model.specs.Command.{Command}
use Rattle.sym_model.specs.CommandOffence.{Offence, first_offence, part_offences}
use Rattle.sym_model.specs.Entry.{Entry}
use Rattle.sym_model.specs.Grammar.{two_partitions}
use Rattle.sym_model.specs.WordForms.{numbers}
use Rattle.word_laws.specs.Words.{Words}
pub use Rattle.word_laws.proofs.CutParts.{may_be, singles}
use Rattle.calc_base.specs.declared.words.WordsFault.{WordsFault}
use Rattle.calc_base.specs.declared.words.WordsFault.TheVariants.{Syntax, Literal, Range, Shape, NoMemory}
use Rattle.calc_words.specs.Commands.{command_of, IsSound, StandsFor}
use Rattle.calc_words.specs.declared.command.Command.{Command as Read}
use Rattle.calc_words.proofs.FirstOffences.{within, AllBefore, first-append, none-append}
use Rattle.calc_words.specs.Reading.{IsRead, IsRefusal, IsJudged, IsFirst}

-- if words have the form of the command e, a fault that reports their first error is a correct refusal of them
pub first_refused : (e : Entry) (words : Words) (has : Has e.form words) (fault : WordsFault) → IsFirst (first_offence (e.offends has.written)) fault
    → IsRefusal (e ∷ []) words fault
first_refused e words has (Syntax at) h = absurd h
first_refused e words has (Literal at) h = inl (record { has = has; first_is = sym h })
first_refused e words has (Range at) h = inl (record { has = has; first_is = sym h })
first_refused e words has (Shape at) h = inl (record { has = has; first_is = sym h })
first_refused e words has NoMemory h = tt

-- if words have the form of the command e and spell the command `said`, a result that is correct for `said` and for the first error of the words
-- (`IsJudged`) is a correct result of reading them (`IsRead`)
pub read_standing : (e : Entry) (words : Words) (has : Has e.form words) (said : Command) → said ≡ e.says has.written → (r : Result Read WordsFault)
    → IsJudged (StandsFor said) (first_offence (e.offends has.written)) r → IsRead (e ∷ []) words r
read_standing e words has said is (Ok command) h = (inl (record { has = has; says_it = h.0.0 ∙ is; no_offence = h.1 }), h.0.1)
read_standing e words has said is (Err fault) h = first_refused e words has fault h

pub read_judged : (e : Entry) (words : Words) (has : Has e.form words) (x : Read) → command_of x ≡ e.says has.written → IsSound x → (r : Result Read WordsFault)
    → IsJudged (λ c. c ≡ x) (first_offence (e.offends has.written)) r → IsRead (e ∷ []) words r
read_judged e words has x is sound (Ok command) h =
    (inl (record { has = has; says_it = ap command_of h.0 ∙ is; no_offence = h.1 }), subst IsSound (sym h.0) sound)
read_judged e words has x is sound (Err fault) h = first_refused e words has fault h

-- if `later` equals `first` whenever `first` is an error, a fault that reports the error `first` reports the error `later`
pub judged_on : (first later : Option Offence) (fault : WordsFault) → ((o : Offence) → first ≡ Some o → later ≡ Some o)
    → IsFirst first fault → IsFirst later fault
judged_on first later (Syntax at) f h = h
judged_on first later (Literal at) f h = f (at.word, at.byte, literal) h
judged_on first later (Range at) f h = f (at.word, at.byte, range) h
judged_on first later (Shape at) f h = f (at.word, at.byte, shape) h
judged_on first later NoMemory f h = h

-- if each error of xs is at an earlier word than each error of ys, a fault that reports the first error of xs reports the first error of xs ++ ys
pub judged_err : (xs ys : List Offence) (fault : WordsFault) → AllBefore xs ys
    → IsFirst (first_offence xs) fault → IsFirst (first_offence (xs ++ ys)) fault
judged_err xs ys fault b h = judged_on (first_offence xs) (first_offence (xs ++ ys)) fault (λ o e. first-append xs ys o e b) h

pub judged_later : (xs ys : List Offence) (fault : WordsFault) → first_offence xs ≡ None → IsFirst (first_offence ys) fault
    → IsFirst (first_offence (xs ++ ys)) fault
judged_later xs ys fault n h = subst (λ o. IsFirst o fault) (sym (none-append xs ys n)) h

pub judged_next : {A : Type 0} (P : A → Type 0) (xs ys : List Offence) (r : Result A WordsFault) → first_offence xs ≡ None
    → IsJudged P (first_offence ys) r → IsJudged P (first_offence (xs ++ ys)) r
judged_next P xs ys r n h = subst (λ o. IsJudged P o r) (sym (none-append xs ys n)) h

parts_before : (k : ℕ) (left right : Words) → AllBefore (part_offences k (numbers left)) (part_offences (k + length left + 1) (numbers right))
parts_before k left right p q m n = search (rules, within, length-map)

-- if the left partition has an error, a fault that reports its first error reports the first error of the two partitions
pub first_faulty : (k : ℕ) (left right : Words) (fault : WordsFault)
    → IsFirst (first_offence (part_offences k (numbers left))) fault
    → IsFirst (first_offence (two_partitions k left right)) fault
first_faulty k left right fault h =
    judged_err (part_offences k (numbers left)) (part_offences (k + length left + 1) (numbers right)) fault (parts_before k left right) h

-- if the left partition has no error, a fault that reports the first error of the right one reports the first error of the two partitions
pub second_faulty : (k m : ℕ) (left right : Words) (fault : WordsFault) → m ≡ k + length left + 1 → first_offence (part_offences k (numbers left)) ≡ None
    → IsFirst (first_offence (part_offences m (numbers right))) fault → IsFirst (first_offence (two_partitions k left right)) fault
second_faulty k m left right fault e n h = search (rules, judged_later)

pub both_fine : (k m : ℕ) (left right : Words) → m ≡ k + length left + 1 → first_offence (part_offences k (numbers left)) ≡ None
    → first_offence (part_offences m (numbers right)) ≡ None → first_offence (two_partitions k left right) ≡ None
both_fine k m left right e n h = search (rules, none-append)

pub second_place : {A : Type 0} (f : A → List ℕ) (k : ℕ) (ws : List A) → k + length ws + 1 ≡ k + length (map f ws) + 1
second_place f k ws = ap (λ n. k + n + 1) (sym (length-map ws f))
