-- The words of commands have only plain bytes: ASCII without `?`.
use Rattle.std.proofs.Common.{◌≡◌, ℕ, ◌≤◌, ◌==◌, nat_lt, Bool, true, false, not, ◌&&◌, List, [], ◌∷◌, ◌++◌, refl, ap, ◌∙◌, arith, inl, inr, flat_map, rules}
use Rattle.std.specs.Prelude.{codes}
use Rattle.std.specs.List.{join_with_byte}
use Rattle.std.proofs.lemmas.Bool.Decides.{nat_tests}
use Rattle.sym_model.specs.Expansion.{Basis, monomials, elementaries, completes, power_sums, schurs}
use Rattle.sym_model.specs.Form.{Class, exact, number, target, formula, Form, empty, word, sequence, either, many, Written, words_of, May, Has}
use Rattle.sym_model.specs.NumberWord.{AreDigits, AreNumberWords}
use Rattle.sym_model.specs.Phrase.{Operator, plus, minus, times, Level, expression, Phrase, numeral, ratio, label, brackets, minus_first, operation, Is, letter, sign, level_of, level_after, term, spelling, BeginsExpression}
use Rattle.sym_model.specs.Command.{Command}
use Rattle.sym_model.specs.Entry.{Entry, SpellsCommand, BeginsCommand, HasFirstOffence, SpellsWithoutOffence}
use Rattle.sym_model.specs.CommandOffence.{Offence}
use Rattle.std.specs.Prelude.{Option}
use Rattle.word_laws.specs.Words.{Words}
use Rattle.std.proofs.lemmas.Bool.{and_from, and_parts}

abbrev pub is_plain : ℕ → Bool
is_plain byte = nat_lt byte 128 && not (byte == 63)

abbrev pub are_plain : List ℕ → Bool
are_plain [] = true
are_plain (byte ∷ text) = is_plain byte && are_plain text

abbrev pub all_plain : Words → Bool
all_plain [] = true
all_plain (text ∷ words) = are_plain text && all_plain words

plain_append : (xs ys : List ℕ) → are_plain xs ≡ true → are_plain ys ≡ true → are_plain (xs ++ ys) ≡ true
plain_append [] ys h k = k
plain_append (x ∷ xs) ys h k =
    let p = and_parts (is_plain x) (are_plain xs) h in and_from (is_plain x) (are_plain (xs ++ ys)) p.0 (plain_append xs ys p.1 k)

pub plain_front : (xs ys : List ℕ) → are_plain (xs ++ ys) ≡ true → are_plain xs ≡ true
plain_front [] ys h = refl
plain_front (x ∷ xs) ys h =
    let p = and_parts (is_plain x) (are_plain (xs ++ ys)) h in and_from (is_plain x) (are_plain xs) p.0 (plain_front xs ys p.1)

all_append : (xs ys : Words) → all_plain xs ≡ true → all_plain ys ≡ true → all_plain (xs ++ ys) ≡ true
all_append [] ys h k = k
all_append (x ∷ xs) ys h k =
    let p = and_parts (are_plain x) (all_plain xs) h in and_from (are_plain x) (all_plain (xs ++ ys)) p.0 (all_append xs ys p.1 k)

pub all_front : (xs ys : Words) → all_plain (xs ++ ys) ≡ true → all_plain xs ≡ true
all_front [] ys h = refl
all_front (x ∷ xs) ys h =
    let p = and_parts (are_plain x) (all_plain (xs ++ ys)) h in and_from (are_plain x) (all_plain xs) p.0 (all_front xs ys p.1)

pub not_plain : (xs ys : List ℕ) (b : ℕ) → is_plain b ≡ false → are_plain (xs ++ b ∷ ys) ≡ true → ⊥
not_plain [] ys b h k = let p = and_parts (is_plain b) (are_plain ys) k in cc
not_plain (x ∷ xs) ys b h k = not_plain xs ys b h (and_parts (is_plain x) (are_plain (xs ++ b ∷ ys)) k).1

pub not_all_plain : (xs ys : Words) (w : List ℕ) → (are_plain w ≡ true → ⊥) → all_plain (xs ++ w ∷ ys) ≡ true → ⊥
not_all_plain [] ys w h k = h (and_parts (are_plain w) (all_plain ys) k).0
not_all_plain (x ∷ xs) ys w h k = not_all_plain xs ys w h (and_parts (are_plain x) (all_plain (xs ++ w ∷ ys)) k).1

digit_plain : (b : ℕ) → 48 ≤ b → b ≤ 57 → is_plain b ≡ true
digit_plain b h k = grind (arith, nat_tests)

digits_plain : (t : List ℕ) → AreDigits t → are_plain t ≡ true
digits_plain [] h = refl
digits_plain (b ∷ t) h = and_from (is_plain b) (are_plain t) (digit_plain b h.0.0 h.0.1) (digits_plain t h.1)

commas_plain : (words : Words) → AreNumberWords words → are_plain (join_with_byte 44 words) ≡ true
commas_plain [] h = refl
commas_plain (w ∷ []) h = digits_plain w h.0.digits
commas_plain (w ∷ v ∷ words) h =
    plain_append w (44 ∷ join_with_byte 44 (v ∷ words)) (digits_plain w h.0.digits) (commas_plain (v ∷ words) h.1)

letter_plain : (b : Basis) → are_plain (letter b) ≡ true
letter_plain monomials = refl
letter_plain elementaries = refl
letter_plain completes = refl
letter_plain power_sums = refl
letter_plain schurs = refl

sign_plain : (o : Operator) → are_plain (sign o) ≡ true
sign_plain plus = refl
sign_plain minus = refl
sign_plain times = refl

spelling_plain : (level : Level) (p : Phrase) → Is level p → are_plain (spelling p) ≡ true
spelling_plain level (numeral digits) h = digits_plain digits h.digits
spelling_plain level (ratio num den) h =
    plain_append num (codes "/" ++ den) (digits_plain num h.0.digits) (digits_plain den h.1.digits)
spelling_plain level (label basis words) h = search (rules, plain_append, letter_plain, commas_plain)
spelling_plain level (brackets inner) h = plain_append (spelling inner) (codes ")") (spelling_plain expression inner h) refl
spelling_plain level (minus_first inner) h = spelling_plain term inner h.1
spelling_plain level (operation operator left right) h =
    search (rules, plain_append, sign_plain, (spelling_plain (level_of operator) left h.1), (spelling_plain (level_after operator) right h.2))

pub expression_plain : (text : List ℕ) → BeginsExpression text → are_plain text ≡ true
expression_plain text h =
    plain_front text h.0 (ap are_plain h.2.spelled ∙ spelling_plain expression h.1 h.2.allowed)

-- ---- the words of a command have only plain bytes if its fixed words do

abbrev class_plain : Class → Bool
class_plain (exact text) = are_plain text
class_plain c = true

abbrev form_plain : Form → Bool
form_plain empty = true
form_plain (word c) = class_plain c
form_plain (sequence f g) = form_plain f && form_plain g
form_plain (either f g) = form_plain f && form_plain g
form_plain (many f) = form_plain f

abbrev pub entries_plain : List Entry → Bool
entries_plain [] = true
entries_plain (e ∷ entries) = form_plain e.form && entries_plain entries

one_plain : (w : List ℕ) → are_plain w ≡ true → all_plain (w ∷ []) ≡ true
one_plain w h = and_from (are_plain w) true h refl

words_plain : (f : Form) (x : Written f) → May f x → form_plain f ≡ true → all_plain (words_of f x) ≡ true
words_plain empty x m h = refl
words_plain (word (exact text)) x m h = one_plain text h
words_plain (word number) x m h = one_plain x (digits_plain x m.digits)
words_plain (word (target bases)) x m h = one_plain (letter x) (letter_plain x)
words_plain (word formula) x m h = one_plain (spelling x) (spelling_plain expression x m)
words_plain (sequence f g) x m h =
    let p = and_parts (form_plain f) (form_plain g) h in
    all_append (words_of f x.0) (words_of g x.1) (words_plain f x.0 m.0 p.0) (words_plain g x.1 m.1 p.1)
words_plain (either f g) (inl x) m h = words_plain f x m (and_parts (form_plain f) (form_plain g) h).0
words_plain (either f g) (inr x) m h = words_plain g x m (and_parts (form_plain f) (form_plain g) h).1
words_plain (many f) [] m h = refl
words_plain (many f) (x ∷ xs) m h = all_append (words_of f x) (flat_map (words_of f) xs) (words_plain f x m.0 h) (words_plain (many f) xs m.1 h)

has_plain : (f : Form) (words : Words) → Has f words → form_plain f ≡ true → all_plain words ≡ true
has_plain f words h p = ap all_plain h.spelled ∙ words_plain f h.written h.allowed p

pub begins_plain : (entries : List Entry) (words : Words) → entries_plain entries ≡ true → BeginsCommand entries words → all_plain words ≡ true
begins_plain [] words p h = absurd h
begins_plain (e ∷ entries) words p (inl h) = all_front words h.0 (has_plain e.form (words ++ h.0) h.1 (and_parts (form_plain e.form) (entries_plain entries) p).0)
begins_plain (e ∷ entries) words p (inr h) = begins_plain entries words (and_parts (form_plain e.form) (entries_plain entries) p).1 h

pub spells_plain : (entries : List Entry) (words : Words) (c : Command) → entries_plain entries ≡ true → SpellsCommand entries words c → all_plain words ≡ true
spells_plain [] words c p h = absurd h
spells_plain (e ∷ entries) words c p (inl h) = has_plain e.form words h.has (and_parts (form_plain e.form) (entries_plain entries) p).0
spells_plain (e ∷ entries) words c p (inr h) = spells_plain entries words c (and_parts (form_plain e.form) (entries_plain entries) p).1 h

pub freely_plain : (entries : List Entry) (words : Words) (c : Command) → entries_plain entries ≡ true → SpellsWithoutOffence entries words c → all_plain words ≡ true
freely_plain [] words c p h = absurd h
freely_plain (e ∷ entries) words c p (inl h) = has_plain e.form words h.has (and_parts (form_plain e.form) (entries_plain entries) p).0
freely_plain (e ∷ entries) words c p (inr h) = freely_plain entries words c (and_parts (form_plain e.form) (entries_plain entries) p).1 h

pub first_plain : (entries : List Entry) (words : Words) (o : Option Offence) → entries_plain entries ≡ true → HasFirstOffence entries words o → all_plain words ≡ true
first_plain [] words o p h = absurd h
first_plain (e ∷ entries) words o p (inl h) = has_plain e.form words h.has (and_parts (form_plain e.form) (entries_plain entries) p).0
first_plain (e ∷ entries) words o p (inr h) = first_plain entries words o (and_parts (form_plain e.form) (entries_plain entries) p).1 h
