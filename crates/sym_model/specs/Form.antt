-- Forms of the words of a command: regular expressions over classes of words, the values that words of a form denote,
-- and the derivatives of a form by a word (derivatives of regular expressions: Brzozowski, Antimirov).
use Rattle.std.specs.Prelude.{◌≡◌, ℕ, ◌+◌, nat_le, Bool, true, false, ◌&&◌, ◌||◌, cond, List, []}
use Rattle.std.specs.Prelude.{◌∷◌, ◌++◌, map, ◌⊎◌, flat_map}
use Rattle.std.proofs.Common.{inl, inr}
use Rattle.sym_model.specs.Polynomial.{same}
use Rattle.sym_model.specs.Expansion.{Basis}
use Rattle.sym_model.specs.NumberWord.{IsNumberWord}
use Rattle.sym_model.specs.Phrase.{Phrase, Is, expression, letter, spelling, SpellsPhrase}

-- a class of words: only a fixed text, all numbers, the letters of the given bases, or all expressions
pub data Class : Type 0 where
  exact : List ℕ → Class
  number : Class
  target : List Basis → Class
  formula : Class

-- a form of lists of words: no word, one word of a class, one form and then another, one of two forms, or a form any
-- number of times (Kleene's regular expressions)
pub data Form : Type 0 where
  empty : Form
  word : Class → Form
  sequence : Form → Form → Form
  either : Form → Form → Form
  many : Form → Form

-- the type of the values that words of the class denote: no value for a fixed text, the digits for a number, the basis
-- for the letter of a basis, and a parse tree (`Phrase`) for an expression
abbrev pub WrittenWord : Class → Type 0
WrittenWord (exact text) = Unit {0}
WrittenWord number = List ℕ
WrittenWord (target bases) = Basis
WrittenWord formula = Phrase

-- the type of the values that words of the form denote
abbrev pub Written : Form → Type 0
Written empty = Unit {0}
Written (word c) = WrittenWord c
Written (sequence f g) = Written f × Written g
Written (either f g) = Written f ⊎ Written g
Written (many f) = List (Written f)

-- the word of the class c that denotes the value x
abbrev pub word_of : (c : Class) → WrittenWord c → List ℕ
word_of (exact text) x = text
word_of number digits = digits
word_of (target bases) basis = letter basis
word_of formula phrase = spelling phrase

-- the words of the form f that denote the value x
abbrev pub words_of : (f : Form) → Written f → List (List ℕ)
words_of empty x = []
words_of (word c) x = word_of c x ∷ []
words_of (sequence f g) x = words_of f x.0 ++ words_of g x.1
words_of (either f g) (inl x) = words_of f x
words_of (either f g) (inr x) = words_of g x
words_of (many f) xs = flat_map (words_of f) xs

-- some element of the list has the property
abbrev pub SomeOf : {A : Type 0} → (A → Type 0) → List A → Type 0
SomeOf P [] = ⊥
SomeOf P (x ∷ xs) = P x ⊎ SomeOf P xs

-- each element of the list has the property
abbrev pub EachOf : {A : Type 0} → (A → Type 0) → List A → Type 0
EachOf P [] = Unit {0}
EachOf P (x ∷ xs) = P x × EachOf P xs

-- the value x is denoted by a word of the class c: the digits are a number word (a word of decimal digits), the basis
-- is one of `bases`, the phrase is an expression of the grammar
abbrev pub MayBe : (c : Class) → WrittenWord c → Type 0
MayBe (exact text) x = Unit {0}
MayBe number digits = IsNumberWord digits
MayBe (target bases) basis = SomeOf (λ b. basis ≡ b) bases
MayBe formula phrase = Is expression phrase

-- the value x is denoted by words of the form f: each value in it is denoted by a word of its class
abbrev pub May : (f : Form) → Written f → Type 0
May empty x = Unit {0}
May (word c) x = MayBe c x
May (sequence f g) x = May f x.0 × May g x.1
May (either f g) (inl x) = May f x
May (either f g) (inr x) = May g x
May (many f) xs = EachOf (May f) xs

-- the words have the form f: for some value x with `May f x`, they are the words that denote x (`words_of f x`)
pub record Has (f : Form) (words : List (List ℕ)) : Type 0 where
  pub written : Written f
  pub allowed : May f written
  pub spelled : words ≡ words_of f written

-- the words are a prefix of a list of words that has the form f
abbrev pub Begins : Form → List (List ℕ) → Type 0
Begins f words = (rest : List (List ℕ)) × Has f (words ++ rest)

-- by the form f, the word that comes next after these words may be an expression
abbrev pub Awaits : Form → List (List ℕ) → Type 0
Awaits empty words = ⊥
Awaits (word formula) words = words ≡ []
Awaits (word c) words = ⊥
Awaits (sequence f g) words =
    Awaits f words
    ⊎ ((before : List (List ℕ)) × (after : List (List ℕ)) × (words ≡ before ++ after) × Has f before
    × Awaits g after)
Awaits (either f g) words = Awaits f words ⊎ Awaits g words
Awaits (many f) words =
    (before : List (List ℕ)) × (after : List (List ℕ)) × (words ≡ before ++ after)
    × Has (many f) before × Awaits f after

-- whether the byte is an ASCII digit
abbrev pub is_digit : ℕ → Bool
is_digit byte = nat_le 48 byte && nat_le byte 57

-- whether each byte is an ASCII digit
abbrev pub are_digits : List ℕ → Bool
are_digits [] = true
are_digits (byte ∷ digits) = is_digit byte && are_digits digits

-- whether the word is a number: one or more ASCII digits
abbrev pub is_number_word : List ℕ → Bool
is_number_word [] = false
is_number_word (byte ∷ digits) = are_digits (byte ∷ digits)

-- whether the word is the letter of one of the given bases
abbrev pub is_letter_of : List Basis → List ℕ → Bool
is_letter_of [] text = false
is_letter_of (basis ∷ bases) text = same (letter basis) text || is_letter_of bases text

-- whether the word is of the class; `reads` is a test of which words are expressions
abbrev pub fits : (List ℕ → Bool) → Class → List ℕ → Bool
fits reads (exact w) text = same w text
fits reads number text = is_number_word text
fits reads (target bases) text = is_letter_of bases text
fits reads formula text = reads text

-- whether the empty list of words has the form
abbrev pub is_skippable : Form → Bool
is_skippable empty = true
is_skippable (word c) = false
is_skippable (sequence f g) = is_skippable f && is_skippable g
is_skippable (either f g) = is_skippable f || is_skippable g
is_skippable (many f) = true

-- the partial derivatives of the form f by the word `text` (Antimirov), a list of forms: a list of words has one of
-- these forms if and only if `text` followed by the list has the form f; `reads` is a test of which words are
-- expressions
abbrev pub derivatives : (List ℕ → Bool) → Form → List ℕ → List Form
derivatives reads empty text = []
derivatives reads (word c) text = cond (fits reads c text) (empty ∷ []) []
derivatives reads (sequence f g) text =
    map (λ h. sequence h g) (derivatives reads f text)
    ++ cond (is_skippable f) (derivatives reads g text) []
derivatives reads (either f g) text = derivatives reads f text ++ derivatives reads g text
derivatives reads (many f) text = map (λ h. sequence h (many f)) (derivatives reads f text)

-- the partial derivatives of all given forms by the word `text`: a list of words has one of these if and only if
-- `text` followed by the list has one of the given forms
abbrev pub after_word : (List ℕ → Bool) → List Form → List ℕ → List Form
after_word reads forms text = flat_map (λ f. derivatives reads f text) forms

-- n + 1 if the list of forms is not empty, and 0 if it is empty
abbrev pub one_more : List Form → ℕ → ℕ
one_more [] n = 0
one_more (f ∷ forms) n = n + 1

-- the number of words in the longest prefix of the given words that can be continued to a list of words of one of the
-- forms, if each class of words in the forms has a word (`can_be`)
abbrev pub taken : (List ℕ → Bool) → List Form → List (List ℕ) → ℕ
taken reads forms [] = 0
taken reads forms (text ∷ words) =
    one_more (after_word reads forms text) (taken reads (after_word reads forms text) words)

-- whether the empty list of words has one of these forms
abbrev pub has_skippable : List Form → Bool
has_skippable [] = false
has_skippable (f ∷ forms) = is_skippable f || has_skippable forms

-- the partial derivatives of all given forms by these words, one after another: a list of words has one of them if
-- and only if these words followed by the list have one of the given forms
abbrev pub after_words : (List ℕ → Bool) → List Form → List (List ℕ) → List Form
after_words reads forms [] = forms
after_words reads forms (text ∷ words) = after_words reads (after_word reads forms text) words

-- whether the words have the form f; `reads` is a test of which words are expressions
abbrev pub are_words_of : (List ℕ → Bool) → Form → List (List ℕ) → Bool
are_words_of reads f words = has_skippable (after_words reads (f ∷ []) words)

-- whether the first word of a list of words of the form can be one that the form leaves to an expression (`word formula`)
abbrev pub awaits_next : Form → Bool
awaits_next (word formula) = true
awaits_next (sequence f g) = awaits_next f || (is_skippable f && awaits_next g)
awaits_next (either f g) = awaits_next f || awaits_next g
awaits_next (many f) = awaits_next f
awaits_next f = false

-- whether the first word of a list of words of one of these forms can be one that the form leaves to an expression
abbrev pub some_awaits_next : List Form → Bool
some_awaits_next [] = false
some_awaits_next (f ∷ forms) = awaits_next f || some_awaits_next forms

-- `reads` is true for the words that spell an expression and false for all others
pub record TellsExpressions (reads : List ℕ → Bool) : Type 0 where
  pub sound : (text : List ℕ) → reads text ≡ true → (phrase : Phrase) × SpellsPhrase text phrase
  pub complete : (text : List ℕ) (phrase : Phrase) → SpellsPhrase text phrase → reads text ≡ true

-- whether there is a word of the class
abbrev pub has_words : Class → Bool
has_words (target []) = false
has_words c = true

-- whether each class of words that occurs in the form has a word; if so, there are lists of words of this form and of
-- each form in it
abbrev pub can_be : Form → Bool
can_be empty = true
can_be (word c) = has_words c
can_be (sequence f g) = can_be f && can_be g
can_be (either f g) = can_be f && can_be g
can_be (many f) = can_be f
