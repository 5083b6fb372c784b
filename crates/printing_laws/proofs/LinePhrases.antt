-- The one-line form of a list of terms, such as s[3]-3*s[2,1], spells a *phrase*, which is the syntax tree of an expression. The phrase is in the
-- grammar, and its spelling is the one-line form without the LF.
use Rattle.std.proofs.Common.{◌≡◌, ℕ, ◌^◌, ◌<◌, List, [], ◌∷◌, ◌++◌, map, cond, eqb, pos, negsuc, nat_abs, refl, sym, ap, ◌∙◌, append_assoc, append-nil, decimal, arith, rules}
use Rattle.std.specs.Prelude.{codes}
use Rattle.sym_model.specs.Expansion.{Basis, Fraction, Terms}
use Rattle.sym_model.specs.NumberWord.{IsNumberWord, AreNumberWords, comma_separated}
use Rattle.sym_model.specs.NumberText.{fraction_text, numbers_text}
use Rattle.sym_model.specs.Phrase.{Phrase, numeral, ratio, label, minus_first, operation, plus, minus, times, Level, expression, term, Covers, Is, letter, spelling}
use Rattle.sym_model.specs.OneLine.{atom_text, without_sign, is_unit, is_negative, unsigned_text, later_text, one_line}
use Rattle.printing_laws.proofs.Decimals.{decimal-nonempty, decimal-digits}
use Rattle.printing_laws.proofs.NumberTexts.{AreShort, IsShortFraction}
use Rattle.printing_laws.proofs.Atoms.{IsReadable}
use Rattle.printing_laws.proofs.OneLines.{AreReadable}

-- the phrase of the atom, such as s[2,1], with a given basis and given numbers
abbrev pub atom_phrase : Basis → List ℕ → Phrase
atom_phrase basis numbers = label basis (map decimal numbers)

-- the phrase of the absolute value of a coefficient
abbrev pub coefficient_phrase : Fraction → Phrase
coefficient_phrase c = cond (eqb c.1 1) (numeral (decimal (nat_abs c.0))) (ratio (decimal (nat_abs c.0)) (decimal c.1))

-- the phrase of a term without its sign: its atom (a basis element), multiplied by the absolute value of its coefficient if this value is not 1
abbrev pub term_phrase : Basis → List ℕ × Fraction → Phrase
term_phrase basis t = cond (is_unit t.1) (atom_phrase basis t.0) (operation times (coefficient_phrase t.1) (atom_phrase basis t.0))

-- the phrase `left` of the terms before the term t, followed by `+` or `-` and the phrase of t without its sign
abbrev pub joined : Basis → Phrase → List ℕ × Fraction → Phrase
joined basis left t = operation (cond (is_negative t.1.0) minus plus) left (term_phrase basis t)

abbrev pub later_phrase : Basis → Phrase → Terms (List ℕ) → Phrase
later_phrase basis left [] = left
later_phrase basis left (t ∷ terms) = later_phrase basis (joined basis left t) terms

abbrev pub first_phrase : Basis → List ℕ × Fraction → Phrase
first_phrase basis t = cond (is_negative t.1.0) (minus_first (term_phrase basis t)) (term_phrase basis t)

-- the phrase of the one-line form of a list of terms
abbrev pub line_phrase : Basis → Terms (List ℕ) → Phrase
line_phrase basis [] = numeral (codes "0")
line_phrase basis (t ∷ terms) = later_phrase basis (first_phrase basis t) terms

-- ---- the phrase of a one-line form is in the grammar

number_word : (n : ℕ) → n < 10 ^ 64 → IsNumberWord (decimal n)
number_word n h = record { nonempty = decimal-nonempty n h; digits = decimal-digits n h }

number_words : (numbers : List ℕ) → AreShort numbers → AreNumberWords (map decimal numbers)
number_words [] h = tt
number_words (a ∷ numbers) h = (number_word a h.0, number_words numbers h.1)

coefficient_is : (level : Level) (c : Fraction) → IsShortFraction (without_sign c) → Is level (coefficient_phrase c)
coefficient_is level c h = search (rules, number_word)

term_is : (level : Level) → Covers level term → (basis : Basis) (t : List ℕ × Fraction) → IsReadable t → Is level (term_phrase basis t)
term_is level covers basis t h = search (rules, number_words, coefficient_is)

joined_is : (basis : Basis) (left : Phrase) (t : List ℕ × Fraction) → Is expression left → IsReadable t → Is expression (joined basis left t)
joined_is basis left (numbers, (pos n, den)) h r = (tt, h, term_is term tt basis (numbers, (pos n, den)) r)
joined_is basis left (numbers, (negsuc n, den)) h r = (tt, h, term_is term tt basis (numbers, (negsuc n, den)) r)

later_is : (basis : Basis) (left : Phrase) (terms : Terms (List ℕ)) → Is expression left → AreReadable terms → Is expression (later_phrase basis left terms)
later_is basis left [] h r = h
later_is basis left (t ∷ terms) h r = later_is basis (joined basis left t) terms (joined_is basis left t h r.0) r.1

first_is : (basis : Basis) (t : List ℕ × Fraction) → IsReadable t → Is expression (first_phrase basis t)
first_is basis (numbers, (pos n, den)) r = term_is expression tt basis (numbers, (pos n, den)) r
first_is basis (numbers, (negsuc n, den)) r = (tt, term_is term tt basis (numbers, (negsuc n, den)) r)

pub line_is : (basis : Basis) (terms : Terms (List ℕ)) → AreReadable terms → Is expression (line_phrase basis terms)
line_is basis [] r = record { nonempty = omega arith; digits = ((omega arith, omega arith), tt) }
line_is basis (t ∷ terms) r = later_is basis (first_phrase basis t) terms (first_is basis t r.0) r.1

-- ---- the spelling of the phrase of a one-line form

commas : (numbers : List ℕ) → comma_separated (map decimal numbers) ≡ numbers_text numbers
commas [] = refl
commas (a ∷ []) = refl
commas (a ∷ b ∷ numbers) = ap (λ t. decimal a ++ (44 ∷ t)) (commas (b ∷ numbers))

atom_spelled : (basis : Basis) (numbers : List ℕ) → spelling (atom_phrase basis numbers) ≡ atom_text basis numbers
atom_spelled basis numbers = ap (λ t. letter basis ++ (codes "[" ++ (t ++ codes "]"))) (commas numbers)

coefficient_spelled : (c : Fraction) → spelling (coefficient_phrase c) ≡ fraction_text (without_sign c)
coefficient_spelled c = search rules

term_spelled : (basis : Basis) (t : List ℕ × Fraction) → spelling (term_phrase basis t) ≡ unsigned_text basis t
term_spelled basis t = search (rules, atom_spelled, coefficient_spelled, append_assoc)

joined_spelled : (basis : Basis) (left : Phrase) (t : List ℕ × Fraction) (rest : List ℕ)
    → spelling (joined basis left t) ++ rest ≡ spelling left ++ (cond (is_negative t.1.0) (codes "-") (codes "+") ++ (unsigned_text basis t ++ rest))
joined_spelled basis left (numbers, (pos n, den)) rest = search (rules, append_assoc, term_spelled)
joined_spelled basis left (numbers, (negsuc n, den)) rest = search (rules, append_assoc, term_spelled)

later_spelled : (basis : Basis) (left : Phrase) (terms : Terms (List ℕ)) → spelling (later_phrase basis left terms) ≡ spelling left ++ later_text basis terms
later_spelled basis left [] = sym (append-nil (spelling left))
later_spelled basis left (t ∷ terms) = later_spelled basis (joined basis left t) terms ∙ joined_spelled basis left t (later_text basis terms)

first_spelled : (basis : Basis) (t : List ℕ × Fraction) → spelling (first_phrase basis t) ≡ cond (is_negative t.1.0) (codes "-") [] ++ unsigned_text basis t
first_spelled basis (numbers, (pos n, den)) = term_spelled basis (numbers, (pos n, den))
first_spelled basis (numbers, (negsuc n, den)) = ap (λ s. 45 ∷ s) (term_spelled basis (numbers, (negsuc n, den)))

pub line_spelled : (basis : Basis) (terms : Terms (List ℕ)) → one_line basis terms ≡ spelling (line_phrase basis terms) ++ codes "\n"
line_spelled basis [] = refl
line_spelled basis (t ∷ terms) = search (rules, later_spelled, first_spelled, append_assoc)
