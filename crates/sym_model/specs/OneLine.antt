-- The one-line form of a list of terms, as s[2,1]+2*s[1,1,1] or -1/3*p[3], and the list of terms that such a text
-- spells.
use Rattle.std.specs.Prelude.{ℕ, ℤ, pos, negsuc, nat_abs, neg_ℤ, ◌==◌, Bool, true, false, ◌&&◌}
use Rattle.std.specs.Prelude.{◌||◌, cond, List, [], ◌∷◌, ◌++◌, map, codes, Option, Some, None}
use Rattle.sym_model.specs.Polynomial.{same}
use Rattle.sym_model.specs.Expansion.{Basis, Fraction, Terms}
use Rattle.sym_model.specs.NumberText.{fraction_text, numbers_text, numbers_of, fraction_of, cut_at}
use Rattle.sym_model.specs.NumberText.{before_first, without_last}
use Rattle.sym_model.specs.Kind.{LabelRules}
use Rattle.sym_model.specs.Canonical.{is_canonical_by, is_printable}
use Rattle.sym_model.specs.Phrase.{letter}

-- the text of an atom (a basis element): the letter of the basis and the numbers of the label in brackets, as s[2,1]
abbrev pub atom_text : Basis → List ℕ → List ℕ
atom_text basis numbers = letter basis ++ (codes "[" ++ (numbers_text numbers ++ codes "]"))

-- the absolute value of a coefficient
abbrev pub without_sign : Fraction → Fraction
without_sign c = (pos (nat_abs c.0), c.1)

-- whether a coefficient is 1 or -1
abbrev pub is_unit : Fraction → Bool
is_unit c = (nat_abs c.0 == 1) && (c.1 == 1)

-- the text of a term without its sign: the absolute value of the coefficient and `*`, both left out if that value is 1;
-- and then the atom, such as s[2,1]
abbrev pub unsigned_text : Basis → List ℕ × Fraction → List ℕ
unsigned_text basis t =
    cond (is_unit t.1) [] (fraction_text (without_sign t.1) ++ codes "*") ++ atom_text basis t.0

-- whether the integer is negative
abbrev pub is_negative : ℤ → Bool
is_negative (pos n) = false
is_negative (negsuc n) = true

-- the text of the terms after the first: for each term `+` or `-`, and then the text of the term without its sign
abbrev pub later_text : Basis → Terms (List ℕ) → List ℕ
later_text basis [] = []
later_text basis (t ∷ terms) =
    cond (is_negative t.1.0) (codes "-") (codes "+")
    ++ (unsigned_text basis t ++ later_text basis terms)

-- the one-line form of a list of terms: the texts of the terms one after another, with `-` before a negative first
-- term; or 0 if there is no term; and LF at the end
abbrev pub one_line : Basis → Terms (List ℕ) → List ℕ
one_line basis [] = codes "0\n"
one_line basis (t ∷ terms) =
    cond (is_negative t.1.0) (codes "-") []
    ++ (unsigned_text basis t ++ (later_text basis terms ++ codes "\n"))

-- ---- the list of terms that a text in the one-line form spells

-- whether the byte is `+` or `-` (43 and 45)
abbrev pub is_sign : ℕ → Bool
is_sign byte = (byte == 43) || (byte == 45)

-- the pieces into which the text is cut by one cut in front of each sign `+` or `-`
abbrev pub cut_at_signs : List ℕ → List (List ℕ)
cut_at_signs [] = [] ∷ []
cut_at_signs (byte ∷ text) =
    let pieces = before_first byte (cut_at_signs text) in
    cond (is_sign byte) ([] ∷ pieces) pieces

-- the pieces into which the text is cut by one cut in front of each sign `+` or `-` except at the first byte of the
-- text
abbrev pub pieces_of : List ℕ → List (List ℕ)
pieces_of [] = []
pieces_of (byte ∷ text) = before_first byte (cut_at_signs text)

-- the numbers that the text of an atom such as s[2,1] spells: the text between its brackets, split at its commas
abbrev pub numbers_in_atom : List ℕ → List ℕ
numbers_in_atom (basis ∷ bracket ∷ text) = numbers_of (without_last text)
numbers_in_atom _ = []

-- the term that a text without a sign spells, given its two parts, cut in front of the first `*`. If there is a `*`,
-- the first part is the coefficient, and the atom follows the `*`; otherwise the first part is the atom, and the
-- coefficient is 1.
abbrev pub term_of_cut : List ℕ × List ℕ → List ℕ × Fraction
term_of_cut (atom, []) = (numbers_in_atom atom, (pos 1, 1))
term_of_cut (coefficient, star ∷ atom) = (numbers_in_atom atom, fraction_of coefficient)

-- the term that a text without a sign spells: a coefficient, `*` (the byte 42) and an atom such as s[2,1], or only an
-- atom
abbrev pub unsigned_term : List ℕ → List ℕ × Fraction
unsigned_term text = term_of_cut (cut_at 42 text)

-- the term with its coefficient multiplied by -1
abbrev pub negated : List ℕ × Fraction → List ℕ × Fraction
negated t = (t.0, (neg_ℤ t.1.0, t.1.1))

-- the term that a text spells; the text may begin with `-` (the byte 45) or `+` (the byte 43), the sign of the
-- coefficient
abbrev pub term_of_piece : List ℕ → List ℕ × Fraction
term_of_piece [] = unsigned_term []
term_of_piece (byte ∷ text) =
    cond (byte == 45)
    (negated (unsigned_term text))
    (cond (byte == 43) (unsigned_term text) (unsigned_term (byte ∷ text)))

-- the terms that a line with LF at its end spells; the empty list for the line 0
abbrev pub terms_on_line : List ℕ → Terms (List ℕ)
terms_on_line text =
    cond (same text (codes "0\n")) []
    (map {B = List ℕ × Fraction} term_of_piece (pieces_of (without_last text)))

-- `Some terms` if the list of terms is canonical by `rules` (labels in order, coefficients in lowest terms and not 0),
-- its numerators and denominators fit in 128 bits with a sign, and the text is its one-line form; otherwise None
abbrev pub accepted_line : Basis → LabelRules (List ℕ) → List ℕ → Terms (List ℕ)
    → Option (Terms (List ℕ))
accepted_line basis rules text terms =
    cond (is_canonical_by rules terms && is_printable terms && same (one_line basis terms) text)
    (Some terms) None

-- the list of terms that is canonical by `rules` (labels in order, coefficients in lowest terms and not 0), has
-- numerators and denominators of 128 bits with a sign, and has this text as its one-line form; None if there is no such
-- list
abbrev pub read_one_line : Basis → LabelRules (List ℕ) → List ℕ → Option (Terms (List ℕ))
read_one_line basis rules text = accepted_line basis rules text (terms_on_line text)
