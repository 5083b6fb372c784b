-- Forms for which it is clear, for each word of a list that is read from the left, to which part of the form it belongs: one-unambiguous regular
-- expressions (Brüggemann-Klein and Wood).
use Rattle.std.specs.Prelude.{Bool, true, false, not, ◌&&◌, cond, List, [], ◌∷◌, ◌++◌}
use Rattle.sym_model.specs.Polynomial.{same}
use Rattle.sym_model.specs.Form.{Class, exact, number, target, Form, empty, word, sequence, either}
use Rattle.sym_model.specs.Form.{many, is_number_word, is_letter_of, is_skippable}

-- a test of two classes that is true only if no word is of both: exact for two fixed texts, and for a fixed text and a number or the letter of a
-- basis, and false for any other two classes
abbrev pub is_apart : Class → Class → Bool
is_apart (exact a) (exact b) = not (same a b)
is_apart (exact a) number = not (is_number_word a)
is_apart (exact a) (target bases) = not (is_letter_of bases a)
is_apart number (exact b) = not (is_number_word b)
is_apart (target bases) (exact b) = not (is_letter_of bases b)
is_apart c d = false

-- whether `is_apart` is true for c and each class of the list, so that no word of the class c is of one of these classes
abbrev pub is_apart_from : Class → List Class → Bool
is_apart_from c [] = true
is_apart_from c (d ∷ classes) = is_apart c d && is_apart_from c classes

-- whether `is_apart` is true for each class of the first list and each class of the second
abbrev pub are_apart : List Class → List Class → Bool
are_apart [] ds = true
are_apart (c ∷ cs) ds = is_apart_from c ds && are_apart cs ds

-- the classes to which the first word of a list of words of this form can belong
abbrev pub firsts : Form → List Class
firsts empty = []
firsts (word c) = c ∷ []
firsts (sequence f g) = firsts f ++ cond (is_skippable f) (firsts g) []
firsts (either f g) = firsts f ++ firsts g
firsts (many f) = firsts f

-- the classes of the words w that can continue a list of words: some words of the form, followed by w, begin a longer list of words of the form
abbrev pub continuing : Form → List Class
continuing empty = []
continuing (word c) = []
continuing (sequence f g) = continuing g ++ cond (is_skippable g) (continuing f) []
continuing (either f g) =
    continuing f ++ (continuing g
    ++ (cond (is_skippable f) (firsts g) [] ++ cond (is_skippable g) (firsts f) []))
continuing (many f) = firsts f ++ continuing f

-- whether, when words of the form are read from the left, the class of each word determines the part of the form to which it belongs
abbrev pub is_unambiguous : Form → Bool
is_unambiguous empty = true
is_unambiguous (word c) = true
is_unambiguous (sequence f g) =
    is_unambiguous f && (is_unambiguous g && are_apart (continuing f) (firsts g))
is_unambiguous (either f g) =
    is_unambiguous f
    && (is_unambiguous g && (are_apart (firsts f) (firsts g)
    && not (is_skippable f && is_skippable g)))
is_unambiguous (many f) =
    is_unambiguous f && (not (is_skippable f) && are_apart (continuing f) (firsts f))

-- whether no word can be a first word both of f and of one of the other forms (by `are_apart`), and each of the other forms requires at least one
-- word
abbrev pub is_told_from : Form → List Form → Bool
is_told_from f [] = true
is_told_from f (g ∷ forms) =
    not (is_skippable g) && (are_apart (firsts f) (firsts g) && is_told_from f forms)

-- whether each form is unambiguous and requires at least one word, and the first word determines the form
abbrev pub are_unambiguous : List Form → Bool
are_unambiguous [] = true
are_unambiguous (f ∷ forms) =
    is_unambiguous f && (not (is_skippable f) && (is_told_from f forms && are_unambiguous forms))
