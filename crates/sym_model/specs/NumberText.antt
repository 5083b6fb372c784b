-- The text of numbers, fractions and lists of numbers, and the numbers, fractions and lists that a text spells.
use Rattle.std.specs.Prelude.{ℕ, ◌+◌, ◌-◌, ◌*◌, ◌==◌, ℤ, pos, neg_ℤ, List, [], ◌∷◌, ◌++◌, map, cond}
use Rattle.std.specs.Prelude.{codes, decimal}
use Rattle.std.specs.Fmt.{signed_decimal}
use Rattle.sym_model.specs.Expansion.{Fraction}

-- the text of a fraction: NUM/DEN, or only NUM if the denominator is 1
abbrev pub fraction_text : Fraction → List ℕ
fraction_text c =
    cond (c.1 == 1) (signed_decimal c.0) (signed_decimal c.0 ++ (codes "/" ++ decimal c.1))

-- the text of a list of numbers: the numbers in decimal with commas between them
abbrev pub numbers_text : List ℕ → List ℕ
numbers_text [] = []
numbers_text (a ∷ []) = decimal a
numbers_text (a ∷ b ∷ numbers) = decimal a ++ (codes "," ++ numbers_text (b ∷ numbers))

-- the text of a list of numbers in parentheses, as (3,1)
abbrev pub label_text : List ℕ → List ℕ
label_text numbers = codes "(" ++ (numbers_text numbers ++ codes ")")

-- the pieces of a text with a byte added at the front of the first piece; if there is no piece, one piece of this
-- byte
abbrev pub before_first : ℕ → List (List ℕ) → List (List ℕ)
before_first byte [] = (byte ∷ []) ∷ []
before_first byte (piece ∷ pieces) = (byte ∷ piece) ∷ pieces

-- the pieces of a text between the occurrences of a separator; a text without a separator is one piece
abbrev pub split_at : ℕ → List ℕ → List (List ℕ)
split_at separator [] = [] ∷ []
split_at separator (byte ∷ text) =
    cond (byte == separator) ([] ∷ split_at separator text)
    (before_first byte (split_at separator text))

-- a text cut into two parts, with a byte added at the front of the first part
abbrev pub before_cut : ℕ → List ℕ × List ℕ → List ℕ × List ℕ
before_cut byte cut = (byte ∷ cut.0, cut.1)

-- the text cut into two parts in front of its first separator, which begins the second part; the second part is empty
-- if the text has no separator
abbrev pub cut_at : ℕ → List ℕ → List ℕ × List ℕ
cut_at separator [] = ([], [])
cut_at separator (byte ∷ text) =
    cond (byte == separator) ([], byte ∷ text) (before_cut byte (cut_at separator text))

-- the number whose decimal digits are those of n followed by the given ASCII digits
abbrev pub value_from : ℕ → List ℕ → ℕ
value_from n [] = n
value_from n (digit ∷ digits) = value_from (10 * n + (digit - 48)) digits

-- the number whose decimal digits are the given ASCII digits; leading zeros change nothing, and the empty text has
-- the value 0
abbrev pub decimal_value : List ℕ → ℕ
decimal_value digits = value_from 0 digits

-- the integer that a text spells: decimal digits, with `-` (the byte 45) before them if it is negative
abbrev pub signed_value : List ℕ → ℤ
signed_value [] = pos 0
signed_value (byte ∷ digits) =
    cond (byte == 45) (neg_ℤ (pos (decimal_value digits))) (pos (decimal_value (byte ∷ digits)))

-- the fraction that a text spells, given its pieces between the occurrences of `/`: the first piece is the numerator,
-- the second the denominator; a text of one piece is an integer
abbrev pub fraction_of_pieces : List (List ℕ) → Fraction
fraction_of_pieces [] = (pos 0, 0)
fraction_of_pieces (num ∷ []) = (signed_value num, 1)
fraction_of_pieces (num ∷ den ∷ others) = (signed_value num, decimal_value den)

-- the fraction that a text spells: NUM/DEN, with `/` (the byte 47), or an integer, which gets the denominator 1
abbrev pub fraction_of : List ℕ → Fraction
fraction_of text = fraction_of_pieces (split_at 47 text)

-- the text without its last byte
abbrev pub without_last : List ℕ → List ℕ
without_last [] = []
without_last (byte ∷ []) = []
without_last (byte ∷ next ∷ text) = byte ∷ without_last (next ∷ text)

-- the numbers that a text spells, with commas (the byte 44) between them; the empty list for the empty text
abbrev pub numbers_of : List ℕ → List ℕ
numbers_of [] = []
numbers_of (byte ∷ text) = map decimal_value (split_at 44 (byte ∷ text))

-- the numbers that a text in parentheses spells, as (3,1): the text between the parentheses, split at its commas
abbrev pub label_of : List ℕ → List ℕ
label_of [] = []
label_of (parenthesis ∷ text) = numbers_of (without_last text)
