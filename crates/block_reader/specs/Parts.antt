-- Pieces of a printed line, and lists of small numbers.
use Rattle.std.specs.Prelude.{ℕ, ◌<◌, ◌^◌, List, [], ◌∷◌}
use Rattle.sym_model.specs.NumberText.{cut_at, decimal_value, without_last}

-- the text without its first and its last byte
abbrev pub inside_of : List ℕ → List ℕ
inside_of [] = []
inside_of (byte ∷ text) = without_last text

-- the denominator of a fraction, given its text after the numerator: 1 if this text is empty, and otherwise the number after the `/`
abbrev pub denominator_after : List ℕ → ℕ
denominator_after [] = 1
denominator_after (slash ∷ text) = decimal_value (cut_at 47 text).0

-- each number is below 2^16
abbrev pub AreSmall : List ℕ → Type 0
AreSmall [] = Unit {0}
AreSmall (n ∷ numbers) = (n < 2 ^ 16) × AreSmall numbers
