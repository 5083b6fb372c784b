-- The errors of an expression (a limit is exceeded, a number of an atom such as s[2,1] is greater than the one before
-- it, a denominator is 0, ..), each with its byte in the word and its kind; and the first error of a list of errors.
-- Most errors are found at marks: a *mark* says what begins at a byte of the expression, for example a number (`Mark`).
use Rattle.std.specs.Prelude.{◌≡◌, ℕ, ◌+◌, ◌^◌, ◌<◌, ◌==◌, nat_le, nat_lt, Bool, false, ◌&&◌, ◌||◌}
use Rattle.std.specs.Prelude.{cond, List, [], ◌∷◌, ◌++◌, length, Option, Some, None, ◌⊎◌, flat_map}
use Rattle.sym_model.specs.Expansion.{Basis, monomials, schurs}
use Rattle.sym_model.specs.Expression.{degree}
use Rattle.sym_model.specs.PrintedBlock.{decimal_value}
use Rattle.sym_model.specs.Phrase.{Operator, minus, Phrase, numeral, ratio, label, brackets}
use Rattle.sym_model.specs.Phrase.{minus_first, operation, spelling, tree}

-- the kinds of errors in words that spell a command: a number over 2^127 - 1 (literal), another limit exceeded
-- (range), numbers that do not fit each other or are not allowed (shape). Errors at the same byte are ordered by
-- their kinds, in this order.
pub data OffenceKind : Type 0 where
  literal : OffenceKind
  range : OffenceKind
  shape : OffenceKind

-- the meaning of a byte of an expression at which something begins: a number or a numerator, with its value; a
-- denominator, with its value; a number in the list of an atom, with the count of numbers before it in that list,
-- the last of these, and its value; or an opening parenthesis, with the number of parentheses that are then open
pub data Mark : Type 0 where
  value : ℕ → Mark
  denominator : ℕ → Mark
  entry : ℕ → Option ℕ → ℕ → Mark
  opening : ℕ → Mark

-- whether the value exceeds 2^127 - 1
abbrev pub is_wide : ℕ → Bool
is_wide n = nat_le (2 ^ 127) n

-- whether there is a number before n in its list, and n is greater than that number
abbrev pub rises : Option ℕ → ℕ → Bool
rises None n = false
rises (Some before) n = nat_lt before n

-- whether a mark is an error of the given kind: a number over 2^127 - 1 (literal); the 65th number of an atom, or a
-- parenthesis that opens depth 65 (range); a number of an atom that is greater than the number before it, or the
-- denominator 0 (shape)
abbrev pub is_offence : Mark → OffenceKind → Bool
is_offence (value n) literal = is_wide n
is_offence (denominator n) literal = is_wide n
is_offence (entry count before n) literal = is_wide n
is_offence (entry count before n) range = count == 64
is_offence (opening depth) range = depth == 65
is_offence (entry count before n) shape = rises before n
is_offence (denominator n) shape = n == 0
is_offence _ _ = false

-- the marks of `words`, which are numbers in the list of an atom, with one comma between two neighbours. The first of
-- `words` begins at `byte`. The list has `count` numbers before `words`, the last of them `before` (None if `count` is 0).
abbrev pub entry_marks : ℕ → ℕ → Option ℕ → List (List ℕ) → List (ℕ × Mark)
entry_marks byte count before [] = []
entry_marks byte count before (word ∷ words) =
    (byte, entry count before (decimal_value word))
    ∷ entry_marks (byte + length word + 1) (count + 1) (Some (decimal_value word)) words

-- the marks of an expression as it is written (`Phrase`), from left to right; the expression begins at byte `byte` of
-- the word, and `depth` parentheses are open in front of it
abbrev pub marks : ℕ → ℕ → Phrase → List (ℕ × Mark)
marks depth byte (numeral digits) = (byte, value (decimal_value digits)) ∷ []
marks depth byte (ratio num den) =
    (byte, value (decimal_value num)) ∷ (byte + length num + 1, denominator (decimal_value den))
    ∷ []
marks depth byte (label basis words) = entry_marks (byte + 2) 0 None words
marks depth byte (brackets inner) = (byte, opening (depth + 1)) ∷ marks (depth + 1) (byte + 1) inner
marks depth byte (minus_first inner) = marks depth (byte + 1) inner
marks depth byte (operation operator left right) =
    marks depth byte left ++ marks depth (byte + length (spelling left) + 1) right

-- an error in a word: its byte and its kind
abbrev pub WordOffence : Type 0
WordOffence = ℕ × OffenceKind

-- the error of the given kind at a mark, as a list; the empty list if the mark has no error of this kind
abbrev pub offence_at : OffenceKind → ℕ × Mark → List WordOffence
offence_at kind m = cond (is_offence m.1 kind) ((m.0, kind) ∷ []) []

-- the errors of all three kinds at a mark
abbrev pub offences_at : ℕ × Mark → List WordOffence
offences_at m = offence_at literal m ++ (offence_at range m ++ offence_at shape m)

-- the greatest degree that an expression may have if it is to be expanded in the basis `target`
abbrev pub degree_limit : Basis → ℕ
degree_limit monomials = 20
degree_limit schurs = 20
degree_limit _ = 15

-- the greatest degree that each expression of a plethysm may have, and the greatest product of the two degrees
abbrev pub plethysm_degree_limit : ℕ
plethysm_degree_limit = 10

-- the range errors of an expression as a whole: one at byte 4096 if it has more than 4096 bytes, and one at its end
-- if its degree exceeds `limit`
abbrev pub offences_of_whole_within : ℕ → Phrase → List WordOffence
offences_of_whole_within limit phrase =
    cond (nat_lt 4096 (length (spelling phrase))) ((4096, range) ∷ []) []
    ++ cond (nat_lt limit (degree (tree phrase))) ((length (spelling phrase), range) ∷ []) []

-- all errors of an expression for which the greatest allowed degree is `limit`
abbrev pub offences_within : ℕ → Phrase → List WordOffence
offences_within limit phrase =
    flat_map offences_at (marks 0 0 phrase) ++ offences_of_whole_within limit phrase

-- the range errors of an expression as a whole, if it is to be expanded in the basis `target`: one for too many bytes,
-- and one for too great a degree
abbrev pub offences_of_whole : Basis → Phrase → List WordOffence
offences_of_whole target phrase = offences_of_whole_within (degree_limit target) phrase

-- all errors of an expression that is to be expanded in the basis `target`
abbrev pub offences : Basis → Phrase → List WordOffence
offences target phrase = offences_within (degree_limit target) phrase

-- a shape error at the byte if the operator is minus; otherwise no error
abbrev pub minus_offences : ℕ → Operator → List WordOffence
minus_offences byte minus = (byte, shape) ∷ []
minus_offences byte operator = []

-- the shape errors of an expression that begins at byte `byte`, if it may have neither minus signs nor fractions:
-- each minus sign, and each fraction at its first byte
abbrev pub sign_offences : ℕ → Phrase → List WordOffence
sign_offences byte (numeral digits) = []
sign_offences byte (ratio num den) = (byte, shape) ∷ []
sign_offences byte (label basis words) = []
sign_offences byte (brackets inner) = sign_offences (byte + 1) inner
sign_offences byte (minus_first inner) = (byte, shape) ∷ sign_offences (byte + 1) inner
sign_offences byte (operation operator left right) =
    sign_offences byte left
    ++ minus_offences (byte + length (spelling left)) operator
    ++ sign_offences (byte + length (spelling left) + 1) right

-- all errors that the inner expression of a plethysm has by itself: those with the degree limit 10, each minus sign
-- and each fraction
abbrev pub inner_offences : Phrase → List WordOffence
inner_offences phrase = offences_within plethysm_degree_limit phrase ++ sign_offences 0 phrase

-- the rank of a kind: errors at one place are ordered by the ranks of their kinds
abbrev pub rank : OffenceKind → ℕ
rank literal = 0
rank range = 1
rank shape = 2

-- whether the error o is at a lower byte than the error p, or at the same byte and of a kind of the same or a lower
-- rank
abbrev pub comes_first : WordOffence → WordOffence → Bool
comes_first o p = nat_lt o.0 p.0 || ((o.0 == p.0) && nat_le (rank o.1) (rank p.1))

-- the first of two errors; the one that is present if the other is absent, and None if both are absent
abbrev pub earlier : Option WordOffence → Option WordOffence → Option WordOffence
earlier None found = found
earlier (Some o) None = Some o
earlier (Some o) (Some p) = cond (comes_first o p) (Some o) (Some p)

-- the first error of a list of errors, or None if the list is empty
abbrev pub first_of : List WordOffence → Option WordOffence
first_of [] = None
first_of (o ∷ os) = earlier (Some o) (first_of os)

-- the error o comes before the error p: o is at a lower byte, or at the same byte and of a kind of lower rank
abbrev pub ComesBefore : WordOffence → WordOffence → Type 0
ComesBefore o p = (o.0 < p.0) ⊎ ((o.0 ≡ p.0) × (rank o.1 < rank p.1))
