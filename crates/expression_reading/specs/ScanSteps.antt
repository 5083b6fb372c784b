-- The change of the state of a scan by one symbol. A scan reads an expression from left to right and finds its first error. A *mark* is a number or
-- an opening parenthesis, that is, something that can be an error.
use Rattle.std.specs.Prelude.{◌≡◌, ℕ, zero, suc, ◌+◌, ◌-◌, ◌*◌, ◌^◌, ◌==◌, ◌≤◌, ◌<◌, nat_lt, min}
use Rattle.std.specs.Prelude.{Bool, true, false, ◌||◌, ◌&&◌, cond, Option, Some, None, option_map}
use Rattle.std.specs.Prelude.{List, [], ◌∷◌, ◌⊎◌, Result, Ok, Err, flat_map}
use Rattle.sym_model.specs.Phrase.{Phrase, SpellsPhrase, BeginsExpression}
use Rattle.sym_model.specs.ExpressionOffence.{marks, offences_at, first_of, Mark as PlainMark}
use Rattle.sym_model.specs.ExpressionOffence.{entry, WordOffence as PlainOffence, earlier}
use Rattle.sym_model.specs.LongestPrefix.{IsLongestPrefix}
use Rattle.expression_laws.specs.LeftToRight.{Symbol, digit, plus_sign, minus_sign, star, slash}
use Rattle.expression_laws.specs.LeftToRight.{opens, closes, opens_list, closes_list, comma}
use Rattle.expression_laws.specs.LeftToRight.{letter_of}
use Rattle.expression_reading.specs.declared.offence.Mark.{Mark}
use Rattle.expression_reading.specs.declared.offence.Mark.TheVariants.{Value}
use Rattle.expression_reading.specs.declared.offence.Mark.TheVariants.{Denominator as Zeroable}
use Rattle.expression_reading.specs.declared.offence.Mark.TheVariants.{Entry as Listed, Opening}
use Rattle.expression_reading.specs.Offences.{offence_in, mark_in, first_kind}
use Rattle.expression_reading.specs.declared.scan.Scan.{Scan}
use Rattle.expression_reading.specs.declared.scan.Mode.{Mode}
use Rattle.expression_reading.specs.declared.scan.Mode.TheVariants.{Start, Operand, Number, Slash}
use Rattle.expression_reading.specs.declared.scan.Mode.TheVariants.{Denominator, Letter}
use Rattle.expression_reading.specs.declared.scan.Mode.TheVariants.{List as Listing, Entry, Whole}

-- n, or 2^127 if n is greater
abbrev pub capped : ℕ → ℕ
capped n = min n (2 ^ 127)

-- if the symbol is a digit, its byte is at least 48
abbrev pub IsSoundDigit : Symbol → Type 0
IsSoundDigit (digit byte) = 48 ≤ byte
IsSoundDigit _ = Unit {0}

-- if the mode is that of a number in the list of an atom, the count of the numbers before it is less than 2^64 - 1
abbrev pub CanCount : Mode → Type 0
CanCount (Entry before start value) = before.count + 1 < 2 ^ 64
CanCount _ = Unit {0}

-- the mode after a symbol that follows a whole factor; None if the symbol is invalid there
abbrev pub mode_after_factor : Symbol → Option Mode
mode_after_factor plus_sign = Some Operand
mode_after_factor minus_sign = Some Operand
mode_after_factor star = Some Operand
mode_after_factor closes = Some Whole
mode_after_factor _ = None

-- the mode after a symbol at the byte `at`, if a factor is expected there; None if the symbol begins no factor
abbrev pub mode_before_factor : ℕ → Symbol → Option Mode
mode_before_factor at (digit byte) = Some (Number at (byte - 48))
mode_before_factor at (letter_of basis) = Some Letter
mode_before_factor at opens = Some Start
mode_before_factor at _ = None

-- the mode after a symbol at the byte `at`, given the mode before it; None if the symbol is invalid there
abbrev pub mode_after : Mode → ℕ → Symbol → Option Mode
mode_after Start at minus_sign = Some Operand
mode_after Start at s = mode_before_factor at s
mode_after Operand at s = mode_before_factor at s
mode_after (Number start value) at (digit byte) =
    Some (Number start (capped (10 * value + (byte - 48))))
mode_after (Number start value) at slash = Some Slash
mode_after (Number start value) at s = mode_after_factor s
mode_after Slash at (digit byte) = Some (Denominator at (byte - 48))
mode_after Slash at s = None
mode_after (Denominator start value) at (digit byte) =
    Some (Denominator start (capped (10 * value + (byte - 48))))
mode_after (Denominator start value) at s = mode_after_factor s
mode_after Letter at opens_list = Some (Listing (record { count = 0; last = None }))
mode_after Letter at s = None
mode_after (Listing before) at (digit byte) = Some (Entry before at (byte - 48))
mode_after (Listing before) at closes_list = cond (before.count == 0) (Some Whole) None
mode_after (Listing before) at s = None
mode_after (Entry before start value) at (digit byte) =
    Some (Entry before start (capped (10 * value + (byte - 48))))
mode_after (Entry before start value) at comma =
    Some (Listing (record { count = before.count + 1; last = Some value }))
mode_after (Entry before start value) at closes_list = Some Whole
mode_after (Entry before start value) at s = None
mode_after Whole at s = mode_after_factor s

-- the number of open parentheses after a symbol, given the number before it; None if the symbol closes a parenthesis that is not open
abbrev pub depth_after : ℕ → Symbol → Option ℕ
depth_after depth opens = Some (depth + 1)
depth_after zero closes = None
depth_after (suc depth) closes = Some depth
depth_after depth _ = Some depth

-- the mark of the number whose digits are being read in this mode, with the byte at which the number begins; None if the mode is not that of a number
abbrev pub number_mark : Mode → Option (ℕ × Mark)
number_mark (Number start n) = Some (start, Value n)
number_mark (Denominator start n) = Some (start, Zeroable n)
number_mark (Entry before start n) = Some (start, Listed before n)
number_mark _ = None

-- the mark that is complete when a symbol is read at the byte `at`: a number that ends before the symbol, or the symbol itself if it opens a
-- parenthesis
abbrev pub mark_before : Mode → ℕ → ℕ → Symbol → Option (ℕ × Mark)
mark_before mode depth at (digit byte) = None
mark_before mode depth at opens = Some (at, Opening (depth + 1))
mark_before mode depth at _ = number_mark mode

-- whether a mark is a number over 20, the greatest degree, in the list of an atom
abbrev pub is_high : PlainMark → Bool
is_high (entry count before n) = nat_lt 20 n
is_high _ = false

-- the state of a scan before the first byte
abbrev pub scan_start : Scan
scan_start = record { mode = Start; depth = 0; first = None; is_high = false }

-- the error of a mark, given as the byte at which the mark begins and the mark itself: this byte and the kind of the error; None if the mark is no
-- error
abbrev pub first_at : ℕ × PlainMark → Option PlainOffence
first_at m = option_map (λ kind. (m.0, kind)) (first_kind m.1)

-- Let `before` and `after` be a scan before and after a mark. The first error in `after` is the first error in `before` or that of the mark,
-- whichever comes first. The flag `is_high` is true in `after` if it is true in `before`, or if the mark is a number over 20 in the list of an atom
-- (a basis element such as s[2,1]). With no mark, both remain the same.
abbrev pub Sees : Scan → Option (ℕ × Mark) → Scan → Type 0
Sees before None after = (after.first ≡ before.first) × (after.is_high ≡ before.is_high)
Sees before (Some m) after =
    (option_map offence_in after.first
    ≡ earlier (option_map offence_in before.first) (first_at (m.0, mark_in m.1)))
    × (after.is_high ≡ (before.is_high || is_high (mark_in m.1)))

-- the scan `before` becomes the scan `after` by the symbol s at the byte `at`, or (`None`) s is invalid there
abbrev pub StepsTo : Scan → ℕ → Symbol → Option Scan → Type 0
StepsTo before at s None =
    (mode_after before.mode at s ≡ None) ⊎ (depth_after before.depth s ≡ None)
StepsTo before at s (Some after) =
    (mode_after before.mode at s ≡ Some after.mode)
    × (depth_after before.depth s ≡ Some after.depth)
    × Sees before (mark_before before.mode before.depth at s) after

-- whether in this mode the bytes read end with a whole factor
abbrev pub has_factor : Mode → Bool
has_factor (Number start n) = true
has_factor (Denominator start n) = true
has_factor Whole = true
has_factor _ = false

-- whether the bytes that the scan has read are an expression
abbrev pub is_whole : Scan → Bool
is_whole s = has_factor s.mode && (s.depth == 0)

-- whether some mark is a number over 20, the greatest degree, in the list of an atom
abbrev pub any_high : List (ℕ × PlainMark) → Bool
any_high [] = false
any_high (m ∷ ms) = is_high m.1 || any_high ms

-- the result of a scan of the word is correct: if the word is an expression, the first error at its marks, and whether the list of an atom has a
-- number over 20; otherwise the byte of the first error of syntax
abbrev pub IsScanned : List ℕ → Result Scan ℕ → Type 0
IsScanned word (Ok scan) =
    (phrase : Phrase) × SpellsPhrase word phrase
    × (option_map offence_in scan.first ≡ first_of (flat_map offences_at (marks 0 0 phrase)))
    × (scan.is_high ≡ any_high (marks 0 0 phrase))
IsScanned word (Err byte) =
    ((phrase : Phrase) → SpellsPhrase word phrase → ⊥) × IsLongestPrefix BeginsExpression word byte
