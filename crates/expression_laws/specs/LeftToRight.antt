-- A machine that reads an expression byte by byte from the left: its states, and its step for the next byte. The grammar (specs/Phrase) defines the
-- expressions: an expression is a sum or difference of terms, possibly with a minus in front; a term is a product of factors; a factor is a number, a
-- fraction, an atom such as s[3,1], or an expression in parentheses. The machine serves to prove that a reader of expressions is correct.
use Rattle.std.specs.Prelude.{ℕ, ◌==◌, nat_le, Bool, true, false, ◌&&◌, cond, List, [], ◌∷◌, ◌++◌}
use Rattle.std.specs.Prelude.{Option, Some, None, option_map}
use Rattle.sym_model.specs.Expansion.{Basis, monomials, elementaries, completes, power_sums, schurs}
use Rattle.sym_model.specs.Phrase.{Operator, plus, minus, times, Phrase, numeral, ratio, label}
use Rattle.sym_model.specs.Phrase.{brackets, minus_first, operation}

-- the symbols of the grammar of expressions, and `other` for a byte that no expression has; each byte has one symbol (`symbol`)
pub data Symbol : Type 0 where
  digit : ℕ → Symbol
  plus_sign : Symbol
  minus_sign : Symbol
  star : Symbol
  slash : Symbol
  opens : Symbol
  closes : Symbol
  opens_list : Symbol
  closes_list : Symbol
  comma : Symbol
  letter_of : Basis → Symbol
  other : Symbol

-- the symbol of a byte that is not a digit
abbrev pub sign_symbol : ℕ → Symbol
sign_symbol byte =
    cond (byte == 43) plus_sign
    (cond (byte == 45) minus_sign
    (cond (byte == 42) star
    (cond (byte == 47) slash
    (cond (byte == 40) opens
    (cond (byte == 41) closes
    (cond (byte == 91) opens_list
    (cond (byte == 93) closes_list
    (cond (byte == 44) comma
    (cond (byte == 109) (letter_of monomials)
    (cond (byte == 101) (letter_of elementaries)
    (cond (byte == 104) (letter_of completes)
    (cond (byte == 112) (letter_of power_sums)
    (cond (byte == 115) (letter_of schurs) other)))))))))))))

-- the symbol of any byte
abbrev pub symbol : ℕ → Symbol
symbol byte = cond (nat_le 48 byte && nat_le byte 57) (digit byte) (sign_symbol byte)

-- the text before the current term, within its parentheses: nothing, a minus at the front, or an expression and an operator
pub data BeforeTerm (A : Type 0) : Type 0 where
  no_term : BeforeTerm A
  negating : BeforeTerm A
  adding : A → BeforeTerm A
  subtracting : A → BeforeTerm A

-- the text before the current factor, within its term: nothing, or a term and a star
pub data BeforeFactor (A : Type 0) : Type 0 where
  no_factor : BeforeFactor A
  multiplying : A → BeforeFactor A

-- the open parentheses, the innermost one first. Each of them begins a factor of a term; `inside` stores the text before this term and the text
-- between the beginning of this term and the parenthesis.
pub data Opened (A : Type 0) : Type 0 where
  outermost : Opened A
  inside : Opened A → BeforeTerm A → BeforeFactor A → Opened A

-- the part of the current factor that is read; the list in `in_list` and `in_entry` has the numbers of an atom such as s[3,1] that are already
-- followed by a comma
pub data Piece (A N : Type 0) : Type 0 where
  awaited : Piece A N
  in_number : N → Piece A N
  after_slash : N → Piece A N
  in_denominator : N → N → Piece A N
  after_letter : Basis → Piece A N
  in_list : Basis → List N → Piece A N
  in_entry : Basis → List N → N → Piece A N
  closed : A → Piece A N

-- the state after some bytes are read: the parts that an expression with this beginning has so far, or `dead` if no expression begins with these
-- bytes
pub data State (A N : Type 0) : Type 0 where
  at : Piece A N → BeforeTerm A → BeforeFactor A → Opened A → State A N
  dead : State A N

-- the operations by which a reader computes a value of type A for each expression and a value of type N for each number
pub record Makes (A N : Type 0) : Type 0 where
  pub begin : ℕ → N
  pub extend : N → ℕ → N
  pub numeral_of : N → A
  pub ratio_of : N → N → A
  pub label_of : Basis → List N → A
  pub brackets_of : A → A
  pub minus_first_of : A → A
  pub operation_of : Operator → A → A → A

-- the term that is complete after the factor x: x itself, or the product of the term before x and x
abbrev pub join_factor : {A N : Type 0} → Makes A N → BeforeFactor A → A → A
join_factor m no_factor x = x
join_factor m (multiplying t) x = m.operation_of times t x

-- the expression that is complete after the term x: x itself, -x, or the sum or difference of the expression before x and x
abbrev pub join_term : {A N : Type 0} → Makes A N → BeforeTerm A → A → A
join_term m no_term x = x
join_term m negating x = m.minus_first_of x
join_term m (adding e) x = m.operation_of plus e x
join_term m (subtracting e) x = m.operation_of minus e x

-- the expression that is complete after the factor x, given the texts before its term and before x
abbrev pub join : {A N : Type 0} → Makes A N → BeforeTerm A → BeforeFactor A → A → A
join m t f x = join_term m t (join_factor m f x)

-- the state after reading a symbol that follows the whole factor x
abbrev pub after_factor : {A N : Type 0} → Makes A N → A → BeforeTerm A → BeforeFactor A → Opened A
    → Symbol → State A N
after_factor m x t f o star = at awaited t (multiplying (join_factor m f x)) o
after_factor m x t f o plus_sign = at awaited (adding (join m t f x)) no_factor o
after_factor m x t f o minus_sign = at awaited (subtracting (join m t f x)) no_factor o
after_factor m x t f (inside o t' f') closes = at (closed (m.brackets_of (join m t f x))) t' f' o
after_factor m x t f o _ = dead

-- the state after reading a symbol at the place of the first byte of a factor
abbrev pub before_factor : {A N : Type 0} → Makes A N → BeforeTerm A → BeforeFactor A → Opened A
    → Symbol → State A N
before_factor m t f o (digit byte) = at (in_number (m.begin byte)) t f o
before_factor m t f o (letter_of basis) = at (after_letter basis) t f o
before_factor m t f o opens = at awaited no_term no_factor (inside o t f)
before_factor m no_term no_factor o minus_sign = at awaited negating no_factor o
before_factor m t f o _ = dead

-- the state after reading a symbol at the place of the first byte of a number in the list of an atom such as s[3,1]
abbrev pub in_list_step : {A N : Type 0} → Makes A N → Basis → List N → BeforeTerm A
    → BeforeFactor A → Opened A → Symbol → State A N
in_list_step m basis words t f o (digit byte) = at (in_entry basis words (m.begin byte)) t f o
in_list_step m basis [] t f o closes_list = at (closed (m.label_of basis [])) t f o
in_list_step m basis words t f o _ = dead

-- the state after one more symbol is read
abbrev pub step : {A N : Type 0} → Makes A N → State A N → Symbol → State A N
step m dead s = dead
step m (at awaited t f o) s = before_factor m t f o s
step m (at (in_number n) t f o) (digit byte) = at (in_number (m.extend n byte)) t f o
step m (at (in_number n) t f o) slash = at (after_slash n) t f o
step m (at (in_number n) t f o) s = after_factor m (m.numeral_of n) t f o s
step m (at (after_slash n) t f o) (digit byte) = at (in_denominator n (m.begin byte)) t f o
step m (at (after_slash n) t f o) s = dead
step m (at (in_denominator n k) t f o) (digit byte) = at (in_denominator n (m.extend k byte)) t f o
step m (at (in_denominator n k) t f o) s = after_factor m (m.ratio_of n k) t f o s
step m (at (after_letter basis) t f o) opens_list = at (in_list basis []) t f o
step m (at (after_letter basis) t f o) s = dead
step m (at (in_list basis words) t f o) s = in_list_step m basis words t f o s
step m (at (in_entry basis words n) t f o) (digit byte) =
    at (in_entry basis words (m.extend n byte)) t f o
step m (at (in_entry basis words n) t f o) comma = at (in_list basis (words ++ n ∷ [])) t f o
step m (at (in_entry basis words n) t f o) closes_list =
    at (closed (m.label_of basis (words ++ n ∷ []))) t f o
step m (at (in_entry basis words n) t f o) s = dead
step m (at (closed x) t f o) s = after_factor m x t f o s

-- the state after all bytes of a text are read from a given state
abbrev pub run : {A N : Type 0} → Makes A N → List ℕ → State A N → State A N
run m [] state = state
run m (byte ∷ text) state = run m text (step m state (symbol byte))

-- the state before the first byte
abbrev pub start : {A N : Type 0} → State A N
start = at awaited no_term no_factor outermost

-- the operations for which the value of an expression is the phrase itself, and the value of a number the list of its digits
abbrev pub phrases : Makes Phrase (List ℕ)
phrases = record {
  begin = λ byte. byte ∷ [];
  extend = λ digits byte. digits ++ byte ∷ [];
  numeral_of = numeral;
  ratio_of = ratio;
  label_of = label;
  brackets_of = brackets;
  minus_first_of = minus_first;
  operation_of = operation;
}

-- whether the state is not `dead`, that is, whether some expression begins with the bytes read
abbrev pub is_live : {A N : Type 0} → State A N → Bool
is_live dead = false
is_live (at p t f o) = true

-- the factor that is complete after the bytes read, if they end with a complete factor
abbrev pub factor_found : {A N : Type 0} → Makes A N → Piece A N → Option A
factor_found m (in_number n) = Some (m.numeral_of n)
factor_found m (in_denominator n k) = Some (m.ratio_of n k)
factor_found m (closed x) = Some x
factor_found m _ = None

-- the expression that the bytes read spell, if they spell one
abbrev pub found : {A N : Type 0} → Makes A N → State A N → Option A
found m dead = None
found m (at p t f (inside o t' f')) = None
found m (at p t f outermost) = option_map (join m t f) (factor_found m p)
