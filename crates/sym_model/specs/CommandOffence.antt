-- The errors in the numbers that a command's words give, each error with its word, its byte and its kind; and the first
-- error of a list of errors. The kinds are: literal, a number over 2^127 - 1; range, another limit is exceeded; shape,
-- numbers do not fit each other or are not allowed.
use Rattle.std.specs.Prelude.{◌≡◌, ◌⊎◌, ◌<◌, ℕ, ◌+◌, ◌-◌, ◌*◌, ◌==◌, nat_le, nat_lt, Bool, false}
use Rattle.std.specs.Prelude.{◌&&◌, ◌||◌, cond, List, [], ◌∷◌, ◌++◌, map, length, drop, slice_get}
use Rattle.std.specs.Prelude.{Option, Some, None, flat_map}
use Rattle.sym_model.specs.Partition.{part, size}
use Rattle.sym_model.specs.Expansion.{Basis}
use Rattle.sym_model.specs.Expression.{degree}
use Rattle.sym_model.specs.Phrase.{Phrase, spelling, tree}
use Rattle.sym_model.specs.ExpressionOffence.{OffenceKind, literal, range, shape, is_wide, rises}
use Rattle.sym_model.specs.ExpressionOffence.{rank, WordOffence, offences, offences_within}
use Rattle.sym_model.specs.ExpressionOffence.{inner_offences, plethysm_degree_limit}

-- an error: the number of its word (the name of the command is word 0), the byte in that word, counted from 0, and
-- the kind of the error
abbrev pub Offence : Type 0
Offence = ℕ × ℕ × OffenceKind

-- the error o comes before the error p: the word of o is less; or the words are equal, and the byte of o is less; or
-- the words and the bytes are equal, and the rank of the kind of o is less
abbrev pub ComesBefore : Offence → Offence → Type 0
ComesBefore o p =
    (o.0 < p.0) ⊎ ((o.0 ≡ p.0) × ((o.1 < p.1) ⊎ ((o.1 ≡ p.1) × (rank o.2 < rank p.2))))

-- whether the error o comes before the error p (as in `ComesBefore`) or has the word, byte and kind of p
abbrev pub is_no_later : Offence → Offence → Bool
is_no_later o p =
    nat_lt o.0 p.0
    || ((o.0 == p.0) && (nat_lt o.1 p.1 || ((o.1 == p.1) && nat_le (rank o.2) (rank p.2))))

-- the first of the errors o and p; o itself if there is no p
abbrev pub earlier_of : Offence → Option Offence → Option Offence
earlier_of o None = Some o
earlier_of o (Some p) = cond (is_no_later o p) (Some o) (Some p)

-- the first error of a list of errors, or None if the list is empty
abbrev pub first_offence : List Offence → Option Offence
first_offence [] = None
first_offence (o ∷ os) = earlier_of o (first_offence os)

-- the second list of errors if the first list is empty, and otherwise the empty list. The second list has the errors
-- found by a comparison with earlier words of the command, and the first list has the errors of these earlier words.
abbrev pub judged_against : List Offence → List Offence → List Offence
judged_against [] found = found
judged_against (o ∷ earlier) found = []

-- the list with only this kind of error if the test is true; otherwise the empty list
abbrev pub when : Bool → OffenceKind → List OffenceKind
when test kind = cond test (kind ∷ []) []

-- a rule: a function that returns the kinds of errors of a number, given the numbers before it in its list (the
-- nearest first) and the number itself
abbrev pub Rule : Type 0
Rule = List ℕ → ℕ → List OffenceKind

-- the errors that a rule finds in `numbers`, which are the words of the command from word k on; `before` has the
-- numbers in front of these in the same list, the nearest first
abbrev pub offences_after : Rule → List ℕ → ℕ → List ℕ → List Offence
offences_after rule before k [] = []
offences_after rule before k (a ∷ numbers) =
    map (λ kind. (k, 0, kind)) (rule before a) ++ offences_after rule (a ∷ before) (k + 1) numbers

-- the errors that a rule finds in a list of numbers, which are the words of the command from word k on
abbrev pub offences_by : Rule → ℕ → List ℕ → List Offence
offences_by rule k numbers = offences_after rule [] k numbers

-- the number just before a number in its list, or None for the first number; `before` has all numbers before it, the
-- nearest first
abbrev pub left_of : List ℕ → Option ℕ
left_of [] = None
left_of (a ∷ before) = Some a

-- whether the number occurs in the list
abbrev pub stands_in : ℕ → List ℕ → Bool
stands_in a [] = false
stands_in a (b ∷ numbers) = (a == b) || stands_in a numbers

-- the greatest number of parts that a typed partition may have
abbrev pub most_parts : ℕ
most_parts = 64

-- the greatest number of cells that a typed partition may have
abbrev pub most_cells : ℕ
most_cells = 512

-- the greatest number of factors of a product
abbrev pub most_factors : ℕ
most_factors = 8

-- the greatest number of letters of a typed permutation, and the greatest letter allowed in it
abbrev pub most_permuted : ℕ
most_permuted = 16

-- the greatest number of letters of a permutation in a product of double Schubert polynomials, and
-- the greatest letter allowed in it
abbrev pub most_doubled : ℕ
most_doubled = 8

-- the greatest number of rows, columns or variables, and the greatest level
abbrev pub most_rows : ℕ
most_rows = 64

-- the greatest number of letters of the word of `rsk`, and of entries of a tableau of `unrsk`
abbrev pub most_letters : ℕ
most_letters = 256

-- the greatest letter of the word of `rsk`, and the greatest entry of a tableau
abbrev pub greatest_letter : ℕ
greatest_letter = 65535

-- the greatest number of lines of `work`
abbrev pub most_lines : ℕ
most_lines = 10000

-- the greatest seed of `work`
abbrev pub greatest_seed : ℕ
greatest_seed = 65536

-- whether the number a is 0 or greater than `limit`
abbrev pub is_outside : ℕ → ℕ → Bool
is_outside limit a = (a == 0) || nat_lt limit a

-- the errors of a number of rows, columns or variables, or of a level: over 2^127 - 1 (literal); 0 or over 64 (range)
abbrev pub rows_rule : Rule
rows_rule before a = when (is_wide a) literal ++ when (is_outside most_rows a) range

-- the errors of the number of lines of `work`: over 2^127 - 1 (literal); 0 or over 10,000 (range)
abbrev pub lines_rule : Rule
lines_rule before a = when (is_wide a) literal ++ when (is_outside most_lines a) range

-- the errors of the seed of `work`: over 2^127 - 1 (literal); over 65,536 (range)
abbrev pub seed_rule : Rule
seed_rule before a = when (is_wide a) literal ++ when (nat_lt greatest_seed a) range

-- the errors of a number of a partition: over 2^127 - 1 (literal); the 65th number, or the number with which the sum
-- of the numbers first exceeds 512 (range); greater than the number before it (shape)
abbrev pub part_rule : Rule
part_rule before a =
    when (is_wide a) literal
    ++ when
    ((length before == most_parts)
    || (nat_le (size before) most_cells && nat_lt most_cells (size before + a)))
    range
    ++ when (rises (left_of before) a) shape

-- the errors of a number of a permutation of `count` letters: over 2^127 - 1 (literal); over `most`, or the number
-- after the first `most` numbers (range); 0, over `count`, or equal to a number before it (shape)
abbrev pub permutation_rule_within : ℕ → ℕ → Rule
permutation_rule_within most count before a =
    when (is_wide a) literal
    ++ when (nat_lt most a || (length before == most)) range
    ++ when (is_outside count a || stands_in a before) shape

-- the errors of a letter of a word: over 2^127 - 1 (literal); 0, over 65,535, or the 257th letter (range)
abbrev pub letter_rule : Rule
letter_rule before a =
    when (is_wide a) literal ++ when
    (is_outside greatest_letter a || (length before == most_letters)) range

-- the errors of an entry of a tableau: over 2^127 - 1 (literal); 0 or over 65,535 (range)
abbrev pub entry_rule : Rule
entry_rule before a = when (is_wide a) literal ++ when (is_outside greatest_letter a) range

-- the error of a number of an inner partition: it is greater than the part of `outer` in the same row (shape)
abbrev pub inside_rule : List ℕ → Rule
inside_rule outer before a = when (nat_lt (part outer (length before + 1)) a) shape

-- the errors of a partition whose first number is word k
abbrev pub part_offences : ℕ → List ℕ → List Offence
part_offences k numbers = offences_by part_rule k numbers

-- the errors of `factors`, which follow `count` other factors of a product: the errors of each partition, and a range
-- error at the word in front of the ninth factor of the product. The first of `factors` begins at word k, and there
-- is one word between two neighbouring factors.
abbrev pub factor_offences : ℕ → ℕ → List (List ℕ) → List Offence
factor_offences count k [] = []
factor_offences count k (numbers ∷ factors) =
    cond (count == most_factors) ((k - 1, 0, range) ∷ []) []
    ++ part_offences k numbers
    ++ factor_offences (count + 1) (k + length numbers + 1) factors

-- the errors of a permutation that begins at word k, if `most` is the greatest allowed letter and the greatest
-- allowed number of letters
abbrev pub permutation_offences_within : ℕ → ℕ → List ℕ → List Offence
permutation_offences_within most k letters =
    offences_by (permutation_rule_within most (length letters)) k letters

-- the errors of a permutation that begins at word k, if 16 is the greatest allowed letter and the greatest allowed
-- number of letters
abbrev pub permutation_offences : ℕ → List ℕ → List Offence
permutation_offences k letters = permutation_offences_within most_permuted k letters

-- a typed row of a tableau: the word at which it begins, and its entries
abbrev pub PlacedRow : Type 0
PlacedRow = ℕ × List ℕ

-- the errors that the rule finds in the rows, applied to each row as a list of its own: the numbers before a number
-- are only those in the same row
abbrev pub row_offences : Rule → List PlacedRow → List Offence
row_offences rule rows = flat_map (λ (row : PlacedRow). offences_by rule row.0 row.1) rows

-- the range error at the 257th number of a tableau, if that is in these rows; the tableau has `count` numbers in front
-- of these rows
abbrev pub count_offences : ℕ → List PlacedRow → List Offence
count_offences count [] = []
count_offences count (row ∷ rows) =
    offences_by (λ before a. when (count + length before == most_letters) range) row.0 row.1
    ++ count_offences (count + length row.1) rows

-- whether there is a previous number b, and a is smaller than b
abbrev pub falls : Option ℕ → ℕ → Bool
falls None a = false
falls (Some b) a = nat_lt a b

-- whether there is a number b, and a is at most b
abbrev pub stays : Option ℕ → ℕ → Bool
stays None a = false
stays (Some b) a = nat_le a b

-- the entry in column j, counted from 0, of the row `upper`, which begins at column c; None if `upper` has no cell in
-- that column
abbrev pub entry_above : List ℕ → ℕ → ℕ → Option ℕ
entry_above upper c j = cond (nat_le c j) (slice_get upper (j - c)) None

-- the shape errors of the rows of a tableau below the row `upper`: each number that is smaller than its left
-- neighbour, or not greater than the entry above it. The row `upper` begins at column c, counted from 0, and the rows
-- below it begin at the columns `inner`.
abbrev pub order_offences : ℕ → List ℕ → List ℕ → List PlacedRow → List Offence
order_offences c upper inner [] = []
order_offences c upper inner (row ∷ rows) =
    offences_by
    (λ before a.
    when (falls (left_of before) a || stays (entry_above upper c (part inner 1 + length before)) a)
    shape)
    row.0
    row.1
    ++ order_offences (part inner 1) row.1 (drop 1 inner) rows

-- the shape errors of the rows below the row `upper`, if all rows begin in the same column: each number without a
-- number above it
abbrev pub length_offences : List ℕ → List PlacedRow → List Offence
length_offences upper [] = []
length_offences upper (row ∷ rows) =
    offences_by (λ before a. when (nat_le (length upper) (length before)) shape) row.0 row.1
    ++ length_offences row.1 rows

-- the shape errors of the rows of a tableau: each row without cells, if there are at least two rows
abbrev pub empty_row_offences : List PlacedRow → List Offence
empty_row_offences [] = []
empty_row_offences (row ∷ []) = []
empty_row_offences (row ∷ next ∷ rows) =
    flat_map (λ (r : PlacedRow). cond (length r.1 == 0) ((r.0, 0, shape) ∷ []) [])
    (row ∷ next ∷ rows)

-- the shape errors of the rows of a standard tableau of `count` cells, below the row `upper` and after the entries
-- `earlier`: each number that exceeds `count`, is not greater than its left neighbour or than the entry above it, or
-- occurs earlier in the tableau
abbrev pub standard_offences : ℕ → List ℕ → List ℕ → List PlacedRow → List Offence
standard_offences count earlier upper [] = []
standard_offences count earlier upper (row ∷ rows) =
    offences_by
    (λ before a.
    when
    (nat_lt count a || stays (left_of before) a || stays (entry_above upper 0 (length before)) a
    || stands_in a before || stands_in a earlier)
    shape)
    row.0
    row.1
    ++ standard_offences count (row.1 ++ earlier) row.1 rows

-- the rows, each as the list of its entries, without the words at which they begin
abbrev pub entries : List PlacedRow → List (List ℕ)
entries rows = map (λ (row : PlacedRow). row.1) rows

-- the rows of a tableau of the shape outer/inner, read from its typed rows: if outer has no parts, a single typed row
-- without entries gives no row
abbrev pub rows_in : List ℕ → List (List ℕ) → List (List ℕ)
rows_in [] ([] ∷ []) = []
rows_in outer rows = rows

-- the errors found in the expression that is word k, each with its byte and kind, as errors of the command
abbrev pub offences_in_word : ℕ → List WordOffence → List Offence
offences_in_word k found = map (λ o. (k, o.0, o.1)) found

-- the errors of the expression that is word k, if it is to be expanded in the basis `target`
abbrev pub expression_offences : ℕ → Basis → Phrase → List Offence
expression_offences k target phrase = offences_in_word k (offences target phrase)

-- the errors of the two expressions of a plethysm, which are words k and k + 1: those of each expression by itself;
-- and, if the first has no error and the product of the two degrees exceeds 10, a range error at the end of the
-- second expression
abbrev pub plethysm_offences : ℕ → Phrase → Phrase → List Offence
plethysm_offences k outer inner =
    let first = offences_in_word k (offences_within plethysm_degree_limit outer) in
    first
    ++ offences_in_word (k + 1) (inner_offences inner)
    ++ judged_against first
    (cond (nat_lt plethysm_degree_limit (degree (tree outer) * degree (tree inner)))
    ((k + 1, length (spelling inner), range) ∷ [])
    [])
