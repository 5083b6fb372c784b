-- The forms (patterns of words) of parts of commands: partitions, permutations, options and tableaux; and the values
-- that words of these forms denote. In the comments, NUM is a word that is a number.
use Rattle.std.specs.Prelude.{ℕ, ◌+◌, Bool, true, false, cond, List, [], ◌∷◌, map, length, codes}
use Rattle.std.specs.Prelude.{Option, Some, None}
use Rattle.std.proofs.Common.{zero, suc, inl, inr}
use Rattle.sym_model.specs.Partition.{without_last_zeros}
use Rattle.sym_model.specs.PrintedBlock.{decimal_value}
use Rattle.sym_model.specs.ExpressionOffence.{shape}
use Rattle.sym_model.specs.Form.{Form, empty, word, sequence, either, many, exact, number, Written}
use Rattle.sym_model.specs.Form.{words_of, taken, are_words_of}
use Rattle.sym_model.specs.CommandOffence.{Offence, offences_by, rows_rule, PlacedRow, entries}

-- the form that only the list of the one word `text` has
abbrev pub the : List ℕ → Form
the text = word (exact text)

-- the form of a list of words that consists of words of each of these forms, one after another
abbrev pub in_turn : List Form → Form
in_turn [] = empty
in_turn (f ∷ []) = f
in_turn (f ∷ g ∷ forms) = sequence f (in_turn (g ∷ forms))

-- the form of the empty list of words and of each list of words that has the form f
abbrev pub optional : Form → Form
optional f = either empty f

-- the form of a partition, PART := NUM*
abbrev pub partition_words : Form
partition_words = many (word number)

-- the form of a permutation, PERM := NUM+
abbrev pub permutation_words : Form
permutation_words = sequence (word number) partition_words

-- the form of the option that limits the number of rows, ROWS := '-r' NUM
abbrev pub rows_words : Form
rows_words = sequence (the (codes "-r")) (word number)

-- the form of the option that asks for an answer on one line, FORM := '-m'
abbrev pub form_words : Form
form_words = the (codes "-m")

-- the form of a factor after the first, with its separator: '-' PART
abbrev pub next_words : Form
next_words = sequence (the (codes "-")) partition_words

-- the form of the factors of a product, PART ('-' PART)+
abbrev pub factors_words : Form
factors_words = in_turn (partition_words ∷ next_words ∷ many next_words ∷ [])

-- the form of a row of a tableau, ROW := '.' | NUM+
abbrev pub row_words : Form
row_words = either (the (codes ".")) permutation_words

-- the form of a tableau, TABLEAU := ROW ('/' ROW)*
abbrev pub tableau_words : Form
tableau_words = sequence row_words (many (sequence (the (codes "/")) row_words))

-- the form of the option of the command `tab` that gives the tableau after which the list begins, FROM := '-from' TABLEAU
abbrev pub from_words : Form
from_words = sequence (the (codes "-from")) tableau_words

-- the numbers that words of decimal digits denote
abbrev pub numbers : List (List ℕ) → List ℕ
numbers digits = map decimal_value digits

-- the partition that words of decimal digits denote: their numbers without the zeros at the end
abbrev pub partition : List (List ℕ) → List ℕ
partition digits = without_last_zeros (numbers digits)

-- the numbers of each factor, as they are typed
abbrev pub factor_numbers : Written factors_words → List (List ℕ)
factor_numbers (first, (second, others)) =
    numbers first ∷ numbers second.1 ∷ map (λ (next : Written next_words). numbers next.1) others

-- the factors as partitions: the numbers of each without the zeros at the end
abbrev pub factors : Written factors_words → List (List ℕ)
factors x = map without_last_zeros (factor_numbers x)

-- whether the option `-m` is given
abbrev pub is_one_line : Written (optional form_words) → Bool
is_one_line (inl x) = false
is_one_line (inr x) = true

-- the letters of a permutation, as they are typed
abbrev pub letters : Written permutation_words → List ℕ
letters x = numbers (x.0 ∷ x.1)

-- the number after the option `-r`; None if the option is not given
abbrev pub row_limit : Written (optional rows_words) → Option ℕ
row_limit (inl x) = None
row_limit (inr x) = Some (decimal_value x.1)

-- the errors of the number after the option `-r`, if the option is given; `-r` is then word k
abbrev pub row_limit_offences : ℕ → Written (optional rows_words) → List Offence
row_limit_offences k (inl x) = []
row_limit_offences k (inr x) = offences_by rows_rule (k + 1) (decimal_value x.1 ∷ [])

-- the entries of a typed row; the empty list for `.`
abbrev pub row_entries : Written row_words → List ℕ
row_entries (inl x) = []
row_entries (inr x) = letters x

-- the rows of a tableau, each with the word at which it begins: the first begins at word k, and there is one word
-- between two neighbouring rows
abbrev pub placed : ℕ → List (Written row_words) → List PlacedRow
placed k [] = []
placed k (x ∷ xs) = (k, row_entries x) ∷ placed (k + length (words_of row_words x) + 1) xs

-- the rows of a tableau that begins at word k, each with the word at which it begins
abbrev pub placed_rows : ℕ → Written tableau_words → List PlacedRow
placed_rows k x = placed k (x.0 ∷ map (λ (y : Unit {0} × Written row_words). y.1) x.1)

-- the rows of a typed tableau, each as the list of its entries
abbrev pub tableau_rows : Written tableau_words → List (List ℕ)
tableau_rows x = entries (placed_rows 0 x)

-- the form of a row with n entries: n numbers, or `.` if n is 0
abbrev pub row_of : ℕ → Form
row_of zero = the (codes ".")
row_of (suc zero) = word number
row_of (suc (suc n)) = sequence (word number) (row_of (suc n))

-- the form of a tableau whose rows have these lengths
abbrev pub tableau_of : List ℕ → Form
tableau_of [] = the (codes ".")
tableau_of (n ∷ []) = row_of n
tableau_of (n ∷ m ∷ lengths) =
    sequence (row_of n) (sequence (the (codes "/")) (tableau_of (m ∷ lengths)))

-- the errors of shape of `words`, the last words of a command, the first of which is word k. If `words` are a tableau
-- with rows of the given lengths, there is none. Otherwise there is one, at the word after the longest prefix of `words`
-- that begins such a tableau; this is the place after the last word if `words` ends too early.
abbrev pub shape_offences : ℕ → List ℕ → List (List ℕ) → List Offence
shape_offences k lengths words =
    cond
    (are_words_of (λ text. false) (tableau_of lengths) words)
    []
    ((k + taken (λ text. false) (tableau_of lengths ∷ []) words, 0, shape) ∷ [])
