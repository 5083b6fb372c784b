-- Expressions as they are typed: the phrases that the grammar allows, the text of each phrase, and its tree.
use Rattle.std.specs.Prelude.{◌≡◌, ℕ, List, ◌++◌, map, codes}
use Rattle.sym_model.specs.Expansion.{Basis, monomials, elementaries, completes, power_sums, schurs}
use Rattle.sym_model.specs.Partition.{without_last_zeros}
use Rattle.sym_model.specs.PrintedBlock.{decimal_value}
use Rattle.sym_model.specs.NumberWord.{IsNumberWord, AreNumberWords, comma_separated}
use Rattle.sym_model.specs.Expression.{Tree, number, fraction, atom, negation, sum, difference}
use Rattle.sym_model.specs.Expression.{product}

-- the operators of an expression: plus, minus and times
pub data Operator : Type 0 where
  plus : Operator
  minus : Operator
  times : Operator

-- an expression or a part of one as it is typed: a number or a fraction by its digits, an atom (a basis element such as
-- s[2,1]) by its basis and the digits of its numbers, parentheses around a phrase, a minus sign in front of a phrase,
-- or an operator between two phrases
pub data Phrase : Type 0 where
  numeral : List ℕ → Phrase
  ratio : List ℕ → List ℕ → Phrase
  label : Basis → List (List ℕ) → Phrase
  brackets : Phrase → Phrase
  minus_first : Phrase → Phrase
  operation : Operator → Phrase → Phrase → Phrase

-- the levels of phrases in the grammar of expressions (`Is`): EXPR, TERM and FACTOR
pub data Level : Type 0 where
  expression : Level
  term : Level
  factor : Level

-- each phrase of the second level is also a phrase of the first level: a factor is a term, and a term is an
-- expression
abbrev pub Covers : Level → Level → Type 0
Covers expression _ = Unit {0}
Covers term expression = ⊥
Covers term _ = Unit {0}
Covers factor factor = Unit {0}
Covers factor _ = ⊥

-- the level of a phrase that consists of this operator between two phrases; the left operand must have the same level
abbrev pub level_of : Operator → Level
level_of plus = expression
level_of minus = expression
level_of times = term

-- the level that the right operand of an operator must have
abbrev pub level_after : Operator → Level
level_after plus = term
level_after minus = term
level_after times = factor

-- the phrase has the level by these rules of the grammar; sums, differences
-- and products group to the left
--   EXPR   := '-'? TERM (('+' | '-') TERM)*
--   TERM   := FACTOR ('*' FACTOR)*
--   FACTOR := NUM | NUM '/' NUM | LETTER '[' (NUM (',' NUM)*)? ']' | '(' EXPR ')'
abbrev pub Is : Level → Phrase → Type 0
Is level (numeral digits) = IsNumberWord digits
Is level (ratio num den) = IsNumberWord num × IsNumberWord den
Is level (label basis words) = AreNumberWords words
Is level (brackets inner) = Is expression inner
Is level (minus_first inner) = Covers level expression × Is term inner
Is level (operation operator left right) =
    Covers level (level_of operator) × Is (level_of operator) left × Is (level_after operator) right

-- the letter of a basis
abbrev pub letter : Basis → List ℕ
letter monomials = codes "m"
letter elementaries = codes "e"
letter completes = codes "h"
letter power_sums = codes "p"
letter schurs = codes "s"

-- the text of an operator: `+`, `-` or `*`
abbrev pub sign : Operator → List ℕ
sign plus = codes "+"
sign minus = codes "-"
sign times = codes "*"

-- the text of a phrase, as its bytes
abbrev pub spelling : Phrase → List ℕ
spelling (numeral digits) = digits
spelling (ratio num den) = num ++ (codes "/" ++ den)
spelling (label basis words) = letter basis ++ (codes "[" ++ (comma_separated words ++ codes "]"))
spelling (brackets inner) = codes "(" ++ (spelling inner ++ codes ")")
spelling (minus_first inner) = codes "-" ++ spelling inner
spelling (operation operator left right) = spelling left ++ (sign operator ++ spelling right)

-- the tree of the sum, difference or product of the expressions e and f, by the operator
abbrev pub join_trees : Operator → Tree → Tree → Tree
join_trees plus e f = sum e f
join_trees minus e f = difference e f
join_trees times e f = product e f

-- the expression that a phrase denotes, as a tree: parentheses leave no trace, and zeros at the end of the list of an
-- atom, such as s[2,1,0], are dropped
abbrev pub tree : Phrase → Tree
tree (numeral digits) = number (decimal_value digits)
tree (ratio num den) = fraction (decimal_value num) (decimal_value den)
tree (label basis words) = atom basis (without_last_zeros (map decimal_value words))
tree (brackets inner) = tree inner
tree (minus_first inner) = negation (tree inner)
tree (operation operator left right) = join_trees operator (tree left) (tree right)

-- the word is the text of the phrase, and the phrase is an expression by the grammar
pub record SpellsPhrase (word : List ℕ) (phrase : Phrase) : Type 0 where
  pub allowed : Is expression phrase
  pub spelled : word ≡ spelling phrase

-- the word spells the expression e: it is the text of a phrase that is an expression by the grammar and has the tree
-- e
abbrev pub SpellsTree : List ℕ → Tree → Type 0
SpellsTree word e = (phrase : Phrase) × SpellsPhrase word phrase × (e ≡ tree phrase)

-- the word is a prefix of a word that spells an expression
abbrev pub BeginsExpression : List ℕ → Type 0
BeginsExpression word = (rest : List ℕ) × (phrase : Phrase) × SpellsPhrase (word ++ rest) phrase
