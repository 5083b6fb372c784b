-- Correct results of reading a word as an expression.
use Rattle.std.specs.Prelude.{◌≡◌, ℕ, List, Some, None, Result, Ok, Err}
use Rattle.sym_model.specs.Expansion.{Basis}
use Rattle.sym_model.specs.Phrase.{Phrase, SpellsPhrase, tree, BeginsExpression}
use Rattle.sym_model.specs.ExpressionOffence.{WordOffence, literal, range, shape, first_of}
use Rattle.sym_model.specs.ExpressionOffence.{offences}
use Rattle.sym_model.specs.LongestPrefix.{IsLongestPrefix}
use Rattle.expression_reading.specs.declared.formula.Formula.{Formula}
use Rattle.expression_reading.specs.declared.reading.ExpressionFault.{ExpressionFault}
use Rattle.expression_reading.specs.declared.reading.ExpressionFault.TheVariants.{Syntax, Literal}
use Rattle.expression_reading.specs.declared.reading.ExpressionFault.TheVariants.{Range, Shape}
use Rattle.expression_reading.specs.declared.reading.ExpressionFault.TheVariants.{NoMemory}
use Rattle.expression_reading.specs.Trees.{tree_of}

-- the word spells an expression in which `offends` finds no error, and the `Formula` has the tree of this expression
abbrev pub IsExpressionWithout : (Phrase → List WordOffence) → List ℕ → Formula → Type 0
IsExpressionWithout offends word formula =
    (phrase : Phrase) × SpellsPhrase word phrase × (first_of (offends phrase) ≡ None)
    × (tree_of formula.tree ≡ tree phrase)

-- the word spells an expression, and `first` is the first of the errors that `offends` finds in this expression
abbrev pub OffendsFirst : (Phrase → List WordOffence) → List ℕ → WordOffence → Type 0
OffendsFirst offends word first =
    (phrase : Phrase) × SpellsPhrase word phrase × (first_of (offends phrase) ≡ Some first)

-- the word spells no expression, and the longest prefix of the word that begins an expression has the length `byte`
abbrev pub IsWrongByte : List ℕ → ℕ → Type 0
IsWrongByte word byte =
    ((phrase : Phrase) → SpellsPhrase word phrase → ⊥) × IsLongestPrefix BeginsExpression word byte

-- The result of reading the word is correct. If the word spells no expression, it is the byte of the first error of syntax. If the word spells one,
-- it is the `Formula` of the expression if `offends` finds no error in it, and otherwise the first error that `offends` finds. Nothing is required if
-- memory runs out.
abbrev pub IsReadBy : (Phrase → List WordOffence) → List ℕ → Result Formula ExpressionFault → Type 0
IsReadBy offends word (Ok formula) = IsExpressionWithout offends word formula
IsReadBy offends word (Err (Syntax byte)) = IsWrongByte word byte
IsReadBy offends word (Err (Literal byte)) = OffendsFirst offends word (byte, literal)
IsReadBy offends word (Err (Range byte)) = OffendsFirst offends word (byte, range)
IsReadBy offends word (Err (Shape byte)) = OffendsFirst offends word (byte, shape)
IsReadBy offends word (Err NoMemory) = Unit {0}

abbrev pub IsRead : Basis → List ℕ → Result Formula ExpressionFault → Type 0
IsRead target word result = IsReadBy (offences target) word result

-- the fault has the byte and the kind of the error o
abbrev pub IsFaultOf : WordOffence → ExpressionFault → Type 0
IsFaultOf o (Literal byte) = o ≡ (byte, literal)
IsFaultOf o (Range byte) = o ≡ (byte, range)
IsFaultOf o (Shape byte) = o ≡ (byte, shape)
IsFaultOf o _ = ⊥
