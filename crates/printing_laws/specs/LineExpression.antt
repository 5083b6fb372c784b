-- The one-line form of a list of terms as an expression.
use Rattle.std.specs.Prelude.{◌≡◌, ℕ, ◌^◌, pos, neg_ℤ, List, ◌++◌, codes}
use Rattle.sym_model.specs.Sum.{Among}
use Rattle.sym_model.specs.Expansion.{Basis, Fraction, Terms, IsExpansionOf}
use Rattle.sym_model.specs.Expression.{cleared_value, denominator}
use Rattle.sym_model.specs.ExpressionOffence.{literal, WordOffence, offences}
use Rattle.sym_model.specs.Phrase.{Phrase, SpellsPhrase, tree}
use Rattle.sym_model.specs.OneLine.{one_line}

-- no coefficient has the numerator -2^127, the only signed 128-bit number whose absolute value is not a signed 128-bit number
abbrev pub LacksLowest : Terms (List ℕ) → Type 0
LacksLowest terms = (t : List ℕ × Fraction) → Among t terms → t.1.0 ≡ neg_ℤ (pos (2 ^ 127)) → ⊥

-- the one-line form of the list, without its LF, spells an expression that denotes the list, in every number of variables; if no numerator is -2^127,
-- no number in the expression exceeds 2^127 - 1, so that no number is an error
pub record IsExpression (basis : Basis) (terms : Terms (List ℕ)) : Type 0 where
  pub word : List ℕ
  pub phrase : Phrase
  pub line : one_line basis terms ≡ word ++ codes "\n"
  pub spells : SpellsPhrase word phrase
  pub value : (n : ℕ) → IsExpansionOf basis terms n (cleared_value (tree phrase) n)
      (denominator (tree phrase))
  pub no_literal : LacksLowest terms → (target : Basis) (o : WordOffence)
      → Among o (offences target phrase) → o.1 ≡ literal → ⊥
