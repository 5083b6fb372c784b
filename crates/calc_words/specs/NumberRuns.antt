-- The value of a number word, that is, of a word of decimal digits, if it is at most 2^127 - 1.
use Rattle.std.specs.Prelude.{ℕ, cond, Option, Some, None}
use Rattle.sym_model.specs.ExpressionOffence.{is_wide}
pub use Rattle.word_laws.specs.FirstWords.{IsNumber, BeginsOtherwise}

-- `Some n` if n is at most 2^127 - 1, and otherwise `None`
abbrev pub narrow : ℕ → Option ℕ
narrow n = cond (is_wide n) None (Some n)
