-- The line that is printed if the words of a command are refused.
use Rattle.std.specs.Prelude.{ℕ, List, [], codes}
use Rattle.calc_base.specs.declared.words.WordsFault.{WordsFault}
use Rattle.calc_base.specs.declared.words.WordsFault.TheVariants.{Syntax, Literal, Range, Shape}
use Rattle.calc_base.specs.declared.words.WordsFault.TheVariants.{NoMemory}
use Rattle.sym_model.specs.ExpressionOffence.{literal, range, shape}
use Rattle.sym_model.specs.RefusalText.{refusal_line, offence_line}

-- the line of a refusal: the name and the place of its error; `NoMemory` has no line
abbrev pub refusal_text : WordsFault → List ℕ
refusal_text (Syntax at) = refusal_line (codes "Syntax") at.word at.byte
refusal_text (Literal at) = offence_line (at.word, at.byte, literal)
refusal_text (Range at) = offence_line (at.word, at.byte, range)
refusal_text (Shape at) = offence_line (at.word, at.byte, shape)
refusal_text NoMemory = []
