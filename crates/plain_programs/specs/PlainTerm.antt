-- The terms of the type `PlainTerm`, read as labels with fractions.
use Rattle.std.specs.Prelude.{ℕ, List}
use Rattle.sym_model.specs.Expansion.{Fraction}
use Rattle.plain_programs.specs.declared.blocks.PlainTerm.{PlainTerm}

-- a `PlainTerm` as the pair of its label and its coefficient, a fraction
abbrev pub term_of : PlainTerm → List ℕ × Fraction
term_of term = (term.label.items, (term.numerator, term.denominator))
