-- The program and the definitions of `sym_model` have types of their own for errors and for marks (a *mark* is a number or an opening parenthesis,
-- which can be an error). Here the errors and marks of the program are translated into those of the definitions, whose types have `Plain` in their
-- names in this file.
use Rattle.std.specs.Prelude.{cond, Option, Some, None}
use Rattle.sym_model.specs.ExpressionOffence.{OffenceKind as PlainKind, literal, range, shape}
use Rattle.sym_model.specs.ExpressionOffence.{Mark as PlainMark, value, denominator, entry, opening}
use Rattle.sym_model.specs.ExpressionOffence.{is_offence, WordOffence as PlainOffence}
use Rattle.expression_reading.specs.declared.offence.Kind.{Kind}
use Rattle.expression_reading.specs.declared.offence.Kind.TheVariants.{Literal, Range, Shape}
use Rattle.expression_reading.specs.declared.offence.Mark.{Mark}
use Rattle.expression_reading.specs.declared.offence.Mark.TheVariants.{Value, Denominator, Entry}
use Rattle.expression_reading.specs.declared.offence.Mark.TheVariants.{Opening}
use Rattle.expression_reading.specs.declared.offence.Offence.{Offence}

-- a kind of error of the program, as a kind of error of the type in the definitions (`sym_model`)
abbrev pub kind_in : Kind → PlainKind
kind_in Literal = literal
kind_in Range = range
kind_in Shape = shape

-- an error of the program, as an error of the type in the definitions (`sym_model`)
abbrev pub offence_in : Offence → PlainOffence
offence_in o = (o.byte, kind_in o.kind)

-- a mark of the program, as a mark of the type in the definitions (`sym_model`)
abbrev pub mark_in : Mark → PlainMark
mark_in (Value n) = value n
mark_in (Denominator n) = denominator n
mark_in (Entry before n) = entry before.count before.last n
mark_in (Opening depth) = opening depth

-- the kind of the error of a mark; None if the mark is no error
abbrev pub first_kind : PlainMark → Option PlainKind
first_kind m =
    cond (is_offence m literal) (Some literal)
    (cond (is_offence m range) (Some range) (cond (is_offence m shape) (Some shape) None))
