-- The refusal for an error of a number in the words of a command.
use Rattle.std.specs.Prelude.{ℕ}
use Rattle.calc_base.specs.declared.words.WordsFault.{WordsFault}
use Rattle.calc_base.specs.declared.words.WordsFault.TheVariants.{Literal, Range, Shape}
use Rattle.expression_reading.specs.declared.offence.Kind.{Kind}
use Rattle.expression_reading.specs.declared.offence.Kind.TheVariants.{Literal as Wide, Range as Past}
use Rattle.expression_reading.specs.declared.offence.Kind.TheVariants.{Shape as Misshapen}

-- the refusal for an error of this kind at byte 0 of this word
abbrev pub fault_of : ℕ → Kind → WordsFault
fault_of word Wide = Literal (record { word = word; byte = 0 })
fault_of word Past = Range (record { word = word; byte = 0 })
fault_of word Misshapen = Shape (record { word = word; byte = 0 })
