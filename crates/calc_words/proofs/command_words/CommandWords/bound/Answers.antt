use Rattle.sym_model.specs.PrintedBlock.{decimal_value}
use Rattle.calc_words.specs.declared.word_parts.Part.TheVariants.{Bound}
use Rattle.calc_words.proofs.ReadParts.{part_read}
use Rattle.calc_words.proofs.command_words.CommandWords.bound.Goals as goal

pub returns : goal.returns
returns c =
    part_read Bound decimal_value _ _ _ _ _ c.requires _
    (λ k x m p. c.bound_of.ensures k x (c.piece_at-piece.ensures.is k _ p))
