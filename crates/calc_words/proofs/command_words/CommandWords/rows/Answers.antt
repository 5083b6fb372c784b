use Rattle.sym_model.specs.PrintedBlock.{decimal_value}
use Rattle.calc_words.specs.declared.word_parts.Part.TheVariants.{Rows}
use Rattle.calc_words.proofs.ReadParts.{part_read}
use Rattle.calc_words.proofs.command_words.CommandWords.rows.Goals as goal

pub returns : goal.returns
returns c =
    part_read Rows (λ x. decimal_value x.1) _ _ _ _ _ c.requires _
    (λ k x m p. c.rows_of.ensures k x (c.piece_at-piece.ensures.is k _ p))
