use Rattle.sym_model.specs.WordForms.{row_limit}
use Rattle.calc_words.specs.declared.word_parts.Part.TheVariants.{MaybeRows}
use Rattle.calc_words.proofs.ReadParts.{part_read}
use Rattle.calc_words.proofs.command_words.CommandWords.maybe_rows.Goals as goal

pub returns : goal.returns
returns c =
    part_read MaybeRows row_limit _ _ _ _ _ c.requires _
    (λ k x m p. c.maybe_rows_of.ensures k x (c.piece_at-piece.ensures.is k _ p))
