use Rattle.sym_model.specs.WordForms.{numbers}
use Rattle.calc_words.specs.declared.word_parts.Part.TheVariants.{Word}
use Rattle.calc_words.proofs.ReadParts.{part_read}
use Rattle.calc_words.proofs.command_words.CommandWords.word.Goals as goal

pub returns : goal.returns
returns c =
    part_read Word numbers _ _ _ _ _ c.requires _
    (λ k x m p. c.word_of.ensures k x (c.piece_at-piece.ensures.is k _ p))
