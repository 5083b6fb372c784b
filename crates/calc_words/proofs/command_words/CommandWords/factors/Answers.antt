use Rattle.sym_model.specs.WordForms.{factors}
use Rattle.calc_words.specs.declared.word_parts.Part.TheVariants.{Factors}
use Rattle.calc_words.proofs.ReadParts.{part_read}
use Rattle.calc_words.proofs.command_words.CommandWords.factors.Goals as goal

pub returns : goal.returns
returns c =
    part_read Factors factors _ _ _ _ _ c.requires _
    (λ k x m p. c.factors_of.ensures k x m (c.piece_at-piece.ensures.is k _ p))
