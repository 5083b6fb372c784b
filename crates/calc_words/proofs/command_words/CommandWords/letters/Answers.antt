use Rattle.sym_model.specs.Permutation.{kept}
use Rattle.sym_model.specs.WordForms.{letters}
use Rattle.calc_words.specs.declared.word_parts.Part.TheVariants.{Letters}
use Rattle.calc_words.proofs.ReadParts.{part_read}
use Rattle.calc_words.proofs.command_words.CommandWords.letters.Goals as goal

pub returns : goal.returns
returns c =
    part_read Letters (λ x. kept (letters x)) _ _ _ _ _ c.requires _
    (λ k x m p. c.letters_of.ensures k x (c.piece_at-piece.ensures.is k _ p))
