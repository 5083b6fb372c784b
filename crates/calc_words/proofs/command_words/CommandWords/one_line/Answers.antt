use Rattle.std.proofs.Common.{refl, Ok}
use Rattle.sym_model.specs.WordForms.{is_one_line}
use Rattle.calc_words.specs.declared.word_parts.Part.TheVariants.{MaybeForm}
use Rattle.calc_words.proofs.ReadParts.{part_read}
use Rattle.calc_words.proofs.command_words.CommandWords.one_line.Goals as goal

pub returns : goal.returns
returns c =
    part_read MaybeForm is_one_line _ _ _ _ _ c.requires (Ok c.maybe_form_of.result)
    (λ k x m p. (c.maybe_form_of.ensures x (c.piece_at-piece.ensures.is k _ p).1, refl))
