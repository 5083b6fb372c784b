use Rattle.std.specs.Prelude.{string_bytes}
use Rattle.calc_words.proofs.PartValues.{form_said}
use Rattle.calc_words.proofs.part_values.maybe_form_of.Goals as goal

pub returns : goal.returns
returns c = λ x e. form_said string_bytes c.args.words.now x c.is_empty.result e c.is_empty.ensures
