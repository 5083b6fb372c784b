use Rattle.std.proofs.Common.{ap}
use Rattle.std.specs.Prelude.{Err}
use Rattle.block_reader.proofs.LabelCauses.{not_permutation-letter}
use Rattle.block_reader.proofs.labels.permutation_of.Goals as goal

pub returns-in-Err-Letter : goal.returns-in-Err-Letter
returns-in-Err-Letter c =
    not_permutation-letter c.args.letters.now c.in-Err-Letter.field-0-0
    ((c.in-Err-Letter.ensures.letter c.in-Err-Letter.field-0-0).0
    (ap Err c.in-Err-Letter.field-0-is)).1
