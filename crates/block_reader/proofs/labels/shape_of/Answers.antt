use Rattle.sym_model.specs.NumberText.{label_of}
use Rattle.block_reader.proofs.LabelCauses.{at_none, not_label-numbers}
use Rattle.block_reader.proofs.labels.shape_of.Goals as goal

pub returns-in-None : goal.returns-in-None
returns-in-None c = not_label-numbers (label_of c.args.label.now)
    (at_none _ _ c.in_ok-parts.field-0 c.in-None.is c.in_ok-parts.ensures)
