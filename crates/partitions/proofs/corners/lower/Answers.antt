use Rattle.std.proofs.Common.{ap, sym, ◌∙◌, add-one}
use Rattle.sym_model.specs.Slide.{lowered_at}
use Rattle.partitions.proofs.LoweredParts.{set-lowered}
use Rattle.partitions.proofs.corners.lower.Goals as goal

pub returns : goal.returns
returns c =
    set-lowered c.args.numbers.now c.args.place
    ∙ sym (ap (λ i. lowered_at i c.args.numbers.now) (add-one c.args.place))
