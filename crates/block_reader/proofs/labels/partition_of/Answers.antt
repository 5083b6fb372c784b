use Rattle.std.proofs.Common.{ap}
use Rattle.std.specs.Prelude.{Err}
use Rattle.block_reader.proofs.LabelCauses.{not_label-many, not_label-rising, not_label-big}
use Rattle.block_reader.proofs.labels.partition_of.Goals as goal

pub returns-in-Err-TooMany : goal.returns-in-Err-TooMany
returns-in-Err-TooMany c = not_label-many c.args.parts.now (c.in-Err-TooMany.ensures.too_many.0
    (ap Err c.in-Err-TooMany.field-0-is))

pub returns-in-Err-Rising : goal.returns-in-Err-Rising
returns-in-Err-Rising c =
    not_label-rising c.args.parts.now c.in-Err-Rising.field-0-0
    ((c.in-Err-Rising.ensures.rising c.in-Err-Rising.field-0-0).0
    (ap Err c.in-Err-Rising.field-0-is)).1

pub returns-in-Err-TooBig : goal.returns-in-Err-TooBig
returns-in-Err-TooBig c = not_label-big c.args.parts.now (c.in-Err-TooBig.ensures.too_big.0
    (ap Err c.in-Err-TooBig.field-0-is)).2
