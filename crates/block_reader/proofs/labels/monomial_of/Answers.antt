use Rattle.std.proofs.Common.{ap}
use Rattle.std.specs.Prelude.{Err}
use Rattle.block_reader.proofs.LabelCauses.{not_monomial-many, not_monomial-big}
use Rattle.block_reader.proofs.labels.monomial_of.Goals as goal

pub returns-in-Err-TooMany : goal.returns-in-Err-TooMany
returns-in-Err-TooMany c = not_monomial-many c.args.exponents.now
    (c.in-Err-TooMany.ensures.too_many.0 (ap Err c.in-Err-TooMany.field-0-is))

pub returns-in-Err-TooBig : goal.returns-in-Err-TooBig
returns-in-Err-TooBig c = not_monomial-big c.args.exponents.now (c.in-Err-TooBig.ensures.too_big.0
    (ap Err c.in-Err-TooBig.field-0-is)).1
