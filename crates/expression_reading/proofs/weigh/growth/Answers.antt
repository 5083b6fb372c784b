use Rattle.expression_reading.proofs.GrowthFacts.{growth-past}
use Rattle.expression_reading.proofs.weigh.growth.Goals as goal

pub returns-in_err-power-in-P : goal.returns-in_err-power-in-P
returns-in_err-power-in-P c =
    rw c.from_residual.ensures
    (growth-past c.args.target c.in-P.is c.args.d c.from-in-P.result c.from-exponent.result
    c.from-in-P.ensures c.from-exponent.ensures c.in_err-power-in-P.ensures)
