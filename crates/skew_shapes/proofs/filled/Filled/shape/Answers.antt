use Rattle.std.proofs.Common.{rules}
use Rattle.skew_shapes.proofs.KeptRows.{IsFilling-kept}
use Rattle.skew_shapes.proofs.filled.Filled.shape.Goals as goal

pub returns-clause-filling : goal.returns-clause-filling
returns-clause-filling c = search (rules, IsFilling-kept)
