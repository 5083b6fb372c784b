use Rattle.std.proofs.Common.{rules}
use Rattle.skew_shapes.proofs.RowOrder.{IsTableauWithin-from}
use Rattle.skew_shapes.proofs.filled.Filled.into_tableau.Goals as goal

pub of-requires : goal.of-requires
of-requires c = search (rules, IsTableauWithin-from)
