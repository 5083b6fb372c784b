use Rattle.std.proofs.Common.{rules}
use Rattle.skew_shapes.proofs.AddedShapes.{hooks_added}
use Rattle.skew_shapes.proofs.hooks_added.HooksAdded.new.Goals as goal

pub returns-clause-hooks : goal.returns-clause-hooks
returns-clause-hooks c = search (rules, hooks_added)
