use Rattle.std.proofs.Common.{arith}
use Rattle.skew_shapes.proofs.ListerSteps.{removed_height}
use Rattle.skew_shapes.proofs.hooks_removed.HooksRemoved.height.Goals as goal

pub returns : goal.returns
returns c =
    removed_height c.self.inside.base c.self.inside.k c.self.inside.buffer.items
    c.self.inside.hook.first c.self.inside.hook.last c.self.inside.listed c.args.self.now _
    c.self.view_is c.self.invariant (λ l. omega arith)
