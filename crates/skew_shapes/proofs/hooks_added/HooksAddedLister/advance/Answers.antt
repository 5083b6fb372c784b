use Rattle.std.proofs.Common.{rules}
use Rattle.std.proofs.Math.Seq.{take-append_seam}
use Rattle.skew_shapes.proofs.hooks_added.HooksAddedLister.advance.Goals as goal

pub invariant_of-self-2 : goal.invariant_of-self-2
invariant_of-self-2 c = search (rules, take-append_seam)
