use Rattle.std.proofs.Common.{rules}
use Rattle.strip_laws.proofs.Containment.{contains-from}
use Rattle.skew_shapes.proofs.skew.Skew.new.Goals as goal

pub invariant_of-result : goal.invariant_of-result
invariant_of-result c = search (rules, contains-from)
