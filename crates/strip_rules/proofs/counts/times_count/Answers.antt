use Rattle.std.proofs.Common.{rules}
use Rattle.sym_model.proofs.Integers.{nat_abs-multiple}
use Rattle.strip_rules.proofs.counts.times_count.Goals as goal

pub returns-in_default : goal.returns-in_default
returns-in_default c = search (rules, nat_abs-multiple)

pub returns-in_default-coefficient_of : goal.returns-in_default-coefficient_of
returns-in_default-coefficient_of c = search (rules, nat_abs-multiple)
