use Rattle.strip_laws.proofs.Containment.{contains-tells, contains-from, cells-from, cells-tell}
use Rattle.strip_laws.proofs.containing.containment_law.Goals as goal

pub returns-clause-cells : goal.returns-clause-cells
returns-clause-cells c outer inner = (cells-from outer inner, cells-tell outer inner)

pub returns-clause-tested : goal.returns-clause-tested
returns-clause-tested c outer inner = (contains-tells outer inner, contains-from outer inner)
