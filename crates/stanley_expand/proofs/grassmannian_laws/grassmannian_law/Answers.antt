use Rattle.stanley_expand.proofs.FirstPlaces.{leaf}
use Rattle.stanley_expand.proofs.SchurPositive.{front_partition, front_rows}
use Rattle.stanley_expand.proofs.grassmannian_laws.grassmannian_law.Goals as goal

pub returns-clause-schur : goal.returns-clause-schur
returns-clause-schur c = leaf

pub returns-clause-partition : goal.returns-clause-partition
returns-clause-partition c = λ m u g. front_partition m u g.one_line g.rises

pub returns-clause-rows : goal.returns-clause-rows
returns-clause-rows c = λ m u g. front_rows m u
