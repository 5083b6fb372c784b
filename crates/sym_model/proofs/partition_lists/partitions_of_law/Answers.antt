use Rattle.std.proofs.Common.{refl, rules}
use Rattle.sym_model.specs.PartitionList.{partitions_within}
use Rattle.sym_model.proofs.PartitionLists.{partitions_of-tells, Among-partitions_of}
use Rattle.sym_model.proofs.PartitionLists.{FallsLexicographically-partitions_within}
use Rattle.sym_model.proofs.PartitionLists.{Once-FallsLexicographically}
use Rattle.sym_model.proofs.partition_lists.partitions_of_law.Goals as goal

pub returns-clause-exactly : goal.returns-clause-exactly
returns-clause-exactly c = search (rules, partitions_of-tells, Among-partitions_of)

pub returns-clause-once : goal.returns-clause-once
returns-clause-once c = λ d. Once-FallsLexicographically _ (FallsLexicographically-partitions_within
    d d d)

pub returns-clause-order : goal.returns-clause-order
returns-clause-order c = λ d. FallsLexicographically-partitions_within d d d

pub returns-clause-of_4 : goal.returns-clause-of_4
unfolding partitions_within
returns-clause-of_4 c = refl
