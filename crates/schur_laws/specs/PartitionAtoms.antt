-- Expressions in which the label of each atom is a partition. An atom is a basis element such as s_λ or p_λ; its label is λ.
use Rattle.sym_model.specs.Partition.{IsPartition}
use Rattle.sym_model.specs.Expression.{Tree, number, fraction, atom, negation, sum, difference}
use Rattle.sym_model.specs.Expression.{product}

-- the label of each atom (basis element) of the expression is a partition
abbrev pub HasPartitions : Tree → Type 0
HasPartitions (number a) = Unit {0}
HasPartitions (fraction a b) = Unit {0}
HasPartitions (atom basis parts) = IsPartition parts
HasPartitions (negation e) = HasPartitions e
HasPartitions (sum e f) = HasPartitions e × HasPartitions f
HasPartitions (difference e f) = HasPartitions e × HasPartitions f
HasPartitions (product e f) = HasPartitions e × HasPartitions f
