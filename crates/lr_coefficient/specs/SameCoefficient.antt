-- Partitions whose product has the same coefficient as another.
use Rattle.std.specs.Prelude.{◌≡◌, ℕ, ◌≤◌, List}
use Rattle.sym_model.specs.Partition.{IsPartition, rows}
use Rattle.sym_model.specs.GoodTableau.{product_count}

-- all six are partitions, other_outer has at most k rows, and in k variables it has the same coefficient in s_other_left·s_other_right as outer in
-- s_left·s_right
pub record HasSameCoefficient (k : ℕ) (outer left right other_outer other_left other_right : List ℕ) : Type 0 where
  pub partitions : IsPartition outer × IsPartition left × IsPartition right
  pub outer_partition : IsPartition other_outer
  pub left_partition : IsPartition other_left
  pub right_partition : IsPartition other_right
  pub few : rows other_outer ≤ k
  pub count : product_count k other_left other_right other_outer ≡ product_count k left right outer
