use Rattle.std.proofs.Common.{take}
use Rattle.linear_combinations.specs.Gains.{Gains, counted, scaled}
use Rattle.strip_rules.specs.Columns.{column_count}
use Rattle.strip_rules.proofs.elementary.TimesElementaryRulePartitionPartition.add_image.Given as goal

-- the shapes ν visited so far, each with c times the coefficient of m_ν in m_μ·e_k, for μ = `label`, have been added to the table
abbrev pub invariant-loop-shape : goal.invariant-loop-shape
invariant-loop-shape l = Gains l.fn.sum (scaled l.c (counted (column_count l.self.k l.label) (take l.shape-index l.listed))) l.sum
