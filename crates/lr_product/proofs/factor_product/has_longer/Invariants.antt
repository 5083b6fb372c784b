use Rattle.std.proofs.Common.{ℕ, List, ◌≤◌, take}
use Rattle.sym_model.specs.Sum.{Among}
use Rattle.sym_model.specs.Partition.{rows}
use Rattle.lr_product.proofs.factor_product.has_longer.Given as goal

-- no factor visited so far has more than k rows
abbrev pub invariant-loop-at : goal.invariant-loop-at
invariant-loop-at l = (parts : List ℕ) → Among parts (take l.at l.factors) → rows parts ≤ l.k
