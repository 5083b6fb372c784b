use Rattle.std.proofs.Common.{◌+◌, ◌++◌, ℕ, List, sym, ap, subst, arith, rules}
use Rattle.sym_model.specs.Partition.{size}
use Rattle.partitions.specs.Limits.{IsWithinLimits}
use Rattle.strip_rules.proofs.AddedCells.{limits_all, all_added}
use Rattle.strip_rules.proofs.complete.with_cells.Goals as goal

pub add_shapes-requires-clause-limits : goal.add_shapes-requires-clause-limits
add_shapes-requires-clause-limits c = λ rest a.
    let same = ap size c.parts.ensures.value in
    subst (λ (above : List ℕ). IsWithinLimits (above ++ rest)) (sym c.in_ok-above.ensures.items)
    (limits_all (c.size.result + c.args.k) c.args.k c.parts.result.now rest
    (omega (arith, c.requires)) a)

pub returns-clause-shapes : goal.returns-clause-shapes
returns-clause-shapes c = search (rules, all_added)
