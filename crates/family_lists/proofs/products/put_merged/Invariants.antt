use Rattle.std.proofs.Common.{◌≡◌, ◌≤◌, ◌+◌, ◌-◌, ◌++◌, length, drop}
use Rattle.basis_change_laws.specs.JoinedLists.{merged}
use Rattle.family_lists.proofs.products.put_merged.Given as goal

-- the parts in the buffer, followed by the merge of the remaining parts of `more` and of `parts`, are the merge of `more` and `parts`
abbrev pub invariant-loop-i : goal.invariant-loop-i
invariant-loop-i l = record {
  so_far : l.buffer.items ++ merged (drop l.i l.more) (drop l.j l.parts) ≡ merged l.more l.parts;
  within : l.i ≤ length l.more;
  within_parts : l.j ≤ length l.parts;
}

abbrev pub decreases-loop-i : goal.decreases-loop-i
decreases-loop-i l = (length l.more - l.i) + (length l.parts - l.j)
