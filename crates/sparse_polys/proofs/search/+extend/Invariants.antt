use Rattle.std.proofs.Common.{◌≡◌, ℕ, ◌+◌, List}
use Rattle.sym_model.specs.Partition.{size}
use Rattle.sparse_polys.specs.Search.{count_at, found, AreCounted, IsChosen, Counts, HaveCounts}
use Rattle.sparse_polys.proofs.search.+extend.Given as goal

abbrev pub decreases-extend : goal.decreases-extend
decreases-extend l = l.left

abbrev pub invariant-loop-i : goal.invariant-loop-i
invariant-loop-i l = record {
  found : (ν : List ℕ) → count_at l.out.items ν ≡ count_at l.fn.out.items ν + found l.chosen l.i l.states ν;
  counted : (total : ℕ) → size l.chosen + l.left ≡ total → IsChosen l.largest l.chosen → AreCounted total l.fn.out.items → AreCounted total l.out.items;
  counts : (f : List ℕ → ℕ) → Counts f l.chosen l.largest l.states → HaveCounts f l.fn.out.items → HaveCounts f l.out.items;
}
