use Rattle.std.proofs.Common.{ℕ, ◌<◌, ◌^◌, get_or}
use Rattle.sparse_polys.specs.declared.search.Counted.{Counted}
use Rattle.sparse_polys.proofs.counts.too_large.Given as goal

abbrev pub invariant-loop-term : goal.invariant-loop-term
invariant-loop-term l = (k : ℕ) (t : Counted) → k < l.term-index → (get_or l.terms k t).count < 2 ^ 127
