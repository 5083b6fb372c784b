use Rattle.std.proofs.Common.{◌≡◌, length}
use Rattle.lr_product.proofs.CountedLists.{Finds, counted}
use Rattle.lr_product.proofs.counts.collected_terms.Given as goal

abbrev pub invariant-loop-at : goal.invariant-loop-at
invariant-loop-at l = record {
  end : l.at-end ≡ length l.fn.table.entries;
  finds : Finds (counted l.letters l.fn.table.entries l.at) l.terms;
}
