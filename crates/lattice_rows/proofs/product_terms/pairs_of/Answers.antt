use Rattle.std.proofs.Common.{arith}
use Rattle.lattice_rows.proofs.ListedTerms.{large_here}
use Rattle.lattice_rows.proofs.product_terms.pairs_of.Goals as goal

pub returns-then-count-ge-LIMIT-clause-large : goal.returns-then-count-ge-LIMIT-clause-large
returns-then-count-ge-LIMIT-clause-large c = λ e.
    c.loop-pairs.invariant.large (large_here _ _ _ _ _ c.in_ok-advance.ensures.next
    c.current-count.ensures.term (omega (arith, c.if-count-ge-LIMIT.true)))
