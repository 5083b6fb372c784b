use Rattle.std.proofs.Common.{◌+◌, List, subst, rules}
use Rattle.sym_model.specs.Partition.{size}
use Rattle.sparse_polys.specs.declared.search.Counted.{Counted}
use Rattle.sparse_polys.specs.MonomialProducts.{HasLarge}
use Rattle.sparse_polys.proofs.ExactCounts.{large_ways, exact_counts}
use Rattle.sparse_polys.proofs.counts.exact_product.Goals as goal

pub returns-then-too_large-clause-large : goal.returns-then-too_large-clause-large
returns-then-too_large-clause-large c e =
    large_ways c.args.left.now c.args.right.now (size c.args.left.now + size c.args.right.now)
    c.in_ok-terms.terms.items
    c.in_ok-terms.ensures.each c.in_ok-terms.ensures.labels
    (subst (λ (l : List Counted). HasLarge l) c.as_slice.ensures.value
    (c.too_large.ensures.large c.if-too_large.true))

pub returns-clause-counts : goal.returns-clause-counts
returns-clause-counts c ν p = search (rules, exact_counts)
