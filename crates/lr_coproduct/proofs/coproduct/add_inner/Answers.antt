use Rattle.std.proofs.Common.{length, ◌∙◌}
use Rattle.sym_model.specs.Schur.{schur, skew_schur}
use Rattle.sym_model.specs.Expansion.{beside}
use Rattle.lr_coproduct.specs.PairTerms.{pair_sum, second_sum}
use Rattle.lr_coproduct.proofs.Answering.{second_is, plus_same}
use Rattle.lr_coproduct.proofs.OrderedPairs.{sum_added, canonical_added, firsts_added}
use Rattle.lr_coproduct.proofs.Exchanging.{lists_next, listed_count}
use Rattle.lr_coproduct.proofs.Prefixes.{at_among}
use Rattle.lr_coproduct.proofs.PairCounts.{count_here, count_kept}
use Rattle.lr_coproduct.proofs.coproduct.add_inner.Goals as goal

pub returns-clause-adds : goal.returns-clause-adds
returns-clause-adds c = λ n k.
    let old = c.args.pairs.now.items in
    let new = c.add_list.new.pairs.items in
    plus_same (pair_sum n k new) (pair_sum n k old)
    (second_sum n k c.args.inner.now c.in_ok-list.list) (beside (schur c.args.inner.now n)
    (skew_schur c.args.shape.now c.args.inner.now k))
    (second_is n k c.args.inner.now (skew_schur c.args.shape.now c.args.inner.now k)
    c.in_ok-list.list (c.in_ok-list.ensures.meets k))
    (sum_added n k c.args.inner.now c.in_ok-list.list old new c.in_ok-add_list.ensures.adds)

pub returns-clause-goes_on : goal.returns-clause-goes_on
returns-clause-goes_on c = λ before was.
    canonical_added c.args.inner.now c.in_ok-list.list c.args.pairs.now.items
    c.add_list.new.pairs.items c.in_ok-add_list.ensures.adds
    (c.requires.listed.labels c.args.inner.now (at_among c.args.inners.now
    (length c.args.lists.now.items) c.args.inner.now c.requires.here))
    c.add_list.ensures.canonical before was

pub returns-clause-firsts : goal.returns-clause-firsts
returns-clause-firsts c =
    firsts_added c.args.inner.now c.in_ok-list.list c.args.pairs.now.items
    c.add_list.new.pairs.items c.in_ok-add_list.ensures.adds

pub returns-clause-lists : goal.returns-clause-lists
returns-clause-lists c =
    lists_next c.args.shape.now c.args.inners.now c.args.lists.now.items c.add_list.new.lists.items
    c.args.inner.now c.in_ok-list.list c.requires.here
    (record { meets = c.in_ok-list.ensures.meets; fits = c.in_ok-list.ensures.fits })
    c.in_ok-add_list.ensures.kept c.requires.lists

pub returns-clause-counts : goal.returns-clause-counts
returns-clause-counts c = λ o before second q.
    let inner = c.args.inner.now in
    let list = c.in_ok-list.list in
    let there = at_among c.args.inners.now (length c.args.lists.now.items) inner c.requires.here in
    count_here inner second list c.args.pairs.now.items c.add_list.new.pairs.items
    c.in_ok-add_list.ensures.adds before
    ∙ listed_count c.args.shape.now inner second list o q (c.requires.listed.partitions inner there)
    (c.requires.listed.inside inner there)
    c.add_list.ensures.canonical c.in_ok-list.ensures.meets

pub returns-clause-others : goal.returns-clause-others
returns-clause-others c = λ first second other.
    count_kept c.args.inner.now first second c.in_ok-list.list c.args.pairs.now.items
    c.add_list.new.pairs.items c.in_ok-add_list.ensures.adds other
