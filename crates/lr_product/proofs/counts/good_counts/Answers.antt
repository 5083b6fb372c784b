use Rattle.std.proofs.Common.{[]}
use Rattle.lr_product.specs.WeighedSum.{weighed, comes_to}
use Rattle.lr_product.specs.Counts.{good_count}
use Rattle.lr_product.proofs.RowPruning.{none_below}
use Rattle.lr_product.proofs.GoodCounts.{no_bound, counts_agree, fits_agree, past_agree}
use Rattle.lr_product.proofs.counts.good_counts.Goals as goal

pub returns-clause-counts : goal.returns-clause-counts
returns-clause-counts c =
    counts_agree c.args.letters (λ parts. weighed c.args.letters (comes_to parts)
    c.in_ok-table.table.entries) (good_count c.args.letters c.args.start.now c.args.outer.now
    c.args.inner.now)
    c.terms_of_table.result (λ parts. c.in_ok-table.ensures.ways (λ ν. comes_to parts ν [])
    (no_bound (comes_to parts)) (none_below c.args.letters 0 (comes_to parts))) c.terms_of_table.ensures.counts c.terms_of_table.ensures.fits

pub returns-clause-fits : goal.returns-clause-fits
returns-clause-fits c =
    fits_agree (λ parts. weighed c.args.letters (comes_to parts) c.in_ok-table.table.entries)
    (good_count c.args.letters c.args.start.now c.args.outer.now c.args.inner.now)
    c.terms_of_table.result (λ parts. c.in_ok-table.ensures.ways (λ ν. comes_to parts ν [])
    (no_bound (comes_to parts)) (none_below c.args.letters 0 (comes_to parts))) c.terms_of_table.ensures.fits

pub returns-clause-large : goal.returns-clause-large
returns-clause-large c = λ e.
    past_agree c.args.letters (λ parts. weighed c.args.letters (comes_to parts)
    c.in_ok-table.table.entries) (good_count c.args.letters c.args.start.now c.args.outer.now
    c.args.inner.now)
    (λ parts. c.in_ok-table.ensures.ways (λ ν. comes_to parts ν []) (no_bound (comes_to parts)) (none_below c.args.letters 0 (comes_to parts)))
    (c.terms_of_table.ensures.large e)
