use Rattle.std.proofs.Common.{sym, subst, rules}
use Rattle.lr_product.specs.WeighedSum.{weighed, comes_to}
use Rattle.lr_product.specs.Counts.{HasCounts}
use Rattle.lr_product.proofs.Placed.{canonical_counts, canonical_small, past_at}
use Rattle.lr_product.proofs.counts.terms_of_table.Goals as goal

pub returns-in_err-refuse_large-clause-large : goal.returns-in_err-refuse_large-clause-large
returns-in_err-refuse_large-clause-large c = λ e.
    let h = c.in_err-refuse_large.ensures.large in
    past_at c.args.letters c.args.table.entries h.0 c.requires.reached h.1

pub returns-in-Some-clause-counts : goal.returns-in-Some-clause-counts
returns-in-Some-clause-counts c =
    let n = c.args.letters in
    let es = c.args.table.entries in
    subst (HasCounts n (λ parts. weighed n (comes_to parts) es)) (sym c.in-Some.ensures.1)
    (canonical_counts n es c.in_ok-pairs.pairs.items c.in-Some.ensures.0
    c.in_ok-pairs.ensures.counts)

pub returns-in-Some-clause-fits : goal.returns-in-Some-clause-fits
returns-in-Some-clause-fits c = search (rules, canonical_small)
