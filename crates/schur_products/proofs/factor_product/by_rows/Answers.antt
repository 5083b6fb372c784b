use Rattle.std.proofs.Common.{rules}
use Rattle.schur_products.proofs.Exchanged.{if_given, counts_swapped, fits_swapped, past_swapped}
use Rattle.schur_products.proofs.factor_product.by_rows.Goals as goal

pub returns-then-rows-clause-counts : goal.returns-then-rows-clause-counts
returns-then-rows-clause-counts c = search (rules, if_given, counts_swapped)

pub returns-then-rows-clause-fits : goal.returns-then-rows-clause-fits
returns-then-rows-clause-fits c = search (rules, if_given, fits_swapped)

pub returns-then-rows-clause-large : goal.returns-then-rows-clause-large
returns-then-rows-clause-large c = search (rules, past_swapped)
