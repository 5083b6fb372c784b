use Rattle.std.proofs.Common.{ap, arith}
use Rattle.perm_codes.proofs.InversionCounts.{few_inversions}
use Rattle.sym_model.specs.Partition.{size}
use Rattle.schubert_transition.proofs.FinalSums.{final, fits_of, overflow_past}
use Rattle.schubert_transition.proofs.polynomial.schubert.Goals as goal

pub product_of-requires : goal.product_of-requires
product_of-requires c limits =
    let few = limits.few in
    let a = few_inversions c.args.w.now limits.few in
    let b = ap size c.one-one.ensures in
    omega arith

pub returns-clause-is : goal.returns-clause-is
returns-clause-is c =
    final c.args.w.now c.one-one.result c.product_of.result
    c.product_of.ensures.limits.kept.one_line c.one-one.ensures
    c.product_of.ensures.value c.product_of.ensures.table c.product_of.ensures.held
    c.product_of.ensures.shares

pub returns-clause-large : goal.returns-clause-large
returns-clause-large c err = overflow_past c.args.w.now c.one-one.result
    c.product_of.ensures.limits.kept.one_line c.one-one.ensures (c.product_of.ensures.overflow err)

pub returns-clause-fits : goal.returns-clause-fits
returns-clause-fits c = fits_of c.args.w.now c.product_of.result (returns-clause-is c)
