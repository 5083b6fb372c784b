use Rattle.std.proofs.Common.{◌+◌, sym, subst}
use Rattle.sym_model.specs.Partition.{size}
use Rattle.sym_model.specs.PartitionList.{partitions_of}
use Rattle.strip_rules.specs.StripProduct.{placings}
use Rattle.linear_combinations.proofs.Counted.{counted_counts, counts_gain, counts_overflow}
use Rattle.product_laws.specs.StripLists.{ListsEach}
use Rattle.sparse_polys.specs.Tables.{equal}
use Rattle.strip_rules.specs.Rows.{AddsCells, with_placings, row_terms}
use Rattle.strip_rules.proofs.RowTables.{row_sums}
use Rattle.strip_rules.proofs.complete.TimesCompleteRulePartitionPartition.add_image.Goals as goal
use Rattle.std.proofs.lemmas.Result.{on_ok_weaker}

pub add_placings-requires : goal.add_placings-requires
add_placings-requires c = λ ν m.
    let shapes = subst (ListsEach (AddsCells c.args.self.now.k c.args.label.now))
    (sym c.deref.ensures.value) c.in_ok-shapes.ensures.shapes in
    ((shapes.members ν).0 m).2

pub returns-clause-gains : goal.returns-clause-gains
returns-clause-gains c =
    let k = c.args.self.now.k in
    let μ = c.args.label.now in
    let shapes = subst (ListsEach (AddsCells c.args.self.now.k c.args.label.now))
    (sym c.deref.ensures.value) c.in_ok-shapes.ensures.shapes in
    on_ok_weaker c.add_placings.result (counts_gain (with_placings μ c.deref.result.now) (row_terms k μ)
    (row_sums k μ c.deref.result.now c.in_ok-shapes.ensures.limits.partition shapes) c.args.c
    c.args.sum.now c.add_placings.new.sum) c.add_placings.ensures.gains

pub returns-clause-large : goal.returns-clause-large
returns-clause-large c = λ large.
    let k = c.args.self.now.k in
    let μ = c.args.label.now in
    let shapes = subst (ListsEach (AddsCells c.args.self.now.k c.args.label.now))
    (sym c.deref.ensures.value) c.in_ok-shapes.ensures.shapes in
    counts_overflow (with_placings μ c.deref.result.now) (row_terms k μ)
    (row_sums k μ c.deref.result.now c.in_ok-shapes.ensures.limits.partition shapes) equal c.args.c
    c.args.sum.now (counted_counts (placings μ) c.deref.result.now)
    (counted_counts (placings μ) (partitions_of (size μ + k)))
    (c.add_placings.ensures.large large)
