use Rattle.std.proofs.Common.{◌+◌, pos, List, ℕ, sym, ap, subst, arith}
use Rattle.std.specs.Prelude.{Err}
use Rattle.std.proofs.lemmas.List.{take_all}
use Rattle.sym_model.specs.Partition.{size as size_of}
use Rattle.sym_model.specs.PartitionList.{partitions_of}
use Rattle.sym_model.proofs.Sums.{Among-get_or}
use Rattle.linear_combinations.specs.Gains.{Gains, counted, scaled}
use Rattle.linear_combinations.proofs.Counted.{counted_counts, scaled_each_by-append, counts_gain}
use Rattle.linear_combinations.proofs.Counted.{counts_overflow}
use Rattle.linear_combinations.proofs.Gains.{places_gain, places_overflow}
use Rattle.linear_combinations.proofs.Steps.{error_is}
use Rattle.skew_shapes.specs.VerticalStrips.{AreVerticalStrips}
use Rattle.sparse_polys.specs.Tables.{equal}
use Rattle.strip_rules.specs.Columns.{column_count, column_terms}
use Rattle.strip_rules.proofs.ColumnSums.{column_sums}
use Rattle.strip_rules.proofs.elementary.TimesElementaryRulePartitionPartition.add_image.Goals as goal

pub add_shape-requires : goal.add_shape-requires
add_shape-requires c =
    let strips = subst (AreVerticalStrips c.args.label.now c.args.self.now.k)
    (sym c.as_slice-listed.ensures.value) c.in_ok-shapes.ensures in
    ((strips.members c.shape-item.result).0 (Among-get_or c.as_slice-listed.result.now
    c.loop-shape.shape-index c.shape-item.result (omega arith) c.shape-item.is)).2

pub loop-shape-preserved : goal.loop-shape-preserved
loop-shape-preserved c =
    let k = c.args.self.now.k in
    let xs = c.as_slice-listed.result.now in
    let x = c.shape-item.result in
    let strips = subst (AreVerticalStrips c.args.label.now c.args.self.now.k)
    (sym c.as_slice-listed.ensures.value) c.in_ok-shapes.ensures in
    let size = ((strips.members x).0 (Among-get_or xs c.loop-shape.shape-index x (omega arith)
    c.shape-item.is)).1 in
    places_gain
    (λ (ys : List (List ℕ)). scaled c.args.c (counted (column_count k c.args.label.now) ys))
    (scaled_each_by-append (λ ν. pos (column_count k c.args.label.now ν)) c.args.c)
    xs c.loop-shape.shape-index x (omega arith) c.shape-item.is c.args.sum.now c.loop-shape.sum
    c.loop-shape.invariant c.add_shape.new.sum (c.in_ok-add_shape.ensures.gains k size)

pub returns-in_err-add_shape-clause-large : goal.returns-in_err-add_shape-clause-large
returns-in_err-add_shape-clause-large c err =
    let k = c.args.self.now.k in
    let μ = c.args.label.now in
    let xs = c.as_slice-listed.result.now in
    let x = c.shape-item.result in
    let strips = subst (AreVerticalStrips c.args.label.now c.args.self.now.k)
    (sym c.as_slice-listed.ensures.value) c.in_ok-shapes.ensures in
    let size = ((strips.members x).0 (Among-get_or xs c.loop-shape.shape-index x (omega arith)
    c.shape-item.is)).1 in
    counts_overflow (counted (column_count k μ) xs) (column_terms k μ)
    (column_sums k μ c.requires.partition xs strips) equal c.args.c c.args.sum.now
    (counted_counts (column_count k μ) xs)
    (counted_counts (column_count k μ) (partitions_of (size_of μ + k)))
    (places_overflow (λ (ys : List (List ℕ)). scaled c.args.c (counted (column_count k μ) ys))
    (scaled_each_by-append (λ ν. pos (column_count k μ ν)) c.args.c)
    xs c.loop-shape.shape-index x (omega arith) c.shape-item.is c.args.sum.now c.loop-shape.sum
    c.loop-shape.invariant equal
    (c.in_err-add_shape.ensures.large
    (ap Err (error_is _ _ _ c.from_residual-in_err-add_shape.ensures.1 err)) k size))

pub returns-clause-gains : goal.returns-clause-gains
returns-clause-gains c =
    let k = c.args.self.now.k in
    let μ = c.args.label.now in
    let xs = c.as_slice-listed.result.now in
    let strips = subst (AreVerticalStrips c.args.label.now c.args.self.now.k)
    (sym c.as_slice-listed.ensures.value) c.in_ok-shapes.ensures in
    counts_gain (counted (column_count k μ) xs) (column_terms k μ)
    (column_sums k μ c.requires.partition xs strips) c.args.c c.args.sum.now c.loop-shape.sum
    (subst (λ ys. Gains c.args.sum.now (scaled c.args.c (counted (column_count k μ) ys))
    c.loop-shape.sum)
    (take_all c.loop-shape.shape-index xs (omega arith)) c.loop-shape.invariant)
