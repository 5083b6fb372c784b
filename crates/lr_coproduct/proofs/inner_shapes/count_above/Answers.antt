use Rattle.std.proofs.Common.{List, ℕ, rules, of_calls}
use Rattle.std.specs.Prelude.{nat_lt}
use Rattle.std.proofs.lemmas.Fn.{always_returns_same}
use Rattle.sym_model.specs.Partition.{size}
use Rattle.lr_coproduct.proofs.Sizes.{parted, counted_above}
use Rattle.lr_coproduct.proofs.inner_shapes.count_above.Goals as goal

pub returns : goal.returns
returns c =
    counted_above c.args.inners.now c.args.cells c.partition_point.result
    c.partition_point.ensures.bound
    (c.partition_point.ensures.partitioned (λ (inner : List ℕ). nat_lt c.args.cells (size inner))
    (always_returns_same _ _ _ (λ a r f k. search (rules, of_calls)))
    (parted c.args.inners.now c.args.cells c.requires))
