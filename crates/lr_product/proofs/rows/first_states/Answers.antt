use Rattle.std.proofs.Common.{◌-◌, [], length, arith}
use Rattle.sym_model.specs.Partition.{size}
use Rattle.sym_model.proofs.SortedParts.{IsPartition-none}
use Rattle.lr_product.proofs.Rounds.{first_reached}
use Rattle.lr_product.proofs.rows.first_states.Goals as goal

pub with_rows-requires-clause-reached : goal.with_rows-requires-clause-reached
with_rows-requires-clause-reached c =
    first_reached (length c.args.content.now) (4096 - size c.args.outer.now) []
    c.in_ok-starts.starts.entries IsPartition-none (omega arith) c.in_ok-starts.ensures
