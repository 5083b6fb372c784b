use Rattle.partitions.proofs.Parts.{without_last_zeros-IsPartition}
use Rattle.expression_reading.proofs.BuildFacts.{few_rows, small_size, falls_cut}
use Rattle.expression_reading.proofs.builder.atom.Goals as goal

pub from_valid_numbers-requires : goal.from_valid_numbers-requires
from_valid_numbers-requires c =
    let numbers = c.args.numbers.now in
    record {
      partition = without_last_zeros-IsPartition numbers (falls_cut numbers c.requires);
      few = few_rows numbers c.requires;
      small = small_size numbers c.requires;
    }
