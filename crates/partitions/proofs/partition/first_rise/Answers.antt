use Rattle.std.proofs.Common.{arith}
use Rattle.partitions.proofs.Parts.{Falls-from, Falls-take}
use Rattle.partitions.proofs.partition.first_rise.Goals as goal

pub returns-then-numbers-at : goal.returns-then-numbers-at
returns-then-numbers-at c =
    let at = c.loop-at.at in
    record {
      later = omega arith;
      within = omega arith;
      rises = omega arith;
      before = Falls-take c.args.numbers.now at (omega arith) c.loop-at.invariant;
    }

pub returns : goal.returns
returns c =
    let at = c.loop-at.at in
    Falls-from c.args.numbers.now
    (λ k q. c.loop-at.invariant k (omega arith))
