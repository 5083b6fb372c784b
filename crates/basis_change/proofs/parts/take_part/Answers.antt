use Rattle.std.proofs.Common.{⊎_elim, arith, rules}
use Rattle.std.proofs.lemmas.List.{get_or_read_under}
use Rattle.std.proofs.Math.Nat.{eq-or-lt_of_le}
use Rattle.basis_change.proofs.PartLists.{part-taken, none-taken}
use Rattle.basis_change.proofs.parts.take_part.Goals as goal
use Rattle.basis_change.proofs.parts.take_part.Goals.{then-loop-at-test+else-index-part}
use Rattle.basis_change.proofs.parts.take_part.Goals.{else-loop-at-test}

pub loop-at-init : goal.loop-at-init
loop-at-init c = λ i below. absurd (omega arith)

pub loop-at-smaller : goal.loop-at-smaller
loop-at-smaller c = omega (arith, c.loop-at-test.true, c.len.ensures)

pub loop-at-preserved : goal.loop-at-preserved
loop-at-preserved c = search (rules, ⊎_elim, get_or_read_under, eq-or-lt_of_le)

pub returns-then-at-len : goal.returns-then-at-len
returns-then-at-len c =
    search (rules, then-loop-at-test+else-index-part, part-taken, get_or_read_under, else-loop-at-test)

pub returns-else-at-len : goal.returns-else-at-len
returns-else-at-len c = search (rules, none-taken)
