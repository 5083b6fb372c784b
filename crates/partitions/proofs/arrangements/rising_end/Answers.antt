use Rattle.std.proofs.Common.{drop, sym, subst, arith}
use Rattle.partitions.specs.Arranging.{Rises}
use Rattle.partitions.proofs.Arrangings.{Rises-last, Rises-more}
use Rattle.partitions.proofs.arrangements.rising_end.Goals as goal

pub loop-at-init : goal.loop-at-init
loop-at-init c = (
  λ h. omega (arith, c.saturating_sub-at.ensures),
  subst (λ n. Rises (drop n c.args.numbers.now)) (sym c.saturating_sub-at.ensures)
      (Rises-last c.args.numbers.now),
)

pub loop-at-preserved : goal.loop-at-preserved
loop-at-preserved c = (
  λ h. omega (arith, c.loop-at.invariant.0 c.loop-at-test.true),
  Rises-more c.args.numbers.now c.loop-at.at c.loop-at-test.true
      (c.loop-at.invariant.0 c.loop-at-test.true) c.if-numbers-at.true
      c.loop-at.invariant.1,
)
