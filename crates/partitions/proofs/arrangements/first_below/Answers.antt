use Rattle.std.proofs.Common.{◌≡◌, ◌≤◌, get_or, arith, subst, inl, inr}
use Rattle.std.proofs.lemmas.Bool.{cases_lt}
use Rattle.partitions.proofs.Arrangings.{not_last}
use Rattle.partitions.proofs.arrangements.first_below.Goals as goal

pub loop-at-preserved : goal.loop-at-preserved
loop-at-preserved c =
    let at = c.loop-at.at in
    record {
      start = omega (arith, c.loop-at.invariant.start);
      within = not_last c.args.numbers.now at c.args.bound c.loop-at.invariant.within
          c.requires.last c.loop-at-test.true;
      before = λ k h l.
          elim (cases_lt k c.loop-at.at) [
            | inl m ↦ c.loop-at.invariant.before k h m
            | inr m ↦
                let e : c.loop-at.at ≡ k = omega arith in
                subst (λ i. c.args.bound ≤ get_or c.args.numbers.now i 0) e c.loop-at-test.true
          ];
    }
