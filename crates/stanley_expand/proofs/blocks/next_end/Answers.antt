use Rattle.std.proofs.Common.{◌≡◌, ℕ, ◌+◌, ◌≤◌, List, take, subst, arith}
use Rattle.sym_model.specs.Sum.{Among}
use Rattle.stanley_expand.specs.Blocks.{IsEnd}
use Rattle.stanley_expand.proofs.BlockEnds.{end_last, small_next}
use Rattle.stanley_expand.proofs.blocks.next_end.Goals as goal

pub returns-then-from-at-clause-end : goal.returns-then-from-at-clause-end
returns-then-from-at-clause-end c =
    let most = c.max-greatest.ensures in
    let here = c.if-from-at.true in
    let same = c.from-then-letter-greatest.ensures in
    let is = c.from-then-from-at.ensures in
    let inside = c.loop-at-test.true in
    let e : c.loop-at.at + 1 ≡ c.from-then-from-at.result = omega arith in
    subst (λ (w : List ℕ). IsEnd w c.from-then-from-at.result) c.letters-letters.ensures.value
    (record {
      inside = omega arith;
      small = subst (λ (n : ℕ). (a : ℕ) → Among a (take n c.letters-letters.result.now) → a ≤ n) e
          (small_next c.letters-letters.result.now c.loop-at.at c.loop-at.greatest (c.loop-at.at + 1) c.loop-at-test.true
          c.loop-at.invariant.small (omega arith) (omega arith));
    })

pub loop-at-preserved : goal.loop-at-preserved
loop-at-preserved c =
    let most = c.max-greatest.ensures in
    record {
      small = small_next c.letters-letters.result.now c.loop-at.at c.loop-at.greatest c.max-greatest.result c.loop-at-test.true
          c.loop-at.invariant.small (omega arith) (omega arith);
    }

pub returns-clause-end : goal.returns-clause-end
returns-clause-end c = end_last c.args.perm.now c.len.result c.len.ensures.limits.kept.one_line c.len.ensures.value
