use Rattle.std.proofs.Common.{◌≡◌, ◌-◌, slice_index, sym, ◌∙◌, arith}
use Rattle.perm_codes.proofs.Prefixes.{kept_without, kept_here}
use Rattle.perm_codes.proofs.letters.count_kept.Goals as goal

pub loop-len-preserved : goal.loop-len-preserved
loop-len-preserved c =
    let w = c.args.letters.now in
    let n = c.loop-len.len in
    let fixed : slice_index w (n - 1) ≡ n = omega arith in (
      omega (arith, c.loop-len.invariant.0),
      kept_without w n c.loop-len-test.true
          c.loop-len.invariant.0 fixed ∙ c.loop-len.invariant.1,
    )

pub returns-else-from-len : goal.returns-else-from-len
returns-else-from-len c =
    let w = c.args.letters.now in
    let n = c.loop-len.len in
    sym (kept_here w n c.loop-len-test.true c.loop-len.invariant.0 (λ e. omega arith))
    ∙ c.loop-len.invariant.1
