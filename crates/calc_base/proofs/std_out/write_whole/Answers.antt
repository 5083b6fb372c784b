use Rattle.std.proofs.Common.{◌+◌, take, drop, refl, arith}
use Rattle.std.proofs.KnownBytes.{Appends-kept}
use Rattle.std.proofs.lemmas.List.{take-append-drop}
use Rattle.calc_base.proofs.Written.{Appends-more}
use Rattle.calc_base.proofs.std_out.write_whole.Goals as goal

pub loop-at-preserved : goal.loop-at-preserved
loop-at-preserved g c = (
  omega (arith, c.in-Ok.ensures.bound),
  Appends-more _ _ _ c.args.bytes.now _ c.loop-at.at c.in-Ok.count refl c.loop-at.invariant.1
      c.in-Ok.ensures.bytes,
)

pub returns-in_default-clause-part : goal.returns-in_default-clause-part
returns-in_default-clause-part g c =
    let bytes = c.args.bytes.now in
    let n = c.loop-at.at + c.in-Ok.count in (
      take n bytes,
      record { rest = drop n bytes; joined = take-append-drop n bytes },
      Appends-more _ _ _ bytes _ c.loop-at.at c.in-Ok.count refl c.loop-at.invariant.1
          c.in-Ok.ensures.bytes,
    )

pub returns-in_default-2-clause-part : goal.returns-in_default-2-clause-part
returns-in_default-2-clause-part g c =
    let bytes = c.args.bytes.now in
    let n = c.loop-at.at in (
      take n bytes,
      record { rest = drop n bytes; joined = take-append-drop n bytes },
      Appends-kept _ _ _ (take n bytes) c.loop-at.invariant.1 c.in_default.ensures.bytes,
    )
