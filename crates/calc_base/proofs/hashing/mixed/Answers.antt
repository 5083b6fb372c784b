use Rattle.std.proofs.Common.{◌+◌, ◌*◌, ◌%◌, ◌^◌, drop, sym, ap, ◌∙◌}
use Rattle.calc_base.specs.Mixing.{mixed as mixed_of}
use Rattle.calc_base.proofs.MixedNumbers.{mixed_next, mixed_all}
use Rattle.calc_base.proofs.hashing.mixed.Goals as goal

pub loop-number-preserved : goal.loop-number-preserved
loop-number-preserved c =
    ap (λ a. mixed_of (((c.loop-number.sum * 1000003) % 2 ^ 64 + a) % 2 ^ 64)
    (drop (c.loop-number.number-index + 1) c.args.numbers.now)) c.from.ensures
    ∙ sym (mixed_next c.args.numbers.now c.loop-number.number-index c.loop-number.sum
    c.loop-number-test.true)
    ∙ c.loop-number.invariant

pub returns : goal.returns
returns c = sym (mixed_all c.args.numbers.now c.loop-number.number-index c.loop-number.sum
    c.loop-number-test.false) ∙ c.loop-number.invariant
