use Rattle.std.proofs.Common.{◌<◌, arith, rules}
use Rattle.std.proofs.lemmas.Nat.Bits.{bit_at-zero}
use Rattle.lr_product.proofs.FreeLetters.{marks-none, marks-next, clear-next, marks-narrowed}
use Rattle.lr_product.proofs.letters.free_letters.Goals as goal

pub loop-at-init : goal.loop-at-init
loop-at-init c = search (rules, marks-none, bit_at-zero)

pub loop-at-preserved : goal.loop-at-preserved
loop-at-preserved c =
    let at = c.loop-at.at in
    let free = c.loop-at.free in
    let inside : at < 64 = omega (arith, c.loop-at-test.true, c.loop-at.invariant.end) in
    record {
      end = c.loop-at.invariant.end;
      low = omega (arith, c.loop-at.invariant.low);
      marks = marks-next c.args.above c.args.bound.now c.args.numbers.now at free c.can_rise.result
          c.from.result c.from.ensures inside c.loop-at.invariant.low
          c.can_rise.ensures c.loop-at.invariant.marks
          (c.loop-at.invariant.clear at (omega arith));
      clear = clear-next at free c.can_rise.result c.from.result
          c.from.ensures inside c.loop-at.invariant.clear;
    }

pub returns : goal.returns
returns c = search (rules, marks-narrowed)
