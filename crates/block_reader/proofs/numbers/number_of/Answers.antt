use Rattle.std.proofs.Common.{◌≡◌, ◌^◌, ap, ◌∙◌, take_all, arith}
use Rattle.sym_model.specs.NumberText.{decimal_value}
use Rattle.block_reader.proofs.Digits.{value-more, value-past}
use Rattle.block_reader.proofs.numbers.number_of.Goals as goal

pub returns-in_default : goal.returns-in_default
returns-in_default c =
    value-past c.args.digits.now c.loop-digit.digit-index c.loop-digit.value
    (2 ^ 128) c.loop-digit.invariant.read c.loop-digit-test.true c.in_default.ensures

pub loop-digit-preserved : goal.loop-digit-preserved
loop-digit-preserved c = record {
  read = c.in-Some.ensures.1 ∙ value-more c.args.digits.now c.loop-digit.digit-index
      c.loop-digit.value c.loop-digit.invariant.read c.loop-digit-test.true;
  fits = omega (arith, c.in-Some.ensures.0, c.in-Some.ensures.1);
}

pub returns : goal.returns
returns c =
    let all : c.loop-digit.value ≡ decimal_value c.args.digits.now =
    c.loop-digit.invariant.read ∙ ap decimal_value
    (take_all c.loop-digit.digit-index c.args.digits.now c.loop-digit-test.false) in
    (omega (arith, c.loop-digit.invariant.fits), all)
