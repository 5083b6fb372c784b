use Rattle.expression_reading.proofs.SignJudging.{minus-found, slash-found, none-found}
use Rattle.expression_reading.proofs.plethysm_words.first_sign.Goals as goal

pub returns-in-45 : goal.returns-in-45
returns-in-45 c = minus-found c.args.word.now c.loop-i.i c.loop-i.digits_from c.loop-i.invariant
    c.loop-i-test.true c.in-45.is

pub returns-in-47 : goal.returns-in-47
returns-in-47 c = slash-found c.args.word.now c.loop-i.i c.loop-i.digits_from c.loop-i.invariant
    c.loop-i-test.true c.in-47.is

pub returns : goal.returns
returns c = none-found c.args.word.now c.loop-i.i c.loop-i.digits_from c.loop-i.invariant
    c.loop-i-test.false
