use Rattle.std.proofs.Common.{arith}
use Rattle.std.specs.Prelude.{string_bytes}
use Rattle.calc_words.proofs.CutWords.{cut_goes_on, cut_stops}
use Rattle.calc_words.proofs.command_cuts.places_of.Goals as goal

pub returns-in-Err-clause-wrong : goal.returns-in-Err-clause-wrong
returns-in-Err-clause-wrong c =
    let w = c.in-Err.ensures.wrong in
    cut_stops string_bytes c.args.parts.now c.loop-i.i c.loop-i.at _ _ c.loop-i.places
    c.args.words.now _ c.loop-i.invariant (omega (arith, c.loop-i-test.true, c.requires.within))
    w (c.byte_of-byte.ensures _ w)

pub loop-i-preserved : goal.loop-i-preserved
loop-i-preserved c =
    cut_goes_on string_bytes c.args.parts.now c.loop-i.i c.loop-i.at c.in-Ok.n c.loop-i.places
    c.args.words.now _ c.loop-i.invariant
    (omega (arith, c.loop-i-test.true, c.requires.within)) c.requires.few c.in-Ok.ensures.ok
