use Rattle.std.proofs.Common.{arith, get_or, refl, sym, ◌∙◌, subst, Some, None}
use Rattle.expression_reading.specs.ScanSteps.{StepsTo, Sees}
use Rattle.expression_reading.proofs.ScanRuns.{room, keeps-step, fault-scanned, whole-scanned}
use Rattle.expression_reading.proofs.ScanRuns.{part-scanned}
use Rattle.expression_reading.proofs.scan.scan_word.Goals as goal

pub after-requires-clause-room : goal.after-requires-clause-room
after-requires-clause-room c =
    (room c.args.word.now c.loop-i.i c.loop-i.scan (omega arith) (omega arith) c.loop-i.invariant).0

pub after-requires-clause-depth : goal.after-requires-clause-depth
after-requires-clause-depth c =
    (room c.args.word.now c.loop-i.i c.loop-i.scan (omega arith) (omega arith) c.loop-i.invariant).1

pub returns-in-None : goal.returns-in-None
returns-in-None c =
    fault-scanned c.args.word.now c.loop-i.i (get_or c.args.word.now c.loop-i.i 0) c.loop-i.scan
    c.loop-i-test.true refl
    (omega (arith, c.type_inv.word c.loop-i.i)) c.loop-i.invariant
    (subst (λ y. StepsTo c.loop-i.scan c.loop-i.i y None) c.symbol_of.ensures c.in-None.ensures)

pub loop-i-preserved : goal.loop-i-preserved
loop-i-preserved c =
    keeps-step c.args.word.now c.loop-i.i (get_or c.args.word.now c.loop-i.i 0) c.loop-i.scan
    c.in-Some.next c.loop-i-test.true refl
    (omega (arith, c.type_inv.word c.loop-i.i)) c.loop-i.invariant
    (subst (λ y. StepsTo c.loop-i.scan c.loop-i.i y (Some c.in-Some.next)) c.symbol_of.ensures
    c.in-Some.ensures)

pub returns-then-is_whole : goal.returns-then-is_whole
returns-then-is_whole c =
    whole-scanned c.args.word.now c.loop-i.i c.loop-i.scan c.with_mark.result (omega arith)
    c.loop-i.invariant
    (sym c.is_whole.ensures ∙ c.if-is_whole.true)
    (subst (λ m. Sees c.loop-i.scan m c.with_mark.result) c.number_mark.ensures
    c.with_mark.ensures.sees)

pub returns-else-is_whole : goal.returns-else-is_whole
returns-else-is_whole c =
    part-scanned c.args.word.now c.loop-i.i c.loop-i.scan (omega arith) c.loop-i.invariant
    (sym c.is_whole.ensures ∙ c.if-is_whole.false)
