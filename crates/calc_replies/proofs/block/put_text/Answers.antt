use Rattle.std.proofs.Common.{◌++◌, ap}
use Rattle.calc_base.proofs.PutsLaws.{Puts-as, Puts-then}
use Rattle.calc_replies.proofs.Delivered.{Puts-behind, Puts-from_prints}
use Rattle.calc_replies.proofs.block.put_text.Goals as goal

pub returns-then-put_front-clause-goes : goal.returns-then-put_front-clause-goes
returns-then-put_front-clause-goes g c =
    rw c.in-Refused.is (Puts-behind c.if-put_front.true c.put_front-in-Refused.ensures
    (Puts-from_prints c.print_refusal.result c.print_refusal.ensures c.is_ok.ensures.value))

pub returns-then-put_front-2-clause-goes : goal.returns-then-put_front-2-clause-goes
returns-then-put_front-2-clause-goes g c =
    rw c.in-Large.is (Puts-behind c.if-put_front-2.true c.put_front-in-Large.ensures
    (Puts-from_prints c.print_large.result c.print_large.ensures
    c.is_ok-then-put_front-2.ensures.value))

pub returns-then-put_front-3-clause-goes : goal.returns-then-put_front-3-clause-goes
returns-then-put_front-3-clause-goes g c =
    rw c.in-Told.is (Puts-behind c.if-put_front-3.true c.put_front-in-Told.ensures
    c.put_told.ensures)

pub returns-in-Written-clause-goes : goal.returns-in-Written-clause-goes
returns-in-Written-clause-goes g c =
    rw c.in-Written.is (Puts-as (ap (λ t. c.args.front.now ++ t) c.bytes.ensures)
    (Puts-then c.put_front.ensures c.put_if.ensures.goes))
