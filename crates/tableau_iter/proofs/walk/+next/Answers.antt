use Rattle.std.proofs.Common.{◌+◌, ◌<◌, length, ◌∙◌, arith}
use Rattle.std.proofs.lemmas.Bool.{OnTrue_from, OnFalse_from}
use Rattle.tableau_iter.proofs.Fronts.{IsSameUpTo-less, next-end, next-inside, next-taken}
use Rattle.tableau_iter.proofs.Fronts.{from_true, from_false}
use Rattle.tableau_iter.proofs.walk.+next.Goals as goal

pub returns-then-place-len-clause-none : goal.returns-then-place-len-clause-none
returns-then-place-len-clause-none t c = next-end c.args.board.now c.args.place
    (c.if-place-len.true ∙ c.len.ensures.value)

pub returns-then-next-clause-found : goal.returns-then-next-clause-found
returns-then-next-clause-found t c =
    let inside : c.args.place < length c.args.board.now.word = omega (
      arith,
      c.requires.place,
      c.if-place-len.false,
      c.len.ensures,
    ) in
    next-inside c.args.board.now c.next.new.board c.args.place inside c.if-next.ensures.same
    c.if-next.ensures.found

pub returns-then-next-clause-same : goal.returns-then-next-clause-same
returns-then-next-clause-same t c =
    IsSameUpTo-less c.args.place (c.args.place + 1) c.args.board.now c.next.new.board (omega arith)
    c.if-next.ensures.same

pub returns-clause-found : goal.returns-clause-found
returns-clause-found t c =
    let inside : c.args.place < length c.args.board.now.word = omega (
      arith,
      c.requires.place,
      c.if-place-len.false,
      c.len.ensures,
    ) in
    OnTrue_from c.first_after.result _
    (λ e.
    next-taken c.args.board.now c.next.new.board c.take_off-letter.new.self c.args.place
    c.take_off-letter.result inside c.if-next.ensures.same
    c.take_off-letter.ensures.same c.take_off-letter.ensures.letter c.if-next.ensures.none
    ∙ from_true c.first_after.result _ c.first_after.ensures.found e)

pub returns-clause-none : goal.returns-clause-none
returns-clause-none t c =
    let inside : c.args.place < length c.args.board.now.word = omega (
      arith,
      c.requires.place,
      c.if-place-len.false,
      c.len.ensures,
    ) in
    OnFalse_from c.first_after.result _
    (λ e.
    next-taken c.args.board.now c.next.new.board c.take_off-letter.new.self c.args.place
    c.take_off-letter.result inside c.if-next.ensures.same
    c.take_off-letter.ensures.same c.take_off-letter.ensures.letter c.if-next.ensures.none
    ∙ from_false c.first_after.result _ c.first_after.ensures.none e)
