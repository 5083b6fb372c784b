use Rattle.std.proofs.Common.{◌+◌, ◌<◌, length, refl, sym, ap, ap₂, ◌∙◌, arith}
use Rattle.std.proofs.lemmas.List.{take_all}
use Rattle.std.proofs.lemmas.Bool.{OnTrue_from, OnFalse_from}
use Rattle.tableau_iter.specs.Positions.{Setting, fits_in, passes}
use Rattle.tableau_iter.proofs.Fronts.{IsSameUpTo-then, IsSameUpTo-less, end-found, more-letters}
use Rattle.tableau_iter.proofs.Fronts.{tried-all, tried-found, tried-none, from_true, from_false}
use Rattle.tableau_iter.proofs.walk.+walk.Goals as goal

pub first-returns-then-place-len-clause-found : goal.first-returns-then-place-len-clause-found
first-returns-then-place-len-clause-found t c =
    let old = c.args.board.now in
    let end = c.if-place-len.true ∙ c.len.ensures.value in
    end-found old old c.args.place end refl
    (ap (passes old) (sym (take_all c.args.place old.word (omega arith))) ∙ c.requires.ready.fits)

pub first-returns-clause-found : goal.first-returns-clause-found
first-returns-clause-found t c =
    let inside : c.args.place < length c.args.board.now.word = omega (
      arith,
      c.requires.place,
      c.if-place-len.false,
      c.len.ensures,
    ) in
    OnTrue_from c.first_after.result _
    (λ e. more-letters c.args.board.now c.args.place inside ∙ from_true c.first_after.result _
    c.first_after.ensures.found e)

pub first-returns-clause-none : goal.first-returns-clause-none
first-returns-clause-none t c =
    let inside : c.args.place < length c.args.board.now.word = omega (
      arith,
      c.requires.place,
      c.if-place-len.false,
      c.len.ensures,
    ) in
    OnFalse_from c.first_after.result _
    (λ e. more-letters c.args.board.now c.args.place inside ∙ from_false c.first_after.result _
    c.first_after.ensures.none e)

pub first_after-returns-then-first-clause-found : goal.first_after-returns-then-first-clause-found
first_after-returns-then-first-clause-found t c =
    let old = c.args.board.now in
    let same = c.loop-letter.invariant.same in
    let next = c.in-Some.ensures in
    tried-found old c.loop-letter.board c.put.new.self c.first.new.board c.args.place
    c.loop-letter.tried c.in-Some.letter _ c.requires.place
    next.greater (omega (arith, next.within, ap (λ (s : Setting). s.letters) same.setting))
    (λ b m n. ap₂ (λ (s : Setting) v. fits_in s v b) (sym same.setting) (sym same.front)
    ∙ next.between b m n)
    same c.put.ensures.same c.put.ensures.front c.if-first.ensures.same c.if-first.ensures.found
    c.loop-letter.invariant.rest

pub first_after-returns-then-first-clause-same : goal.first_after-returns-then-first-clause-same
first_after-returns-then-first-clause-same t c =
    let now = IsSameUpTo-less c.args.place (c.args.place + 1) c.put.new.self c.first.new.board
    (omega arith) c.if-first.ensures.same in
    IsSameUpTo-then c.args.place c.args.board.now c.put.new.self c.first.new.board
    (IsSameUpTo-then c.args.place c.args.board.now c.loop-letter.board c.put.new.self
    c.loop-letter.invariant.same c.put.ensures.same) now

pub first_after-loop-letter-preserved : goal.first_after-loop-letter-preserved
first_after-loop-letter-preserved t c =
    let old = c.args.board.now in
    let place = c.args.place in
    let same = c.loop-letter.invariant.same in
    let next = c.in-Some.ensures in
    let back = c.if-first.ensures in
    let put = IsSameUpTo-then place old c.loop-letter.board c.put.new.self same c.put.ensures.same
    in
    let tried = IsSameUpTo-then place old c.put.new.self c.first.new.board put
    (IsSameUpTo-less place (place + 1) c.put.new.self c.first.new.board (omega arith) back.same)
    in
    record {
      same =
          IsSameUpTo-then place old c.first.new.board c.take_off.new.self tried
          (IsSameUpTo-less place (place + 1) c.first.new.board c.take_off.new.self (omega arith)
          c.take_off.ensures.same);
      ready = c.take_off.ensures.ready;
      rest =
          tried-none old c.loop-letter.board c.put.new.self place c.loop-letter.tried
          c.in-Some.letter _ c.requires.place
          next.greater (omega (arith, next.within, ap (λ (s : Setting). s.letters) same.setting))
          (λ b m n. ap₂ (λ (s : Setting) v. fits_in s v b) (sym same.setting) (sym same.front)
          ∙ next.between b m n)
          same c.put.ensures.same c.put.ensures.front back.none c.loop-letter.invariant.rest;
    }

pub first_after-returns-clause-none : goal.first_after-returns-clause-none
first_after-returns-clause-none t c =
    let same = c.loop-letter.invariant.same in
    tried-all c.args.board.now c.args.place c.loop-letter.tried _
    (λ b m n.
    ap₂ (λ (s : Setting) v. fits_in s v b) (sym same.setting) (sym same.front)
    ∙ c.in_default.ensures b m (omega (arith, n, ap (λ (s : Setting). s.letters) same.setting)))
    c.loop-letter.invariant.rest
