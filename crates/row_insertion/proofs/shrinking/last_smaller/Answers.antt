use Rattle.std.proofs.Common.{◌≡◌, ◌≤◌, ◌+◌, ◌-◌, length, get_or, subst, inl, inr, arith}
use Rattle.row_insertion.proofs.ShrinkingRows.{back_at}
use Rattle.row_insertion.proofs.shrinking.last_smaller.Goals as goal

pub returns-then-row-place-clause-row : goal.returns-then-row-place-clause-row
returns-then-row-place-clause-row c =
    let e : c.loop-place.place ≡ c.loop-place.place - 1 + 1 = omega arith in
    let next = subst (λ n. c.args.letter ≤ get_or c.args.row.now n 0) e c.if-row-place.true in
    (back_at c.args.letter (c.loop-place.place - 1) c.args.row.now (omega arith)
    (λ k m n. c.loop-place.invariant k m (omega arith)) (inr next)).0

pub returns-then-row-place-clause-other : goal.returns-then-row-place-clause-other
returns-then-row-place-clause-other c =
    let e : c.loop-place.place ≡ c.loop-place.place - 1 + 1 = omega arith in
    let next = subst (λ n. c.args.letter ≤ get_or c.args.row.now n 0) e c.if-row-place.true in
    (back_at c.args.letter (c.loop-place.place - 1) c.args.row.now (omega arith)
    (λ k m n. c.loop-place.invariant k m (omega arith)) (inr next)).1

pub returns-clause-row : goal.returns-clause-row
returns-clause-row c =
    let last : length c.args.row.now - 1 + 1 ≡ length c.args.row.now = omega (arith, c.requires) in
    (back_at c.args.letter (length c.args.row.now - 1) c.args.row.now (omega (arith, c.requires))
    (λ k m n. c.loop-place.invariant k m (omega (arith, c.requires))) (inl last)).0

pub returns-clause-other : goal.returns-clause-other
returns-clause-other c =
    let last : length c.args.row.now - 1 + 1 ≡ length c.args.row.now = omega (arith, c.requires) in
    (back_at c.args.letter (length c.args.row.now - 1) c.args.row.now (omega (arith, c.requires))
    (λ k m n. c.loop-place.invariant k m (omega (arith, c.requires))) (inl last)).1
