use Rattle.std.proofs.Common.{◌<◌, length, Some, ◌∙◌, ap, sym, arith}
use Rattle.std.proofs.Math.ListN.{set}
use Rattle.sym_model.specs.Insertion.{row_with, bumped}
use Rattle.row_insertion.proofs.GrowingRows.{put_here, put_last, at_same}
use Rattle.row_insertion.proofs.growing.put_in.Goals as goal

pub returns-then-index-letter-clause-row : goal.returns-then-index-letter-clause-row
returns-then-index-letter-clause-row c =
    let i = c.loop-at.invariant in
    let within : c.loop-at.at < length c.loop-at.row.items = omega (arith, i.count) in
    let r = put_here c.args.letter c.loop-at.at c.index.result.now c.loop-at.row.items within
    i.passed c.index.ensures c.if-index-letter.true in
    ap (set c.loop-at.row.items c.loop-at.at) c.replace.ensures.after ∙ sym r.0
    ∙ ap (row_with c.args.letter) i.same

pub returns-then-index-letter-clause-other : goal.returns-then-index-letter-clause-other
returns-then-index-letter-clause-other c =
    let i = c.loop-at.invariant in
    let within : c.loop-at.at < length c.loop-at.row.items = omega (arith, i.count) in
    let r = put_here c.args.letter c.loop-at.at c.index.result.now c.loop-at.row.items within
    i.passed c.index.ensures c.if-index-letter.true in
    let same = at_same c.loop-at.row.items c.loop-at.at c.index_mut.result.now c.index.result.now
    within c.index_mut.ensures.value c.index.ensures in
    ap Some (c.replace.ensures.value ∙ same) ∙ sym r.1 ∙ ap (bumped c.args.letter) i.same

pub returns-clause-row : goal.returns-clause-row
returns-clause-row c =
    let i = c.loop-at.invariant in
    let r = put_last c.args.letter c.loop-at.row.items (λ k h. i.passed k (omega (arith, i.count)))
    in
    c.in_ok-push.ensures.items ∙ sym r.0 ∙ ap (row_with c.args.letter) i.same

pub returns-clause-other : goal.returns-clause-other
returns-clause-other c =
    let i = c.loop-at.invariant in
    let r = put_last c.args.letter c.loop-at.row.items (λ k h. i.passed k (omega (arith, i.count)))
    in
    sym r.1 ∙ ap (bumped c.args.letter) i.same
