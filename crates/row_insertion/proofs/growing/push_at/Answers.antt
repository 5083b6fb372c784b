use Rattle.std.proofs.Common.{◌≡◌, ◌<◌, ◌∷◌, ◌++◌, [], length, ◌∙◌, ap, arith}
use Rattle.row_insertion.proofs.GrowingRows.{pushed_here, pushed_new}
use Rattle.row_insertion.proofs.growing.push_at.Goals as goal

pub returns-then-at-len : goal.returns-then-at-len
returns-then-at-len c =
    let within : c.args.at < length c.args.rows.now.items = omega arith in
    pushed_here c.args.rows.now.items c.args.at c.args.number c.index_mut.result.now c.push.new.self
    within c.index_mut.ensures.value
    c.in_ok-push.ensures.items

pub returns : goal.returns
returns c =
    let past : c.args.at ≡ length c.args.rows.now.items = omega (arith, c.requires) in
    pushed_new c.args.rows.now.items c.push-3.new.self.items c.args.at c.args.number
    c.push-2.new.self past
    (c.in_ok-push-2.ensures.items ∙ ap (λ l. l ++ c.args.number ∷ []) c.new-row.ensures.items)
    c.in_ok-push-3.ensures.items
