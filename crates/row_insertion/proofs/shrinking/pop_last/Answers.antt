use Rattle.std.proofs.Common.{◌≡◌, ◌-◌, length, take, vec_len, ◌∙◌, ap, arith}
use Rattle.row_insertion.proofs.ShrinkingRows.{take_front, popped}
use Rattle.row_insertion.proofs.shrinking.pop_last.Goals as goal

pub returns-clause-row : goal.returns-clause-row
returns-clause-row c =
    let e : vec_len c.args.row.now - 1 ≡ length c.args.row.now.items - 1 = omega arith in
    c.pop.ensures.rest ∙ ap (λ n. take n c.args.row.now.items) e ∙ take_front c.args.row.now.items

pub returns-clause-number : goal.returns-clause-number
returns-clause-number c =
    let e : vec_len c.args.row.now ≡ length c.args.row.now.items = omega arith in
    c.unwrap_or.ensures ∙ popped c.args.row.now.items (vec_len c.args.row.now) c.pop.result e
    c.pop.ensures.value c.pop.ensures.variant.0
