use Rattle.std.proofs.Common.{◌≡◌, ◌-◌, ap, ◌∙◌, take, drop, length, arith}
use Rattle.block_reader.proofs.Cuts.{inside-taken}
use Rattle.block_reader.proofs.cutting.inside.Goals as goal

pub returns-in-len2-up : goal.returns-in-len2-up
returns-in-len2-up c =
    let text = c.args.text.now in
    let e : length text - 1 - 1 ≡ length text - 2 = omega arith in
    ap (λ k. take k (drop 1 text)) e ∙ inside-taken text c.in-len2-up.len_at_least
