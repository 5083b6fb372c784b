use Rattle.std.proofs.Common.{◌≤◌, length, drop, sym, ap, ◌∙◌, subst}
use Rattle.batch_lines.proofs.Parts.{skipped}
use Rattle.batch_lines.proofs.pieces.Pieces.skip.Goals as goal

pub returns : goal.returns
returns c =
    let p = c.self.inside in
    let count = c.args.count in
    skipped p.bytes p.start p.end count c.self.invariant.order c.self.invariant.within
    (subst (λ xs. count ≤ length xs) (sym c.self.view_is) c.requires)
    ∙ ap (drop count) c.self.view_is
