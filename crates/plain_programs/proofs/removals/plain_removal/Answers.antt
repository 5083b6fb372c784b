use Rattle.std.proofs.Common.{◌∙◌, sym, arith}
use Rattle.plain_programs.proofs.Searching.{search_on, no_removal, none_found}
use Rattle.plain_programs.proofs.removals.plain_removal.Goals as goal

pub loop-first-preserved : goal.loop-first-preserved
loop-first-preserved c =
    let n = c.args.n in
    let shape = c.args.shape.now in
    let first = c.loop-first.first in
    search_on n shape first c.loop-first.invariant (none_found n shape first c.in_ok-found.found
    (sym c.is_some.ensures ∙ c.if-is_some.false) c.in_ok-found.ensures)

pub returns : goal.returns
returns c = no_removal c.args.n c.args.shape.now c.requires c.loop-first.first (omega arith)
    c.loop-first.invariant
