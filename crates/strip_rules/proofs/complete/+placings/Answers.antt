use Rattle.std.proofs.Common.{arith, rules}
use Rattle.strip_rules.proofs.PlacingSteps.{have_rows, no_rows}
use Rattle.strip_rules.proofs.complete.+placings.Goals as goal

pub returns-in_default : goal.returns-in_default
returns-in_default t c = search (rules, no_rows)

pub slice_bounds-placings-count : goal.slice_bounds-placings-count
slice_bounds-placings-count t c = (have_rows c.args.inner.now c.args.shape.now c.requires.inner
    c.requires.shape c.requires.contained c.in-len1-up.len_at_least).first

pub slice_bounds-placings-start : goal.slice_bounds-placings-start
slice_bounds-placings-start t c = (have_rows c.args.inner.now c.args.shape.now c.requires.inner
    c.requires.shape c.requires.contained c.in-len1-up.len_at_least).first

pub placings-requires : goal.placings-requires
placings-requires t c =
    let r = have_rows c.args.inner.now c.args.shape.now c.requires.inner c.requires.shape
    c.requires.contained c.in-len1-up.len_at_least in
    let some = c.in-len1-up.len_at_least in
    (omega arith, (r.inner_below, (r.shape_below, r.below)))

pub returns-in_err-later : goal.returns-in_err-later
returns-in_err-later t c = search (rules, have_rows)

pub returns : goal.returns
returns t c = search (rules, have_rows)
