use Rattle.std.proofs.Common.{◌+◌, ◌*◌, ◌-◌, ◌/◌, ◌%◌, length, get_or, sym, ◌∙◌, ap, subst, arith, rules}
use Rattle.rim_hooks.proofs.AlcoveFacts.{Window, window_init, window_once, window_step, window_low}
use Rattle.rim_hooks.proofs.AlcoveFacts.{size_fits}
use Rattle.rim_hooks.proofs.reflections.window_start.Goals as goal

pub loop-left-init : goal.loop-left-init
loop-left-init c =
    let h = c.requires.cells.0 in
    subst (λ m. Window c.args.n c.args.entries.now
    (m * (c.in_ok-counts.field-0.turns / length c.args.entries.now))
    (c.in_ok-counts.field-0.turns % length c.args.entries.now)) (sym c.from-modulus.ensures)
    (window_init c.args.n c.args.entries.now c.in_ok-counts.field-0.counts
    c.in_ok-counts.field-0.turns (omega arith) c.requires.few.0 c.in_ok-counts.ensures)

pub overflow_sub-left : goal.overflow_sub-left
overflow_sub-left c = search (rules, window_once)

pub overflow_add-start : goal.overflow_add-start
overflow_add-start c =
    let h = c.requires.cells.0 in
    let l = window_low c.args.n c.args.entries.now c.loop-left.start c.loop-left.left (omega arith)
    c.requires.few.0 c.loop-left.invariant in
    let s = size_fits c.args.entries.now c.type_inv.entries in
    let f = c.requires.few.1 in
    omega (arith, l, s, f)

pub loop-left-smaller : goal.loop-left-smaller
loop-left-smaller c =
    let h = c.requires.cells.0 in
    let l = window_low c.args.n c.args.entries.now c.loop-left.start c.loop-left.left (omega arith)
    c.requires.few.0 c.loop-left.invariant in
    omega (arith, l)

pub loop-left-preserved : goal.loop-left-preserved
loop-left-preserved c =
    let h = c.requires.cells.0 in
    let e = c.from-left.ensures ∙ ap (λ m. get_or c.in_ok-counts.field-0.counts
    (c.loop-left.start % m) 0) c.from-modulus.ensures in
    subst (λ m. Window c.args.n c.args.entries.now (c.loop-left.start + 1) (c.loop-left.left - m))
    (sym e)
    (window_step c.args.n c.args.entries.now c.in_ok-counts.field-0.counts
    c.in_ok-counts.field-0.turns c.loop-left.start c.loop-left.left (omega arith)
    c.loop-left-test.true c.in_ok-counts.ensures c.loop-left.invariant)
