use Rattle.std.proofs.Common.{◌+◌, ◌-◌, get_or, sym, arith, subst, set, drop, rules}
use Rattle.rim_hooks.specs.Turns.{AreTurned}
use Rattle.rim_hooks.proofs.AlcoveFacts.{turned_start, turned_step, turned_equal, turned_end}
use Rattle.rim_hooks.proofs.AlcoveFacts.{turned_bound}
use Rattle.rim_hooks.proofs.reflections.turns_of.Goals as goal

pub loop-at-init : goal.loop-at-init
loop-at-init c = search (rules, turned_start)

pub returns-then-counts-place-gt0 : goal.returns-then-counts-place-gt0
returns-then-counts-place-gt0 c =
    let h = c.requires.cells.0 in
    turned_equal c.args.n c.args.entries.now c.loop-at.counts c.loop-at.at c.from-place.result
    c.loop-at.turns (omega arith) c.loop-at-test.true c.loop-at.auto.at c.from-place.ensures
    c.if-counts-place-gt0.true c.loop-at.invariant

pub overflow_add-turns : goal.overflow_add-turns
overflow_add-turns c = search (rules, turned_bound)

pub loop-at-preserved : goal.loop-at-preserved
loop-at-preserved c =
    let h = c.requires.cells.0 in
    let f = c.type_inv.entries (c.loop-at.at - 1) in
    let z = c.if-counts-place-gt0.false in
    subst (λ t. AreTurned c.args.n (set c.loop-at.counts c.from-place.result
    (get_or c.loop-at.counts c.from-place.result 0 + 1))
    (drop (c.loop-at.at - 1) c.args.entries.now) (c.loop-at.turns + t))
    (sym c.from-turns.ensures)
    (turned_step c.args.n c.args.entries.now c.loop-at.counts c.loop-at.at c.from-place.result
    c.loop-at.turns (omega arith) c.requires.cells.1 c.loop-at-test.true c.loop-at.auto.at
    (omega (arith, f)) c.from-place.ensures (omega (arith, z)) c.loop-at.invariant)

pub returns : goal.returns
returns c = turned_end c.args.n c.args.entries.now c.loop-at.counts c.loop-at.at c.loop-at.turns
    (let h = c.loop-at-test.false in omega arith) c.loop-at.invariant
