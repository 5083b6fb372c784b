use Rattle.std.proofs.Common.{◌-◌, get_or, arith, rules}
use Rattle.std.proofs.Math.Nat.{mul-le-mul_left}
use Rattle.rim_hooks.proofs.LowestEntries.{lowered_start, lowered_value, lowered_step, lowered_end}
use Rattle.rim_hooks.proofs.removals.lowest_entries.Goals as goal

pub loop-at-init : goal.loop-at-init
loop-at-init c = search (rules, lowered_start)

pub overflow_mul-below : goal.overflow_mul-below
overflow_mul-below c = search (rules, lowered_value)

pub overflow_add-remainder : goal.overflow_add-remainder
overflow_add-remainder c = search (rules, lowered_value)

pub overflow_add-counts : goal.overflow_add-counts
overflow_add-counts c =
    let v = lowered_value c.args.n c.args.entries.now c.loop-at.counts c.loop-at.sorted c.loop-at.at
    c.from-place.result (let h = c.requires.cells.0 in omega arith) c.loop-at-test.true
    c.loop-at.auto.at c.requires.strict c.from-place.ensures c.loop-at.invariant in
    let f = c.type_inv.entries (c.loop-at.at - 1) in
    let m = mul-le-mul_left (get_or c.loop-at.counts c.from-place.result 0) c.requires.cells.0 in
    omega (arith, v, f, m)

pub loop-at-preserved : goal.loop-at-preserved
loop-at-preserved c =
    lowered_step c.args.n c.args.entries.now c.loop-at.counts c.loop-at.sorted c.put.new.self
    c.loop-at.at c.from-place.result
    (let h = c.requires.cells.0 in omega arith) c.requires.cells.1 c.loop-at-test.true
    c.loop-at.auto.at c.from-place.ensures
    c.in_ok-put.ensures
    c.loop-at.invariant

pub returns : goal.returns
returns c = search (rules, lowered_end)
