use Rattle.std.proofs.Common.{◌<◌, ◌≤◌, ◌∙◌, arith, rules, tests}
use Rattle.calc_app.proofs.WorkSums.{none_ran, one_ran, all_ran}
use Rattle.calc_app.proofs.workload.sums_of.Goals as goal

pub loop-index-init : goal.loop-index-init
loop-index-init c =
    none_ran c.args.lines c.args.seed c.new-sums.result c.requires c.new-sums.ensures.sums
    c.new-sums.ensures.small

pub work_line-requires : goal.work_line-requires
work_line-requires c = c.loop-index.invariant.within

pub add_line-requires-clause-small : goal.add_line-requires-clause-small
add_line-requires-clause-small c = c.loop-index.invariant.small

pub add_line-requires-clause-room : goal.add_line-requires-clause-room
add_line-requires-clause-room c =
    let few = c.loop-index.invariant.few in
    let below : c.loop-index._index < c.args.lines = c.loop-index-test.true in
    let lines : c.args.lines < 65536 = search (rules, tests) in
    omega (arith, few, below, lines)

pub loop-index-preserved : goal.loop-index-preserved
loop-index-preserved c =
    one_ran c.args.lines c.args.seed c.loop-index._index c.loop-index.state c.loop-index.sums
    c.as_bytes.result.now c.work_line.new.state
    c.add_line.new.sums c.loop-index.invariant c.loop-index-test.true
    (c.as_bytes.ensures ∙ c.work_line.ensures.line) c.work_line.ensures.moved
    c.work_line.ensures.within c.in_ok-add_line.ensures

pub returns : goal.returns
returns c =
    let above : c.args.lines ≤ c.loop-index._index = search (rules, tests) in
    all_ran c.args.lines c.args.seed c.loop-index._index c.loop-index.state c.loop-index.sums
    c.loop-index.invariant above
