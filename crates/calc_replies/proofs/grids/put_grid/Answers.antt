use Rattle.std.proofs.Common.{rules, tests, ◌≡◌, ◌≤◌, ◌<◌, ◌++◌, ◌+◌, length, Bool, true, false, ap}
use Rattle.std.proofs.Common.{◌∙◌, subst, arith}
use Rattle.calc_base.proofs.PutsLaws.{Puts-then, Puts-as, Puts-stopped}
use Rattle.calc_base.specs.Puts.{Puts}
use Rattle.sym_model.specs.TableauText.{shapes_line}
use Rattle.calc_replies.proofs.Delivered.{Puts-from_prints}
use Rattle.calc_replies.proofs.GridLines.{last_lines, one_line_more, with_last_lines, all_lines}
use Rattle.calc_replies.proofs.grids.put_grid.Goals as goal

pub returns-then-not-well : goal.returns-then-not-well
returns-then-not-well g c =
    let w = c.args.grid.now in
    let k = c.loop-at.at in
    let ill : c.is_ok-well.result ≡ false = search (rules, tests) in
    let within : k ≤ length w = omega (arith, c.loop-at-test.true, c.side-at-end.ensures.value) in
    let line = subst (λ (b : Bool). Puts true (g.K.Sink.seen c.loop-at.sink) b
    (g.K.Sink.seen c.print_shapes.new.sink) (shapes_line c.line.result.now))
    ill (Puts-from_prints c.print_shapes.result c.print_shapes.ensures c.is_ok-well.ensures.value)
    in
    Puts-as (ap (λ t. t ++ last_lines w (k + 1)) (one_line_more w k c.line.result.now within
    c.line.ensures.shapes) ∙ with_last_lines w (k + 1))
    (Puts-then (Puts-then c.loop-at.invariant line)
    (Puts-stopped (g.K.Sink.seen c.print_shapes.new.sink) (last_lines w (k + 1))))

pub loop-at-preserved : goal.loop-at-preserved
loop-at-preserved g c =
    let w = c.args.grid.now in
    let k = c.loop-at.at in
    let well : c.is_ok-well.result ≡ true = search (rules, tests) in
    let within : k ≤ length w = omega (arith, c.loop-at-test.true, c.side-at-end.ensures.value) in
    let line = subst (λ (b : Bool). Puts true (g.K.Sink.seen c.loop-at.sink) b
    (g.K.Sink.seen c.print_shapes.new.sink) (shapes_line c.line.result.now))
    well (Puts-from_prints c.print_shapes.result c.print_shapes.ensures c.is_ok-well.ensures.value)
    in
    Puts-as (one_line_more w k c.line.result.now within c.line.ensures.shapes)
    (Puts-then c.loop-at.invariant line)

pub returns : goal.returns
returns g c =
    let w = c.args.grid.now in
    let past : length w < c.loop-at.at = omega (
      arith,
      c.loop-at-test.false,
      c.side-at-end.ensures.value,
    ) in
    Puts-as (all_lines w c.loop-at.at past) c.loop-at.invariant
