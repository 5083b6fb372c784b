use Rattle.std.proofs.Common.{◌≤◌, ◌+◌, arith, ap, unwrap_or}
use Rattle.sym_model.specs.Permutation.{last_descent_place}
use Rattle.linear_combinations.proofs.Masses.{on_both}
use Rattle.linear_combinations.specs.Entries.{IsWholeTable}
use Rattle.stanley_expand.specs.Walk.{IsHeld}
use Rattle.stanley_expand.proofs.ShapeLimits.{shape_limits}
use Rattle.stanley_expand.proofs.Steps.{shape_step, large_shape}
use Rattle.stanley_expand.proofs.walk.work_off.Goals.{in-Some+else-r-rows, in-None}
use Rattle.stanley_expand.proofs.walk.work_off.Goals as goal
use Rattle.std.proofs.lemmas.Result.{on_ok_weaker}

pub returns-then-r-rows-clause-step : goal.returns-then-r-rows-clause-step
returns-then-r-rows-clause-step c = on_ok_weaker c.expand.result (λ step. step c.args.sum.now) c.expand.ensures.step

pub returns-then-r-rows-clause-large : goal.returns-then-r-rows-clause-large
returns-then-r-rows-clause-large c err = c.expand.ensures.large err c.args.sum.now

pub add_shape-requires-clause-limits : goal.add_shape-requires-clause-limits
add_shape-requires-clause-limits c = shape_limits c.args.rows c.args.perm.now c.requires.few
    c.requires.waiting.rising

small : (c : goal.After-add_shape) → last_descent_place c.args.perm.now ≤ c.args.rows
small c = elim c.match-transition_places.branch [
  | in-Some+else-r-rows w ↦ let h = w.if-r-rows.false in let d = ap (λ t. unwrap_or t 0)
      w.in-Some.ensures.places.descent in omega arith
  | in-None w ↦ let d = ap (λ t. unwrap_or t 0) w.in-None.ensures.none in omega arith
]

pub returns-clause-step : goal.returns-clause-step
returns-clause-step c =
    on_both {Q = IsWholeTable c.add_shape.new.sum × IsHeld c.add_shape.new.sum} c.add_shape.result
    c.add_shape.ensures.gains
    (on_both c.add_shape.result c.add_shape.ensures.table c.add_shape.ensures.held (λ table held.
    (table, held)))
    (λ gains is. shape_step c.args.rows (c.args.rows + 16) c.args.perm.now c.requires.waiting.rising
    (small c) c.args.count c.args.sum.now c.add_shape.new.sum c.args.todo.now.items
    c.requires.counts gains is.0 is.1)

pub returns-clause-large : goal.returns-clause-large
returns-clause-large c err =
    large_shape c.args.rows (c.args.rows + 16) c.args.perm.now c.requires.waiting.rising
    (small c) c.args.count c.args.sum.now c.args.todo.now.items c.requires.counts
    (c.add_shape.ensures.large err)
