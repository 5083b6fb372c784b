use Rattle.std.proofs.Common.{◌≡◌, ◌+◌, ◌-◌, subst, sym, arith}
use Rattle.sym_model.specs.Partition.{rows}
use Rattle.skew_shapes.specs.HookLists.{AreHooksRemoved}
use Rattle.skew_shapes.specs.RemovedHooks.{hooks_beginning_within}
use Rattle.skew_shapes.proofs.RemovedShapes.{hooks_removed}
use Rattle.skew_shapes.proofs.hooks_removed.HooksRemoved.new.Goals as goal

pub returns-clause-hooks : goal.returns-clause-hooks
returns-clause-hooks c =
    let e : rows c.args.outer.now ≡ c.rows-rows.result + 1 - 1 =
    (let v = c.rows-rows.ensures.value in omega arith) in
    subst (λ p. AreHooksRemoved c.args.outer.now c.args.k (hooks_beginning_within c.args.k p
    (c.rows-rows.result + 1 - 1))) (sym c.in_ok-copy.ensures.ok)
    (subst (λ n. AreHooksRemoved c.args.outer.now c.args.k (hooks_beginning_within
    c.args.k c.args.outer.now n)) e
    (hooks_removed c.args.k c.args.outer.now c.rows-rows.ensures.limits.partition))
