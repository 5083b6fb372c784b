use Rattle.std.proofs.Common.{◌-◌, ◌++◌, List, ℕ, sym, ap, ◌∙◌, arith, rules}
use Rattle.skew_shapes.specs.RemovedHooks.{hooks_beginning_within}
use Rattle.skew_shapes.proofs.RemovedShapes.{ends_next, beginning_next, beginning_none}
use Rattle.skew_shapes.proofs.RemovedShapes.{beginning_one}
use Rattle.skew_shapes.proofs.hooks_removed.find_next.Goals as goal

pub last_passed-hook-requires-clause-ends : goal.last_passed-hook-requires-clause-ends
last_passed-hook-requires-clause-ends c = search (rules, ends_next)

pub returns-then-can_be_removed-clause-found : goal.returns-then-can_be_removed-clause-found
returns-then-can_be_removed-clause-found c = search (rules, beginning_next, beginning_one)

pub loop-hook-preserved : goal.loop-hook-preserved
loop-hook-preserved c = (
  c.last_passed-hook.ensures.ends,
  c.loop-hook.invariant.1 ∙ beginning_next c.args.k c.args.outer.now c.loop-hook.hook.first
      (omega arith)
      ∙ ap (λ (l : List (List ℕ)). l ++ hooks_beginning_within c.args.k c.args.outer.now
      (c.loop-hook.hook.first - 1 - 1))
      (beginning_none c.args.k c.args.outer.now (c.loop-hook.hook.first - 1)
      c.last_passed-hook.result c.requires.falls c.last_passed-hook.ensures.ends
      c.last_passed-hook.ensures.within c.last_passed-hook.ensures.longer
      (sym c.can_be_removed.ensures ∙ c.if-can_be_removed.false)),
)
