use Rattle.std.proofs.Common.{◌+◌, ◌++◌, List, ℕ, sym, ap, ◌∙◌, arith, rules}
use Rattle.skew_shapes.specs.AddedHooks.{hooks_ending_after}
use Rattle.skew_shapes.proofs.AddedShapes.{begins_next, ending_next, ending_none, ending_one}
use Rattle.skew_shapes.proofs.hooks_added.find_next.Goals as goal

pub first_passed-hook-requires-clause-begins : goal.first_passed-hook-requires-clause-begins
first_passed-hook-requires-clause-begins c = search (rules, begins_next)

pub returns-then-can_be_added-clause-found : goal.returns-then-can_be_added-clause-found
returns-then-can_be_added-clause-found c = search (rules, ending_next, ending_one)

pub loop-hook-preserved : goal.loop-hook-preserved
loop-hook-preserved c = (
  c.first_passed-hook.ensures.begins,
  omega arith,
  c.loop-hook.invariant.2 ∙ ending_next c.args.k c.args.inner.now c.loop-hook.hook.last
      (omega arith)
      ∙ ap (λ (l : List (List ℕ)). l ++ hooks_ending_after c.args.k c.args.inner.now
      (c.loop-hook.hook.last + 1))
      (ending_none c.args.k c.args.inner.now c.first_passed-hook.result (c.loop-hook.hook.last + 1)
      c.requires.falls c.first_passed-hook.ensures.begins c.first_passed-hook.ensures.within
      c.first_passed-hook.ensures.longer
      (sym c.can_be_added.ensures ∙ c.if-can_be_added.false)),
)
