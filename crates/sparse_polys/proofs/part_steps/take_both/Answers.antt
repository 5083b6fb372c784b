use Rattle.std.proofs.Common.{◌≡◌, ◌+◌, ◌∷◌, true, ap, ◌∙◌, sym, subst}
use Rattle.std.proofs.lemmas.Result.{on_ok_weaker}
use Rattle.sym_model.specs.Bases.{has}
use Rattle.sym_model.specs.RaisedPart.{without_one}
use Rattle.sparse_polys.specs.Ways.{ways, taken, IsRest, HasPartAbove}
use Rattle.sparse_polys.proofs.StepWays.{taken-above_left, taken-above_right, IsRest-taken}
use Rattle.sparse_polys.proofs.StepWays.{nothing_more}
use Rattle.sparse_polys.proofs.part_steps.take_both.Goals as goal

pub returns-then-not-is_within-clause-ways : goal.returns-then-not-is_within-clause-ways
returns-then-not-is_within-clause-ways c ν left below rest =
    let above = subst (λ l. HasPartAbove (c.args.a + c.args.b) l)
    (c.as_slice-3.ensures.value ∙ c.in_ok-left.ensures ∙ ap (without_one c.args.a)
    c.as_slice-2.ensures.value)
    (c.is_within.ensures c.if-not-is_within.true) in
    nothing_more (ways c.args.next.now.items ν) c.args.state.now.count
    (taken c.args.state.now.left.items c.args.state.now.right.items c.args.a c.args.b ν)
    (taken-above_left c.args.a c.args.b left c.args.state.now.left.items
    c.args.state.now.right.items ν rest below above)

pub returns-then-not-is_within-2-clause-ways : goal.returns-then-not-is_within-2-clause-ways
returns-then-not-is_within-2-clause-ways c ν left below rest =
    let above = subst (λ l. HasPartAbove (c.args.a + c.args.b) l)
    (c.as_slice-5.ensures.value ∙ c.in_ok-right.ensures ∙ ap (without_one c.args.b)
    c.as_slice-4.ensures.value)
    (c.is_within-2.ensures c.if-not-is_within-2.true) in
    nothing_more (ways c.args.next.now.items ν) c.args.state.now.count
    (taken c.args.state.now.left.items c.args.state.now.right.items c.args.a c.args.b ν)
    (taken-above_right c.args.a c.args.b left c.args.state.now.left.items
    c.args.state.now.right.items ν rest below above)

pub returns-clause-states : goal.returns-clause-states
returns-clause-states c =
    let given : has c.args.b (0 ∷ c.args.state.now.right.items) ≡ true =
    ap (λ l. has c.args.b (0 ∷ l)) (sym c.as_slice.ensures.value) ∙ sym c.can_give.ensures
    ∙ c.if-not-can_give.false in
    on_ok_weaker c.add_state.result
    (λ h size rest part states.
    h size states
    (subst (λ l. IsRest size l c.in_ok-right.right.items)
    (sym (c.in_ok-left.ensures ∙ ap (without_one c.args.a) c.as_slice-2.ensures.value))
    (subst (λ l. IsRest size (without_one c.args.a c.args.state.now.left.items) l)
    (sym (c.in_ok-right.ensures ∙ ap (without_one c.args.b) c.as_slice-4.ensures.value))
    (IsRest-taken c.args.a c.args.b size c.args.state.now.left.items c.args.state.now.right.items
    rest part given))))
    c.add_state.ensures.states
