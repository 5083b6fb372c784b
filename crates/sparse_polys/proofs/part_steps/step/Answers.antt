use Rattle.std.proofs.Common.{◌≡◌, ℕ, suc, ◌+◌, ◌<◌, ◌∷◌, List, length, get_or, drop, drop-cons}
use Rattle.std.proofs.Common.{add-one, ap, ◌∙◌, sym, subst, arith}
use Rattle.std.proofs.lemmas.List.{drop_all}
use Rattle.sparse_polys.specs.declared.states.State.{State}
use Rattle.sparse_polys.specs.Ways.{capped, ways, IsRest, AreStates}
use Rattle.sparse_polys.proofs.StateWays.{ways_of}
use Rattle.sparse_polys.proofs.StepWays.{next_state}
use Rattle.sparse_polys.proofs.part_steps.step.Goals as goal

pub loop-state-preserved : goal.loop-state-preserved
loop-state-preserved c =
    let xs : List State = c.args.states.now in
    let i : ℕ = c.loop-state.state-index in
    let s : State = c.state-item.result in
    let x : ℕ = c.args.part in
    let inside : i < length xs = c.loop-state-test.true in
    let here : s ≡ get_or xs i s = c.state-item.is in
    let rest_of : (size : ℕ) → AreStates size xs → IsRest size s.left.items s.right.items =
    λ size states. subst (λ (u : State). IsRest size u.left.items u.right.items) (sym here)
    (states i s inside) in
    record {
      ways =
          λ ν size below states.
          next_state (ways c.take_part.new.next.items ν) (ways c.loop-state.next.items ν)
          (ways_of s (x ∷ ν)) (ways (drop i xs) (x ∷ ν)) (ways (drop (i + 1) xs) (x ∷ ν))
          (capped (ways xs (x ∷ ν)))
          (c.in_ok-take_part.ensures.ways ν size below (rest_of size states))
          (ap (λ (l : List State). ways l (x ∷ ν)) (drop-cons xs i s inside ∙ ap (λ (u : State).
          u ∷ drop (suc i) xs) (sym here) ∙ ap (λ j. s ∷ drop j xs) (sym (add-one i))))
          (c.loop-state.invariant.ways ν size below states);
      states = λ size states. c.in_ok-take_part.ensures.states size (rest_of (x + size) states)
          (c.loop-state.invariant.states size states);
      once = c.in_ok-take_part.ensures.once c.loop-state.invariant.once;
    }

pub returns-clause-ways : goal.returns-clause-ways
returns-clause-ways c ν size below states =
    ap (λ n. capped n) (let e : ways c.loop-state.next.items ν ≡ ways c.loop-state.next.items ν + 0
    = omega arith in e)
    ∙ ap (λ (l : List State). capped (ways c.loop-state.next.items ν + ways l (c.args.part ∷ ν)))
    (sym (drop_all c.loop-state.state-index c.args.states.now c.loop-state-test.false))
    ∙ c.loop-state.invariant.ways ν size below states
