use Rattle.std.proofs.Common.{◌≡◌, ◌+◌, ◌-◌, ◌*◌, ◌<◌, ◌≤◌, ◌∷◌, Vec, get_or, drop, length, true}
use Rattle.std.proofs.Common.{false, ap, ◌∙◌, sym, subst, refl, arith}
use Rattle.std.proofs.lemmas.List.{drop_all}
use Rattle.sym_model.specs.Bases.{has}
use Rattle.sym_model.specs.RaisedPart.{distinct}
use Rattle.monomial_laws.specs.MonomialProduct.{arrangements}
use Rattle.sparse_polys.specs.Ways.{capped, ways, taken, is_choice_at, AreStates, LeaveOnce}
use Rattle.sparse_polys.proofs.StepWays.{first_way, next_way, arrangements-first, taken_over}
use Rattle.sparse_polys.proofs.StepWays.{taken_over-choice, taken_over-passed, rest_at, below_at}
use Rattle.sparse_polys.proofs.StepWays.{choice-within, has_at}
use Rattle.sparse_polys.proofs.part_steps.take_part.Goals as goal
use Rattle.sparse_polys.proofs.part_steps.take_part.Goals.{then-is_choice+in_ok-take_both-2}
use Rattle.sparse_polys.proofs.part_steps.take_part.Goals.{else-is_choice}

pub loop-i-init : goal.loop-i-init
loop-i-init c =
    let x = c.args.part in
    let l = c.args.state.now.left.items in
    let r = c.args.state.now.right.items in
    record {
      ways =
          λ ν size below rest.
          ap (λ ps. capped (ways c.take_both.new.next.items ν + c.args.state.now.count * taken_over
          x l r ν (distinct ps))) c.as_slice-parts.ensures.value
          ∙ first_way (ways c.take_both.new.next.items ν) (ways c.args.next.now.items ν)
          c.args.state.now.count
          (taken l r 0 x ν) (taken_over x l r ν (distinct l)) (arrangements l r (x ∷ ν))
          (c.in_ok-take_both.ensures.ways ν size (below_at (x + 1) (0 + x + 1) ν
          (let e : x + 1 ≡ 0 + x + 1 = omega arith in e) below) rest)
          (arrangements-first x ν l r rest.first rest.second);
      states =
          λ size rest states.
          c.in_ok-take_both.ensures.states size (rest_at (x + size) (0 + x + size) l r
          (let e : x + size ≡ 0 + x + size = omega arith in e) rest) refl states;
      once = c.in_ok-take_both.ensures.once;
      parts = c.as_slice-parts.ensures.value;
    }

pub loop-i-preserved : goal.loop-i-preserved
loop-i-preserved c =
    let x = c.args.part in
    let l = c.args.state.now.left.items in
    let r = c.args.state.now.right.items in
    let parts = c.as_slice-parts.result.now in
    let i = c.loop-i.i in
    let inside : i < length parts = c.loop-i-test.true in
    elim c.if-is_choice.branch [
      | then-is_choice+in_ok-take_both-2 w ↦
          let choice : is_choice_at parts i x ≡ true = sym c.is_choice.ensures ∙ w.if-is_choice.true
          in
          let low : get_or parts i 0 ≤ x = choice-within x parts i choice in
          let whole : get_or parts i 0 + (x - get_or parts i 0) ≡ x = omega arith in
          record {
            ways =
                λ ν size below rest.
                next_way (ways c.if-is_choice.next.items ν) (ways c.loop-i.next.items ν)
                c.args.state.now.count
                (taken l r (get_or parts i 0) (x - get_or parts i 0) ν)
                (taken_over x l r ν (distinct (drop i parts)))
                (taken_over x l r ν (distinct (drop (i + 1) parts)))
                (capped (ways c.args.next.now.items ν + c.args.state.now.count * arrangements l r
                (x ∷ ν)))
                (ap (λ (v : Vec _ _). capped (ways v.items ν)) w.next-is
                ∙ w.in_ok-take_both-2.ensures.ways ν size (below_at (x + 1)
                (get_or parts i 0 + (x - get_or parts i 0) + 1) ν (ap (λ k. k + 1) (sym whole))
                below) rest)
                (taken_over-choice x l r ν parts i inside choice)
                (c.loop-i.invariant.ways ν size below rest);
            states =
                λ size rest states.
                subst (λ (v : Vec _ _). AreStates size v.items) (sym w.next-is)
                (w.in_ok-take_both-2.ensures.states size
                (rest_at (x + size) (get_or parts i 0 + (x - get_or parts i 0) + size) l r
                (ap (λ k. k + size) (sym whole)) rest)
                (subst (λ ps. has (get_or parts i 0) (0 ∷ ps) ≡ true) c.as_slice-parts.ensures.value
                (has_at parts i inside))
                (c.loop-i.invariant.states size rest states));
            once = λ once. subst (λ (v : Vec _ _). LeaveOnce v.items) (sym w.next-is)
                (w.in_ok-take_both-2.ensures.once (c.loop-i.invariant.once once));
            parts = c.loop-i.invariant.parts;
          }
      | else-is_choice w ↦
          let passed : is_choice_at parts i x ≡ false = sym c.is_choice.ensures
          ∙ w.if-is_choice.false in
          record {
            ways =
                λ ν size below rest.
                ap (λ (v : Vec _ _). capped (ways v.items ν + c.args.state.now.count * taken_over x
                l r ν (distinct (drop (i + 1) parts)))) w.next-is
                ∙ ap (λ n. capped (ways c.loop-i.next.items ν + c.args.state.now.count * n))
                (sym (taken_over-passed x l r ν parts i inside passed))
                ∙ c.loop-i.invariant.ways ν size below rest;
            states = λ size rest states. subst (λ (v : Vec _ _). AreStates size v.items)
                (sym w.next-is) (c.loop-i.invariant.states size rest states);
            once = λ once. subst (λ (v : Vec _ _). LeaveOnce v.items) (sym w.next-is)
                (c.loop-i.invariant.once once);
            parts = c.loop-i.invariant.parts;
          }
    ]

pub returns-clause-ways : goal.returns-clause-ways
returns-clause-ways c ν size below rest =
    let x = c.args.part in
    let l = c.args.state.now.left.items in
    let r = c.args.state.now.right.items in
    ap (λ n. capped n) (let e : ways c.loop-i.next.items ν ≡ ways c.loop-i.next.items ν
    + c.args.state.now.count * 0 = omega arith in e)
    ∙ ap (λ ps. capped (ways c.loop-i.next.items ν + c.args.state.now.count * taken_over x l r ν
    (distinct ps))) (sym (drop_all c.loop-i.i c.as_slice-parts.result.now c.loop-i-test.false))
    ∙ c.loop-i.invariant.ways ν size below rest
