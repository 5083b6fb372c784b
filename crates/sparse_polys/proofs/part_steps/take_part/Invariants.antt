use Rattle.std.proofs.Common.{◌≡◌, ℕ, ◌+◌, ◌*◌, ◌∷◌, List, drop}
use Rattle.sym_model.specs.RaisedPart.{distinct}
use Rattle.monomial_laws.specs.MonomialProduct.{arrangements}
use Rattle.sparse_polys.specs.Ways.{capped, ways, IsRest, AreStates, LeaveOnce}
use Rattle.sparse_polys.proofs.StepWays.{taken_over}
use Rattle.sym_model.specs.Bounded.{AreBelow}
use Rattle.sparse_polys.proofs.part_steps.take_part.Given as goal

abbrev pub invariant-loop-i : goal.invariant-loop-i
invariant-loop-i l = record {
  ways :
      (ν : List ℕ) (size : ℕ) → AreBelow (l.part + 1) ν → IsRest size l.state.left.items l.state.right.items
      → capped (ways l.next.items ν + l.state.count * taken_over l.part l.state.left.items l.state.right.items ν (distinct (drop l.i l.parts)))
      ≡ capped (ways l.fn.next.items ν + l.state.count * arrangements l.state.left.items l.state.right.items (l.part ∷ ν));
  states : (size : ℕ) → IsRest (l.part + size) l.state.left.items l.state.right.items → AreStates size l.fn.next.items → AreStates size l.next.items;
  once : LeaveOnce l.fn.next.items → LeaveOnce l.next.items;
  parts : l.parts ≡ l.state.left.items;
}
