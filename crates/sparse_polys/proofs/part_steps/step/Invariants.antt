use Rattle.std.proofs.Common.{◌≡◌, ℕ, ◌+◌, ◌∷◌, List, drop}
use Rattle.sparse_polys.specs.Ways.{capped, ways, AreStates, LeaveOnce}
use Rattle.sym_model.specs.Bounded.{AreBelow}
use Rattle.sparse_polys.proofs.part_steps.step.Given as goal

abbrev pub invariant-loop-state : goal.invariant-loop-state
invariant-loop-state l = record {
  ways :
      (ν : List ℕ) (size : ℕ) → AreBelow (l.part + 1) ν → AreStates size l.states
      → capped (ways l.next.items ν + ways (drop l.state-index l.states) (l.part ∷ ν)) ≡ capped (ways l.states (l.part ∷ ν));
  states : (size : ℕ) → AreStates (l.part + size) l.states → AreStates size l.next.items;
  once : LeaveOnce l.next.items;
}
