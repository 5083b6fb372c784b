use Rattle.std.proofs.Common.{◌≡◌, ◌+◌, ◌≤◌, drop}
use Rattle.sym_model.specs.Schur.{times_in}
use Rattle.basis_change.proofs.parts.times_in.Given as goal

abbrev pub invariant-loop-p : goal.invariant-loop-p
invariant-loop-p l = (l.times + times_in l.part (drop l.p-index l.parts) ≡ times_in l.part l.parts) × (l.times ≤ l.p-index)
