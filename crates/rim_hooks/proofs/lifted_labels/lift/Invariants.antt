use Rattle.std.proofs.Common.{◌≡◌, length}
use Rattle.sym_model.specs.BetaList.{beta}
use Rattle.rotation_laws.specs.Lifting.{lifted}
use Rattle.rim_hooks.proofs.lifted_labels.lift.Given as goal

-- the entries are the beta list, lifted as often as the loop was run
abbrev pub invariant-loop-turn : goal.invariant-loop-turn
invariant-loop-turn l = record {
  entries : l.entries.items ≡ lifted l.n l._turn (beta l.k l.label.1);
  few : length l.entries.items ≡ l.k;
}
