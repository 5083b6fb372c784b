use Rattle.std.proofs.Common.{◌≡◌, ◌-◌, ◌≤◌, length}
use Rattle.sym_model.specs.Polynomial.{resize}
use Rattle.lr_product.proofs.columns.padded.Given as goal

abbrev pub invariant-loop-state : goal.invariant-loop-state
invariant-loop-state l = (resize l.len l.state.items ≡ resize l.len l.numbers) × (length l.state.items ≤ l.len)

abbrev pub decreases-loop-state : goal.decreases-loop-state
decreases-loop-state l = l.len - length l.state.items
