use Rattle.std.proofs.Common.{◌≡◌, ℕ, ◌<◌, ◌≤◌, ◌⊎◌, true, List, take}
use Rattle.std.specs.List.{All}
use Rattle.prefix_walk.specs.Steps.{sum_at}
use Rattle.lr_product.specs.RowExtension.{next_row}
use Rattle.lattice_rows.specs.LatticeRows.{CountsEndings, CountsReached, IsRowStep}
use Rattle.lattice_rows.proofs.lattice_row.add_rows.Given as goal

abbrev pub invariant-loop-entry : goal.invariant-loop-entry
invariant-loop-entry l = record {
  content : l.reached.content ≡ l.row.start.content;
  steps : All (λ step. IsRowStep l.row.letters l.row.is_last l.row.content step.0 step.1.content) l.steps.items;
  inside :
      (a : ℕ) (f : List ℕ → List ℕ → ℕ)
      → CountsEndings l.row.letters l.row.is_last (take l.row.letters l.row.content) f
      → CountsReached l.row.letters l.row.below (take l.row.letters l.row.content) f
      → l.low ≤ a
      → a < l.entry
      → sum_at a (λ s. f (take l.row.letters s.content) (take l.row.letters s.ends)) l.steps.items
      ≡ next_row l.row.letters true l.row.outside a f (take l.row.letters l.row.start.content) (take l.row.letters l.row.start.ends);
  outside :
      (a : ℕ) (f : List ℕ → List ℕ → ℕ)
      → CountsEndings l.row.letters l.row.is_last (take l.row.letters l.row.content) f
      → CountsReached l.row.letters l.row.below (take l.row.letters l.row.content) f
      → (a < l.low) ⊎ (l.entry ≤ a)
      → sum_at a (λ s. f (take l.row.letters s.content) (take l.row.letters s.ends)) l.steps.items ≡ 0;
}
