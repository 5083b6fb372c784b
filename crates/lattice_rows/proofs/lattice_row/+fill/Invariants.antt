use Rattle.std.proofs.Common.{◌≡◌, ℕ, ◌+◌, ◌-◌, ◌==◌, true, cond, List, [], ◌∷◌, ◌++◌, take, drop, set}
use Rattle.std.specs.List.{All}
use Rattle.sym_model.specs.Sum.{sum_by}
use Rattle.prefix_walk.specs.Steps.{sum_at}
use Rattle.lr_product.specs.Extension.{numbers_from}
use Rattle.lr_product.specs.RowExtension.{added, filled}
use Rattle.lattice_rows.specs.LatticeRows.{CountsEndings, CountsReached, IsRowStep}
use Rattle.lattice_rows.proofs.lattice_row.+fill.Given as goal

abbrev pub decreases-fill : goal.decreases-fill
decreases-fill l = l.up_to

abbrev pub invariant-loop-left : goal.invariant-loop-left
invariant-loop-left l = record {
  content : (x : ℕ) → set l.reached.content l.at x ≡ set l.initial.reached.content l.at x;
  ends : take (l.row.letters - l.up_to) l.reached.ends ≡ take (l.row.letters - l.up_to) l.initial.reached.ends;
  steps :
      All (λ step. IsRowStep l.row.letters l.row.is_last l.row.content step.0 step.1.content) l.initial.steps.items
      → All (λ step. IsRowStep l.row.letters l.row.is_last l.row.content step.0 step.1.content) l.steps.items;
  adds :
      (a : ℕ) (f : List ℕ → List ℕ → ℕ)
      → CountsEndings l.row.letters l.row.is_last (take l.row.letters l.row.content) f
      → CountsReached l.row.letters l.row.below (take l.row.letters l.row.content) f
      → sum_at a (λ s. f (take l.row.letters s.content) (take l.row.letters s.ends)) l.steps.items
      + cond (l.entry == a) (sum_by (λ x. filled true l.row.letters l.row.outside l.at x (drop ((l.row.letters + 1) - l.at) (take l.row.letters l.row.start.ends)) f (added l.at (l.placed - x) (take l.row.letters l.initial.reached.content ++ take (l.row.letters - l.up_to) l.initial.reached.ends) ++ x ∷ [])) (numbers_from l.left (l.end - l.left))) 0
      ≡ sum_at a (λ s. f (take l.row.letters s.content) (take l.row.letters s.ends)) l.initial.steps.items
      + cond (l.entry == a) (sum_by (λ x. filled true l.row.letters l.row.outside l.at x (drop ((l.row.letters + 1) - l.at) (take l.row.letters l.row.start.ends)) f (added l.at (l.placed - x) (take l.row.letters l.initial.reached.content ++ take (l.row.letters - l.up_to) l.initial.reached.ends) ++ x ∷ [])) (numbers_from l.low (l.end - l.low))) 0;
}
