use Rattle.std.proofs.Common.{◌≡◌, ◌++◌, length, flat_map}
use Rattle.schur_laws.specs.Kostka.{below}
use Rattle.basis_expand.proofs.StripLists.{with_cells, under}
use Rattle.basis_expand.proofs.strips_taken.+add_strips.Given as goal

abbrev pub decreases-add_strips : goal.decreases-add_strips
decreases-add_strips l = length l.rows.now

-- the shapes that remain if a strip of k cells with fewer than `cells` cells in the first row is removed have been listed; `above` is unchanged
abbrev pub invariant-loop-cells : goal.invariant-loop-cells
invariant-loop-cells l = record {
  same : l.above.items ≡ l.fn.above.items;
  listed : l.shapes.items ≡ l.fn.shapes.items ++ under l.fn.above.items (flat_map (with_cells l.k l.row l.below) (below l.cells));
}
