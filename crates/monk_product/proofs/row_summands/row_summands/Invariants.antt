-- The value of the row is the sum of the summands found so far, and of the value of `terms`, whose letters are still to be exchanged as often as there
-- are cells left.
use Rattle.std.proofs.Common.{◌≡◌, ℕ, ℤ, ◌+◌, ◌-◌, List, get_or, take, ◌+ℤ◌}
use Rattle.sym_model.specs.Polynomial.{Poly, In, pair}
use Rattle.sym_model.specs.Permutation.{with_fixed}
use Rattle.sym_model.specs.WholeTerms.{HaveLabels}
use Rattle.schubert_laws.specs.ShortPermutations.{IsShort}
use Rattle.double_schubert_laws.specs.DiagramRows.{AreWithin, one_row, times_rows}
use Rattle.linear_combinations.specs.Gains.{over}
use Rattle.monk_product.specs.RowProducts.{row_value, sum_over}
use Rattle.monk_product.proofs.row_summands.row_summands.Given as goal

abbrev pub invariant-loop-done : goal.invariant-loop-done
invariant-loop-done l = record {
  short : HaveLabels (IsShort l.n) l.terms;
  value : (rows : List ℕ) → AreWithin l.n rows → get_or rows l.i 0 ≡ l.cells
      → (k : ℕ) (s : Poly) (φ : List ℕ → ℤ) → In k s
      → pair (times_rows k s (take (l.i + 1) rows) (with_fixed l.n l.q)) φ
      ≡ sum_over (row_value l.n l.i rows k s φ) l.summands.items
      +ℤ over (λ v. pair (one_row (l.cells - l.done) l.cells (l.n - l.i) k
      (times_rows k s (take l.i rows)) (with_fixed l.n v)) φ) l.terms;
}
