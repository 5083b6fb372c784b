-- `before` is the place of the letter before `letter`, and no letters a and a + 1 less than `letter` stand in this order.
use Rattle.std.proofs.Common.{◌≡◌, ℕ, suc, ◌-◌, ◌<◌, ◌≤◌}
use Rattle.sym_model.specs.Permutation.{with_fixed}
use Rattle.schubert_laws.specs.Chains.{letters_before}
use Rattle.monk_product.proofs.row_summands.has_left_ascent.Given as goal

abbrev pub invariant-loop-letter : goal.invariant-loop-letter
invariant-loop-letter l = record {
  place : l.before ≡ letters_before (l.letter - 1) (with_fixed 32 l.w);
  none : (a : ℕ) → 1 ≤ a → suc a < l.letter
      → letters_before a (with_fixed 32 l.w) < letters_before (suc a) (with_fixed 32 l.w) → ⊥;
}
