use Rattle.std.proofs.Common.{◌≡◌, ℕ, ◌+◌, ◌-◌, ◌*◌, ◌<◌, ◌≤◌, ◌==◌, ◌||◌, true, List, ◌∷◌, ◌++◌, length, take, drop}
use Rattle.sym_model.specs.Partition.{size}
use Rattle.lr_product.specs.WeighedSum.{weighed, unreached, VanishesOutside}
use Rattle.lr_product.specs.Capped.{Agree}
use Rattle.lr_product.specs.Extension.{numbers_from, least_letter, can_rise, extended, raised, mark}
use Rattle.sym_model.specs.Sum.{sum_by}
use Rattle.lr_product.proofs.extension.+columns.Given as goal

abbrev pub decreases-extend : goal.decreases-extend
decreases-extend l = 2 * length l.line.now

abbrev pub decreases-place_letters : goal.decreases-place_letters
decreases-place_letters l = 2 * length l.rest.now + 1

abbrev pub invariant-place_letters-loop-letter : goal.invariant-place_letters-loop-letter
invariant-place_letters-loop-letter l = record {
  same : l.state.items ≡ l.initial.state.items;
  width : l.table.width ≡ l.initial.table.width;
  within : l.letter ≤ l.end;
  room : l.letter < l.end → ((l.letter == 0) || can_rise l.bound (l.letter - 1) l.initial.state.items) ≡ true;
  low : l.letter < l.end → least_letter l.cell l.above ≤ l.letter;
  adds :
      (f : List ℕ → List ℕ → ℕ)
      → VanishesOutside l.bound f
      → Agree (weighed l.column.letters f l.table.entries
      + l.column.ways * sum_by (λ b. extended l.column.is_kept l.column.letters l.rest (drop 1 l.right) b f (raised b l.initial.state.items ++ mark l.column.is_kept b)) (numbers_from l.letter (l.end - l.letter)))
      (weighed l.column.letters f l.initial.table.entries
      + l.column.ways * extended l.column.is_kept l.column.letters (l.cell ∷ l.rest) l.right l.above f l.initial.state.items);
  reached :
      (m : ℕ)
      → size (take l.column.letters l.initial.state.items) + (length l.rest + 1) ≤ m
      → weighed l.column.letters (unreached l.column.letters m) l.initial.table.entries ≡ 0
      → weighed l.column.letters (unreached l.column.letters m) l.table.entries ≡ 0;
}

abbrev pub decreases-place_letters-loop-letter : goal.decreases-place_letters-loop-letter
decreases-place_letters-loop-letter l = l.end - l.letter
