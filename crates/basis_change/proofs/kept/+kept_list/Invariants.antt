use Rattle.std.proofs.Common.{◌≡◌, ℕ, List, [], ◌++◌, drop}
use Rattle.sym_model.specs.Sum.{Among}
use Rattle.sym_model.specs.Partition.{size}
use Rattle.sym_model.specs.RaisedPart.{distinct}
use Rattle.linear_combinations.specs.Gains.{WholeTermsOf, Gains}
use Rattle.beta_sets.specs.BetaSets.{IsShapeTable}
use Rattle.basis_change.specs.KeptLists.{AreKept, IsKeptRest}
use Rattle.basis_change.specs.RimHooks.{hooked_lists}
use Rattle.basis_change.proofs.KeptLists.{parts_of}
use Rattle.basis_change.proofs.kept.+kept_list.Given as goal

abbrev pub decreases-kept_list : goal.decreases-kept_list
decreases-kept_list l = size l.parts.now

-- for each of the different parts a visited so far, `sum` has the results of adding rim hooks of a cells below the partitions of the kept list of
-- `parts` without one a: the list to which the arrangements of these other parts straighten
abbrev pub invariant-loop-at : goal.invariant-loop-at
invariant-loop-at l = (done : List (ℕ × WholeTermsOf ℕ)) × record {
  listed : parts_of done ++ distinct (drop l.at l.parts) ≡ distinct l.parts;
  rests : (x : ℕ × WholeTermsOf ℕ) → Among x done → IsKeptRest l.parts x;
  gains : Gains [] (hooked_lists done) l.sum;
  table : IsShapeTable l.sum;
  kept : AreKept l.lists.entries;
}
