use Rattle.std.proofs.Common.{◌≡◌, ◌++◌, length}
use Rattle.lattice_rows.specs.ProductRule.{labelled, AreLimited, AreSmall, HasLarge}
use Rattle.lattice_rows.proofs.product_terms.pairs_of.Given as goal

abbrev pub invariant-loop-pairs : goal.invariant-loop-pairs
invariant-loop-pairs l = record {
  listed : l.pairs.items ++ labelled l.walk.rest ≡ labelled l.fn.walk.rest;
  limited : AreLimited l.walk.rest;
  small : AreSmall l.walk.rest → AreSmall l.fn.walk.rest;
  large : HasLarge l.walk.rest → HasLarge l.fn.walk.rest;
}

abbrev pub decreases-loop-pairs : goal.decreases-loop-pairs
decreases-loop-pairs l = length l.walk.rest
