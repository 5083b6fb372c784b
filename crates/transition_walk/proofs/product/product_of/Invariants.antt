use Rattle.std.specs.Prelude.{pos, FitsSigned}
use Rattle.std.specs.Int.{w128}
use Rattle.fraction_laws.specs.Fractions.{whole}
use Rattle.linear_combinations.specs.Entries.{IsTable}
use Rattle.transition_walk.specs.Todo.{load}
use Rattle.transition_walk.proofs.UnderWay.{IsUnderWay}
use Rattle.transition_walk.proofs.product.product_of.Given as goal

-- `sum` is a linear combination with coefficients of 128 bits (`IsTable`). The product of S_w and the polynomial of `label` is the sum of the
-- products for the terms of `sum` and of `todo`, the list of the permutations that the transition rule has not yet replaced (`IsUnderWay`)
abbrev pub invariant-loop-waiting : goal.invariant-loop-waiting
invariant-loop-waiting g l = record {
  under_way : IsUnderWay g.F.Factor.product (λ r v. g.F.Rule.image (g.F.Factor.made r v)) g.F.Factor.extent g.F.Factor.most l.w l.label l.todo.items l.sum;
  table : IsTable g.L.PartialEq.eq g.L.Label.is_label (pos 0) whole (FitsSigned w128) l.sum;
}

abbrev pub decreases-loop-waiting : goal.decreases-loop-waiting
decreases-loop-waiting g l = load l.todo.items
