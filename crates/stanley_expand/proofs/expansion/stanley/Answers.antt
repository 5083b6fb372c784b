use Rattle.std.specs.Cmp.Lexicographic.{nat_list_eq_equiv}
use Rattle.sym_model.specs.Schur.{schur}
use Rattle.sym_model.specs.Stanley.{stanley_in}
use Rattle.linear_combinations.proofs.Labels.{same_partition}
use Rattle.transition_walk.proofs.Answering.{represents_same}
use Rattle.stanley_expand.proofs.Expansions.{sum_represents, none_past, labels_within}
use Rattle.stanley_expand.proofs.expansion.stanley.Goals as goal

pub returns-clause-meets : goal.returns-clause-meets
returns-clause-meets c = (
  represents_same nat_list_eq_equiv same_partition c.in_ok-sum.sum c.in_ok-sorted_terms.field-0
      c.in_ok-sum.ensures.sum.labels.table c.in_ok-sorted_terms.ensures.combination
      c.in_ok-sorted_terms.ensures.same
      (λ label. schur label c.args.rows) (stanley_in c.args.w.now c.args.rows)
      (sum_represents c.args.rows (stanley_in c.args.w.now c.args.rows) c.in_ok-sum.sum c.in_ok-sum.ensures.sum),
  labels_within c.args.rows c.in_ok-sum.sum c.in_ok-sorted_terms.field-0 c.in_ok-sum.ensures.sum.labels
      c.in_ok-sorted_terms.ensures.combination c.in_ok-sorted_terms.ensures.same,
)

pub returns-clause-fits : goal.returns-clause-fits
returns-clause-fits c = none_past c.args.rows c.args.w.now c.in_ok-sum.sum c.in_ok-sum.ensures.sum
