use Rattle.std.specs.Cmp.Lexicographic.{nat_list_eq_equiv}
use Rattle.linear_combinations.proofs.Labels.{same_partition}
use Rattle.sym_model.specs.DividedDifference.{x_to_in}
use Rattle.sym_model.specs.Schubert.{schubert_in}
use Rattle.transition_walk.proofs.Answering.{represents_same}
use Rattle.schubert_transition.proofs.polynomial.schubert_terms.Goals as goal

pub returns-clause-meets : goal.returns-clause-meets
returns-clause-meets c n =
    represents_same nat_list_eq_equiv same_partition c.in_ok-sum.sum c.in_ok-sorted_terms.field-0
    c.in_ok-sum.ensures.is.table
    c.in_ok-sorted_terms.ensures.combination c.in_ok-sorted_terms.ensures.same (λ exponents. x_to_in
    exponents n) (schubert_in c.args.w.now n)
    (c.in_ok-sum.ensures.is.represents n)
