use Rattle.sym_model.specs.DoubleSchubert.{double_schubert_in, shifted_in}
use Rattle.sym_model.specs.Polynomial.{times}
use Rattle.sym_model.specs.WholeTerms.{as_fractions}
use Rattle.sym_model.proofs.PolynomialLaws.{times_comm}
use Rattle.linear_combinations.proofs.Steps.{if_answered}
use Rattle.transition_walk.proofs.Answering.{represents_as}
use Rattle.double_schubert.proofs.product.dschubmult.Goals as goal

pub returns-else-inversions-clause-meets : goal.returns-else-inversions-clause-meets
returns-else-inversions-clause-meets c =
    if_answered c.act-else-inversions.result c.act-else-inversions.ensures.value
    (λ terms h n.
    represents_as (λ label. shifted_in label n) (as_fractions terms)
    (times (double_schubert_in c.args.v.now n) (double_schubert_in c.args.u.now n))
    (times (double_schubert_in c.args.u.now n) (double_schubert_in c.args.v.now n))
    (times_comm (double_schubert_in c.args.v.now n) (double_schubert_in c.args.u.now n)) (h n))
