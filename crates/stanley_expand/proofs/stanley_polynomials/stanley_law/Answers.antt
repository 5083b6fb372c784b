use Rattle.std.proofs.Common.{refl}
use Rattle.sym_model.specs.Stanley.{stanley_in}
use Rattle.stanley_expand.proofs.SchurPositive.{stanley_positive, schur_coefficient_natural}
use Rattle.stanley_expand.proofs.stanley_polynomials.stanley_law.Goals as goal

pub returns-clause-positive : goal.returns-clause-positive
returns-clause-positive c = stanley_positive

pub returns-clause-natural : goal.returns-clause-natural
returns-clause-natural c = λ w m κ o p h. schur_coefficient_natural m (stanley_in w m) κ
    (stanley_positive w m o) p h

pub returns-clause-example : goal.returns-clause-example
returns-clause-example c = refl
