use Rattle.std.proofs.Common.{refl}
use Rattle.worked_examples.proofs.expansions.expansion_examples_law.Goals as goal

pub returns-clause-skew : goal.returns-clause-skew
returns-clause-skew c = refl

pub returns-clause-coproduct : goal.returns-clause-coproduct
returns-clause-coproduct c = refl

pub returns-clause-square : goal.returns-clause-square
returns-clause-square c = refl

pub returns-clause-product : goal.returns-clause-product
returns-clause-product c = refl
