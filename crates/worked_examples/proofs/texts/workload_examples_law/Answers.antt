use Rattle.std.proofs.Common.{refl}
use Rattle.std.specs.Fmt.{digits}
use Rattle.worked_examples.proofs.texts.workload_examples_law.Goals as goal

pub returns-clause-first_lines : goal.returns-clause-first_lines
unfolding digits
returns-clause-first_lines c = refl

pub returns-clause-fixed_lines : goal.returns-clause-fixed_lines
unfolding digits
returns-clause-fixed_lines c = refl

pub returns-clause-one : goal.returns-clause-one
unfolding digits
returns-clause-one c = refl

pub returns-clause-two : goal.returns-clause-two
unfolding digits
returns-clause-two c = refl

pub returns-clause-empty_skews : goal.returns-clause-empty_skews
unfolding digits
returns-clause-empty_skews c = refl

pub returns-clause-none : goal.returns-clause-none
unfolding digits
returns-clause-none c = refl
