use Rattle.std.proofs.Common.{refl}
use Rattle.worked_examples.proofs.expansions.reduced_product_examples_law.Goals as goal

pub returns-clause-row_added : goal.returns-clause-row_added
returns-clause-row_added c = refl

pub returns-clause-column_added : goal.returns-clause-column_added
returns-clause-column_added c = refl

pub returns-clause-equal : goal.returns-clause-equal
returns-clause-equal c = refl

pub returns-clause-one_variable : goal.returns-clause-one_variable
returns-clause-one_variable c = refl

pub returns-clause-two_hooks : goal.returns-clause-two_hooks
returns-clause-two_hooks c = refl

pub returns-clause-three_rows : goal.returns-clause-three_rows
returns-clause-three_rows c = refl

pub returns-clause-at_level_two : goal.returns-clause-at_level_two
returns-clause-at_level_two c = refl

pub returns-clause-squared_letter : goal.returns-clause-squared_letter
returns-clause-squared_letter c = refl
