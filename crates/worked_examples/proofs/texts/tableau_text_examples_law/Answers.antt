use Rattle.std.proofs.Common.{refl}
use Rattle.std.specs.Fmt.{digits}
use Rattle.worked_examples.proofs.texts.tableau_text_examples_law.Goals as goal

pub returns-clause-pair : goal.returns-clause-pair
unfolding digits
returns-clause-pair c = refl

pub returns-clause-word : goal.returns-clause-word
unfolding digits
returns-clause-word c = refl

pub returns-clause-straight : goal.returns-clause-straight
unfolding digits
returns-clause-straight c = refl

pub returns-clause-one_row : goal.returns-clause-one_row
unfolding digits
returns-clause-one_row c = refl

pub returns-clause-row_without_cells : goal.returns-clause-row_without_cells
unfolding digits
returns-clause-row_without_cells c = refl

pub returns-clause-lattice : goal.returns-clause-lattice
unfolding digits
returns-clause-lattice c = refl

pub returns-clause-later : goal.returns-clause-later
unfolding digits
returns-clause-later c = refl
