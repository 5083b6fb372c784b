-- The proof of `tableau_shape_law`, on the words of tableaux with rows of given lengths.
use Rattle.word_laws.proofs.ShapedTableaux.{shape_none, shape_place, shape_rows}
use Rattle.word_laws.proofs.tableau_shapes.tableau_shape_law.Goals as goal

pub returns-clause-none : goal.returns-clause-none
returns-clause-none c = shape_none

pub returns-clause-place : goal.returns-clause-place
returns-clause-place c = shape_place

pub returns-clause-rows : goal.returns-clause-rows
returns-clause-rows c = shape_rows
