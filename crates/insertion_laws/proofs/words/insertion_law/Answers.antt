use Rattle.insertion_laws.proofs.WordsAndPairs.{inserted_tableau, recorded_tableau, one_shape}
use Rattle.insertion_laws.proofs.WordsAndPairs.{as_many_cells}
use Rattle.insertion_laws.proofs.words.insertion_law.Goals as goal

pub returns-clause-tableau : goal.returns-clause-tableau
returns-clause-tableau c = inserted_tableau

pub returns-clause-recording : goal.returns-clause-recording
returns-clause-recording c = recorded_tableau

pub returns-clause-one_shape : goal.returns-clause-one_shape
returns-clause-one_shape c = one_shape

pub returns-clause-cells : goal.returns-clause-cells
returns-clause-cells c = as_many_cells
