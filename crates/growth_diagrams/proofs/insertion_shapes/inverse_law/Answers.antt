use Rattle.growth_diagrams.proofs.GrowthPairs.{mirror-shape, exchanged, perm_from}
use Rattle.growth_diagrams.proofs.insertion_shapes.inverse_law.Goals as goal

pub returns-clause-shapes : goal.returns-clause-shapes
returns-clause-shapes c = λ v w i j e. mirror-shape v w e i j

pub returns-clause-insertion : goal.returns-clause-insertion
returns-clause-insertion c = λ v w g h e. (exchanged v w (perm_from v g) (perm_from w h) e).0

pub returns-clause-recording : goal.returns-clause-recording
returns-clause-recording c = λ v w g h e. (exchanged v w (perm_from v g) (perm_from w h) e).1
