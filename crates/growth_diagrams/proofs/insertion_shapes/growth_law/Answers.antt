use Rattle.growth_diagrams.proofs.GrowthPairs.{growth-shape, first_of_grid, second_of_grid, perm_from}
use Rattle.growth_diagrams.proofs.insertion_shapes.growth_law.Goals as goal

pub returns-clause-shapes : goal.returns-clause-shapes
returns-clause-shapes c = λ w i j h. growth-shape w i j (perm_from w h)

pub returns-clause-insertion : goal.returns-clause-insertion
returns-clause-insertion c = λ w h. first_of_grid w (perm_from w h)

pub returns-clause-recording : goal.returns-clause-recording
returns-clause-recording c = λ w h. second_of_grid w (perm_from w h)
