use Rattle.word_laws.proofs.LeftShapes.{left_shape}
use Rattle.word_laws.proofs.shapes_left.left_shape_law.Goals as goal

pub returns : goal.returns
returns c = left_shape
