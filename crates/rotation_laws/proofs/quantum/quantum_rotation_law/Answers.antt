use Rattle.rotation_laws.proofs.RotatedBack.{rotated_back, wraps_back}
use Rattle.rotation_laws.proofs.RotatedSteps.{turned_steps}
use Rattle.rotation_laws.proofs.Rotations.{rotated_first, rotated_several}
use Rattle.rotation_laws.proofs.quantum.quantum_rotation_law.Goals as goal

pub returns-clause-one : goal.returns-clause-one
returns-clause-one c = rotated_first

pub returns-clause-several : goal.returns-clause-several
returns-clause-several c = rotated_several

pub returns-clause-back : goal.returns-clause-back
returns-clause-back c = rotated_back

pub returns-clause-turns : goal.returns-clause-turns
returns-clause-turns c = wraps_back

pub returns-clause-steps : goal.returns-clause-steps
returns-clause-steps c = turned_steps
