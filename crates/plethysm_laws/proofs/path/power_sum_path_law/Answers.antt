use Rattle.std.proofs.Common.{refl, rules}
use Rattle.plethysm_laws.proofs.RepeatedMonomials.{repeated-sum, repeated-places}
use Rattle.plethysm_laws.proofs.Substitutions.{substitute-power_sum}
use Rattle.plethysm_laws.proofs.Paths.{substitute-combined}
use Rattle.plethysm_laws.proofs.path.power_sum_path_law.Goals as goal

pub returns-clause-power_sum : goal.returns-clause-power_sum
returns-clause-power_sum c = search (rules, substitute-power_sum, repeated-places, repeated-sum)

pub returns-clause-list : goal.returns-clause-list
returns-clause-list c = search (rules, substitute-combined, repeated-places, repeated-sum)

pub returns-clause-square : goal.returns-clause-square
returns-clause-square c = refl

pub returns-clause-front : goal.returns-clause-front
returns-clause-front c = refl

pub returns-clause-exterior : goal.returns-clause-exterior
returns-clause-exterior c = refl

pub returns-clause-no_square : goal.returns-clause-no_square
returns-clause-no_square c = refl

pub returns-clause-number : goal.returns-clause-number
returns-clause-number c = refl
