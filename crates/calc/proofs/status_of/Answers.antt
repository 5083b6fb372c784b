use Rattle.std.proofs.Common.{refl, inl}
use Rattle.calc_app.proofs.Outcomes.{answers_as, cut_answers}
use Rattle.calc_base.specs.declared.status.Status.TheVariants.{NoMemory}
use Rattle.calc.proofs.status_of.Goals as goal

pub returns-in_default : goal.returns-in_default
returns-in_default c = cut_answers _ _ NoMemory (inl refl)

pub returns : goal.returns
returns c = answers_as _ (λ line. Unit {0}) (λ line put. tt) c.run_over.ensures.answers
