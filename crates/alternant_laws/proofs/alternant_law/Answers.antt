use Rattle.alternant_laws.proofs.Alternants.{alternant_exchange, alternant_equal}
use Rattle.alternant_laws.proofs.Staircase.{staircase_leads}
use Rattle.alternant_laws.proofs.alternant_law.Goals as goal

pub returns-clause-exchange : goal.returns-clause-exchange
returns-clause-exchange c = alternant_exchange

pub returns-clause-equal : goal.returns-clause-equal
returns-clause-equal c = alternant_equal

pub returns-clause-staircase : goal.returns-clause-staircase
returns-clause-staircase c = staircase_leads
