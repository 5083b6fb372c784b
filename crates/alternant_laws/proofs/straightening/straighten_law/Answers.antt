use Rattle.alternant_laws.proofs.StraightenedMonomials.{straightens}
use Rattle.alternant_laws.proofs.EnoughPlaces.{enough_places}
use Rattle.alternant_laws.proofs.straightening.straighten_law.Goals as goal

pub returns-clause-straightens : goal.returns-clause-straightens
returns-clause-straightens c = straightens

pub returns-clause-enough_places : goal.returns-clause-enough_places
returns-clause-enough_places c = enough_places
