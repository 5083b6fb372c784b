use Rattle.schubert_laws.proofs.DifferencesFromOne.{divided_respects, divided-scale}
use Rattle.schubert_laws.proofs.DifferencesFromOne.{divided_square, divided_commute, divided_braid}
use Rattle.schubert_laws.proofs.DifferencesFromOne.{In_divided, divided-times, divided_quotient}
use Rattle.schubert_laws.proofs.difference_laws.divided_difference_law.Goals as goal

pub returns-clause-variables : goal.returns-clause-variables
returns-clause-variables c = In_divided

pub returns-clause-quotient : goal.returns-clause-quotient
returns-clause-quotient c = divided_quotient

pub returns-clause-respects : goal.returns-clause-respects
returns-clause-respects c = divided_respects

pub returns-clause-scale : goal.returns-clause-scale
returns-clause-scale c = divided-scale

pub returns-clause-square : goal.returns-clause-square
returns-clause-square c = divided_square

pub returns-clause-commute : goal.returns-clause-commute
returns-clause-commute c = divided_commute

pub returns-clause-braid : goal.returns-clause-braid
returns-clause-braid c = divided_braid

pub returns-clause-product : goal.returns-clause-product
returns-clause-product c = divided-times
