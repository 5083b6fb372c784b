use Rattle.tableau_laws.proofs.FewerLetters.{restrict-skew_schur}
use Rattle.tableau_laws.proofs.fewer_letters.schur_restriction_law.Goals as goal

pub returns : goal.returns
returns c = restrict-skew_schur
