use Rattle.calc_base.proofs.PutsLaws.{Puts-then}
use Rattle.calc_replies.proofs.tableau_answer.put_pair.Goals as goal

pub returns : goal.returns
returns g c =
    Puts-then (Puts-then c.put_if-first.ensures.goes c.put_tableau-upper.ensures)
    (Puts-then c.put_if-second.ensures.goes c.put_tableau.ensures)
