use Rattle.calc_base.proofs.PutsLaws.{Puts-then}
use Rattle.batch_lines.proofs.sums.put_summary.Goals as goal

pub returns : goal.returns
returns g c =
    Puts-then c.put_if-lines.ensures.goes (Puts-then c.put_number-lines.ensures
    (Puts-then c.put_if-terms.ensures.goes
    (Puts-then c.put_number-terms.ensures (Puts-then c.put_if-bytes.ensures.goes
    (Puts-then c.put_number-bytes.ensures c.put_if.ensures.goes)))))
