use Rattle.calc_base.proofs.PutsLaws.{Puts-finished}
use Rattle.calc_app.proofs.workload.put_sums.Goals as goal

pub returns : goal.returns
returns g c = record {
  well = c.finished.ensures.well;
  puts = Puts-finished c.if-not-put_summary.ensures c.finished.ensures.puts;
  settles = c.finished.ensures.settles;
  is = c.finished.ensures.is;
}
