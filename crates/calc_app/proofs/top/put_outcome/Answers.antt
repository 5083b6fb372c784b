use Rattle.std.proofs.Common.{◌∙◌, ap}
use Rattle.batch_lines.specs.Ends.{status_where}
use Rattle.calc_base.proofs.PutsLaws.{Puts-finished}
use Rattle.calc_app.proofs.top.put_outcome.Goals as goal

pub returns : goal.returns
returns g c = record {
  well = c.finished.ensures.well;
  puts = Puts-finished c.if-not-put_text.ensures.goes c.finished.ensures.puts;
  settles = c.finished.ensures.settles;
  printable = c.put_text.ensures.printable;
  is = c.finished.ensures.is ∙ ap (status_where c.finished.ensures.well)
      c.status_if_put-status.ensures;
}
