use Rattle.expansion_printer.proofs.TableauRows.{rows-told}
use Rattle.expansion_printer.proofs.tableau.TableauEntries.outer.Goals as goal

pub returns-clause-rows : goal.returns-clause-rows
returns-clause-rows c =
    let t = c.args.self.now in
    rows-told t.outer t.inner t.rows c.shape.ensures.tableau.tableau.cells
