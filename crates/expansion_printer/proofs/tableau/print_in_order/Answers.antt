use Rattle.expansion_printer.proofs.tableau.print_in_order.Goals as goal

pub returns : goal.returns
returns g c = c.print_filling.ensures
