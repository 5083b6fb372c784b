use Rattle.std.proofs.Common.{ap}
use Rattle.sym_model.specs.TableauText.{spaced}
use Rattle.expansion_printer.proofs.GatheringLaws.{Gathers-then, Gathers-as, Gathers-prints}
use Rattle.expansion_printer.proofs.Texts.{map_same}
use Rattle.expansion_printer.proofs.words.print_letters.Goals as goal

pub returns : goal.returns
returns g c =
    Gathers-prints c.finish.result c.new-text.ensures
    (Gathers-then (Gathers-as (ap spaced (map_same c.args.w.now)) c.put_separated.ensures)
    c.put_byte.ensures)
    c.finish.ensures
