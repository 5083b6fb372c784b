use Rattle.std.proofs.Common.{map}
use Rattle.expansion_printer.proofs.GatheringLaws.{Gathers-then, Gathers-as}
use Rattle.expansion_printer.proofs.Texts.{numbers_text-separated}
use Rattle.expansion_printer.proofs.numbers.put_label.Goals as goal

pub returns : goal.returns
returns g c =
    Gathers-then c.put_byte.ensures
    (Gathers-then (Gathers-as (numbers_text-separated (map g.N.Numeral.number c.args.numbers.now))
    c.put_separated.ensures) c.put_byte-2.ensures)
