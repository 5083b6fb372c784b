use Rattle.std.proofs.Common.{sym}
use Rattle.std.proofs.lemmas.Fmt.{decimal_digit}
use Rattle.itoa.proofs.Decimal.{decimal_two}
use Rattle.expansion_printer.proofs.GatheringLaws.{Gathers-then, Gathers-as}
use Rattle.expansion_printer.proofs.numbers.put_number.Goals as goal

pub returns-then-number-lt10 : goal.returns-then-number-lt10
returns-then-number-lt10 g c =
    Gathers-as (sym (decimal_digit c.args.number c.if-number-lt10.true)) c.put_byte.ensures

pub returns-then-number-lt100 : goal.returns-then-number-lt100
returns-then-number-lt100 g c =
    Gathers-as (sym (decimal_two c.args.number c.if-number-lt10.false c.if-number-lt100.true))
    (Gathers-then c.put_byte-then-number-lt100.ensures
    c.put_byte-then-number-lt100-2.ensures)
