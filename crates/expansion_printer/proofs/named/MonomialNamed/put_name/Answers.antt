use Rattle.std.proofs.Common.{ap, ◌∙◌}
use Rattle.sym_model.specs.NumberText.{label_text}
use Rattle.expansion_printer.proofs.GatheringLaws.{Gathers-then, Gathers-as}
use Rattle.expansion_printer.proofs.Texts.{map_same}
use Rattle.expansion_printer.proofs.named.MonomialNamed.put_name.Goals as goal

pub returns : goal.returns
returns g c =
    Gathers-then c.put_spaces.ensures
    (Gathers-as (ap label_text (map_same c.exponents.result.now ∙ c.exponents.ensures.value))
    c.put_label.ensures)
