use Rattle.std.proofs.Common.{ap, ◌∙◌}
use Rattle.sym_model.specs.NumberText.{label_text}
use Rattle.expansion_printer.proofs.GatheringLaws.{Gathers-as, Gathers-prints}
use Rattle.expansion_printer.proofs.Texts.{map_same}
use Rattle.expansion_printer.proofs.words.print_label.Goals as goal

pub returns : goal.returns
returns g c =
    Gathers-prints c.finish.result c.new-text.ensures
    (Gathers-as (ap label_text (map_same c.parts.result.now ∙ c.parts.ensures.value))
    c.put_label.ensures)
    c.finish.ensures
