use Rattle.std.proofs.Common.{ap, ◌∙◌, List, ℕ}
use Rattle.sym_model.specs.NumberText.{label_text}
use Rattle.sym_model.specs.Kind.{list_text}
use Rattle.expansion_printer.proofs.GatheringLaws.{Gathers-then, Gathers-as}
use Rattle.expansion_printer.proofs.Texts.{map_same}
use Rattle.expansion_printer.proofs.named.ShiftedNamed.put_name.Goals as goal

pub returns : goal.returns
returns g c =
    Gathers-then (Gathers-as (ap (λ (p : List ℕ × List ℕ). list_text p.0) c.self.view_is)
    c.put_name.ensures)
    (Gathers-then c.put_byte.ensures
    (Gathers-as (ap label_text (map_same c.exponents.result.now ∙ c.exponents.ensures.value
    ∙ ap (λ (p : List ℕ × List ℕ). p.1) c.self.view_is)) c.put_label.ensures))
