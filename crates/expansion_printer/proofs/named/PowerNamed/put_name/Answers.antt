use Rattle.std.proofs.Common.{ap, List, ℕ}
use Rattle.std.specs.Prelude.{decimal}
use Rattle.sym_model.specs.Kind.{list_text}
use Rattle.expansion_printer.proofs.GatheringLaws.{Gathers-then, Gathers-as}
use Rattle.expansion_printer.proofs.named.PowerNamed.put_name.Goals as goal

pub returns : goal.returns
returns g c =
    Gathers-then c.put.ensures
    (Gathers-then (Gathers-as (ap (λ (p : ℕ × List ℕ). decimal p.0) c.self.view_is)
    (Gathers-as (ap decimal c.from.ensures) c.put_number.ensures))
    (Gathers-as (ap (λ (p : ℕ × List ℕ). list_text p.1) c.self.view_is) c.put_name.ensures))
