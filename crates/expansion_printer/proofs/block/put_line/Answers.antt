use Rattle.std.proofs.Common.{◌∙◌, ap, sym, ℤ, to_z-of_z}
use Rattle.sym_model.specs.NumberText.{fraction_text}
use Rattle.expansion_printer.proofs.GatheringLaws.{Gathers-then, Gathers-as}
use Rattle.expansion_printer.proofs.block.put_line.Goals as goal

pub returns-clause-goes : goal.returns-clause-goes
returns-clause-goes g c =
    Gathers-then (Gathers-as (ap (λ (z : ℤ). fraction_text (z, c.parts-num.result.1))
    (to_z-of_z c.parts-num.ensures.fits) ∙ ap fraction_text (sym c.parts-num.ensures.parts))
    c.put_fraction.ensures)
    (Gathers-then c.put_name.ensures c.put_byte.ensures)
