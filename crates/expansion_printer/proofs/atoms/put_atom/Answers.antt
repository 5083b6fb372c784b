use Rattle.std.proofs.Common.{ap, ◌∙◌, map}
use Rattle.std.specs.Prelude.{codes, decimal}
use Rattle.sym_model.specs.TableauText.{separated}
use Rattle.expansion_printer.proofs.GatheringLaws.{Gathers-then, Gathers-as}
use Rattle.expansion_printer.proofs.Texts.{numbers_text-separated, map_same}
use Rattle.expansion_printer.proofs.atoms.put_atom.Goals as goal

pub returns : goal.returns
returns g c =
    let parts = c.args.parts.now in
    Gathers-then (Gathers-as c.letter_of.ensures c.put_byte.ensures)
    (Gathers-then c.put_byte-2.ensures
    (Gathers-then (Gathers-as (ap (λ ns. separated (codes ",") (map decimal ns)) (map_same parts)
    ∙ numbers_text-separated parts) c.put_separated.ensures)
    c.put_byte-3.ensures))
