use Rattle.std.proofs.Common.{ap, sym, ◌∙◌, ℤ, to_z-of_z}
use Rattle.sym_model.specs.Expansion.{Fraction}
use Rattle.sym_model.specs.OneLine.{atom_text}
use Rattle.expansion_printer.proofs.GatheringLaws.{Gathers-then, Gathers-as}
use Rattle.expression_reading.specs.Trees.{basis_of}
use Rattle.expansion_printer.specs.SignedTerms.{sign_text, coefficient_text}
use Rattle.expansion_printer.proofs.line.put_term.Goals as goal

pub returns-clause-goes : goal.returns-clause-goes
returns-clause-goes g c =
    let num = to_z-of_z c.parts-num.ensures.fits in
    let parts = sym c.parts-num.ensures.parts in
    Gathers-then (Gathers-as (ap (λ (z : ℤ). sign_text c.args.is_first z) num
    ∙ ap (λ (r : Fraction). sign_text c.args.is_first r.0) parts) c.put_sign.ensures)
    (Gathers-then (Gathers-as (ap (λ (z : ℤ). coefficient_text (z, c.parts-num.result.1)) num
    ∙ ap coefficient_text parts) c.put_coefficient.ensures)
    (Gathers-as (ap (atom_text (basis_of c.args.basis)) c.parts.ensures.value) c.put_atom.ensures))
