use Rattle.std.proofs.Common.{◌≡◌, ℤ, sym, ◌∙◌, ap, ap₂, subst, refl, to_z-of_z}
use Rattle.std.specs.Prelude.{IsSome, FitsSigned}
use Rattle.std.specs.Int.{w128}
use Rattle.std.proofs.lemmas.Int.{to_z_pos}
use Rattle.fraction_laws.specs.Fractions.{lowest_terms}
use Rattle.fraction_laws.specs.Checked.{checked_fraction_of}
use Rattle.coeff_rings.proofs.LowestTerms.{checked-quotient}
use Rattle.coeff_rings.proofs.quotients.quotient_of.Goals as goal

pub unwrap-requires : goal.unwrap-requires
unwrap-requires c =
    let fits : FitsSigned w128 c.get.result = record { sfits = c.get.type_inv } in
    subst (λ o. IsSome o)
    (sym (c.new.ensures.value ∙ ap₂ checked_fraction_of (to_z-of_z fits)
    (to_z_pos w128 c.args.den c.requires.1) ∙ checked-quotient c.get.result c.args.den fits
    c.requires.0 c.requires.1))
    refl

pub returns : goal.returns
returns c =
    let fits : FitsSigned w128 c.get.result = record { sfits = c.get.type_inv } in
    let some = c.new.ensures.value ∙ ap₂ checked_fraction_of (to_z-of_z fits)
    (to_z_pos w128 c.args.den c.requires.1) ∙ checked-quotient c.get.result c.args.den fits
    c.requires.0 c.requires.1 in
    let number : c.get.result ≡ c.args.num = c.get.ensures in
    let given = c.unwrap.ensures in
    cc (ap (λ (z : ℤ). lowest_terms z c.args.den) number)
