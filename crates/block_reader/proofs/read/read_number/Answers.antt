use Rattle.std.proofs.Common.{◌≡◌, ap, refl, sym, ◌∙◌, subst, FitsSigned, to_z, of_z, to_z-of_z}
use Rattle.std.specs.Int.{w128}
use Rattle.sym_model.specs.NumberText.{signed_value}
use Rattle.block_reader.proofs.BlockReadings.{number-candidate, number-refused}
use Rattle.block_reader.proofs.read.read_number.Goals as goal

pub returns-in-Some : goal.returns-in-Some
returns-in-Some c =
    let raw : to_z w128 (of_z w128 c.in-Some.value) ≡ signed_value c.cut.result.0.now =
    to_z-of_z (subst (FitsSigned w128) (sym c.in-Some.ensures.1) c.in-Some.ensures.0)
    ∙ c.in-Some.ensures.1 in (
      refl,
      λ terms e. number-candidate c.args.text.now c.new.result
          (c.new.ensures ∙ raw ∙ ap signed_value c.cut.ensures.front) terms e,
    )

pub returns-in-None : goal.returns-in-None
returns-in-None c =
    number-refused c.args.text.now (λ fits. c.in-None.ensures
    (subst (λ w. FitsSigned w128 (signed_value w)) (sym c.cut.ensures.front) fits))
