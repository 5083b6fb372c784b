use Rattle.std.proofs.Common.{[], ◌∷◌, map, refl}
use Rattle.std.specs.Prelude.{string_bytes, codes}
use Rattle.word_laws.proofs.CutParts.{maybe_form_taken, maybe_form_absent}
use Rattle.calc_words.proofs.word_parts.maybe_form.Goals as goal

pub returns-in-Some : goal.returns-in-Some
returns-in-Some c = (
  codes "-m" ∷ [],
  _,
  maybe_form_taken (codes "-m" ∷ []) _ (map string_bytes c.args.words.now)
      refl c.in-Some.ensures,
  refl,
)

pub returns-in-None : goal.returns-in-None
returns-in-None c = (
  [],
  _,
  maybe_form_absent (map string_bytes c.args.words.now) c.in-None.ensures,
  refl,
)
