use Rattle.std.proofs.Common.{[], ◌∷◌, map, refl, ap, ◌∙◌, subst, rules}
use Rattle.std.specs.Prelude.{string_bytes, codes}
use Rattle.std.proofs.lemmas.List.{length-map}
use Rattle.sym_model.specs.WordForms.{optional, rows_words}
use Rattle.word_laws.proofs.CutParts.{maybe_rows_taken, maybe_rows_absent, maybe_rows_unnumbered}
use Rattle.calc_words.specs.Cutting.{StopsIn}
use Rattle.calc_words.proofs.word_parts.maybe_rows.Goals as goal

pub returns-in_default-clause-ok : goal.returns-in_default-clause-ok
returns-in_default-clause-ok c = search (rules, maybe_rows_absent)

pub returns-in-Some-first_number-clause-ok : goal.returns-in-Some-first_number-clause-ok
returns-in-Some-first_number-clause-ok c =
    let number = c.in-Some-first_number.ensures in (
      codes "-r" ∷ _ ∷ [],
      _,
      maybe_rows_taken _ _ _ (map string_bytes c.args.words.now) number.1 refl
          (c.in-Some.ensures ∙ ap (λ us. codes "-r" ∷ us) number.0),
      refl,
    )

pub returns-in-None-clause-wrong : goal.returns-in-None-clause-wrong
returns-in-None-clause-wrong c =
    let words = map string_bytes c.args.words.now in
    subst (StopsIn (optional rows_words) words) (length-map c.in-Some.more.now string_bytes)
    (maybe_rows_unnumbered words (map string_bytes c.in-Some.more.now) c.in-Some.ensures
    c.in-None.ensures)
