use Rattle.std.proofs.Common.{[], ◌∷◌, map, refl, ap, ◌∙◌, subst, rules}
use Rattle.std.specs.Prelude.{string_bytes, codes}
use Rattle.std.proofs.lemmas.List.{length-map}
use Rattle.sym_model.specs.WordForms.{rows_words}
use Rattle.word_laws.proofs.CutParts.{rows_taken, rows_absent, rows_unnumbered}
use Rattle.calc_words.specs.Cutting.{StopsIn}
use Rattle.calc_words.proofs.CutWords.{counted}
use Rattle.calc_words.proofs.word_parts.rows.Goals as goal

pub returns-in_default-clause-wrong : goal.returns-in_default-clause-wrong
returns-in_default-clause-wrong c = search (rules, counted, rows_absent)

pub returns-in-Some-first_number-clause-ok : goal.returns-in-Some-first_number-clause-ok
returns-in-Some-first_number-clause-ok c =
    let number = c.in-Some-first_number.ensures in (
      codes "-r" ∷ _ ∷ [],
      _,
      rows_taken _ _ _ (map string_bytes c.args.words.now) number.1 refl
          (c.in-Some.ensures ∙ ap (λ us. codes "-r" ∷ us) number.0),
      refl,
    )

pub returns-in-None-clause-wrong : goal.returns-in-None-clause-wrong
returns-in-None-clause-wrong c =
    let words = map string_bytes c.args.words.now in
    subst (StopsIn rows_words words) (length-map c.in-Some.more.now string_bytes)
    (rows_unnumbered words (map string_bytes c.in-Some.more.now) c.in-Some.ensures
    c.in-None.ensures)
