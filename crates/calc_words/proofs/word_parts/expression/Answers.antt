use Rattle.std.proofs.Common.{[], ◌∷◌, map, refl, ap, subst, sym}
use Rattle.std.specs.Prelude.{string_bytes}
use Rattle.sym_model.specs.Form.{word, formula}
use Rattle.word_laws.proofs.CutParts.{IsExpressionText, expression_taken, expression_wrong}
use Rattle.expression_reading.specs.Reading.{IsWrongByte}
use Rattle.calc_words.specs.Cutting.{StopsIn}
use Rattle.calc_words.specs.NumberRuns.{BeginsOtherwise}
use Rattle.calc_words.proofs.CutWords.{counted, empty_map}
use Rattle.calc_words.proofs.word_parts.expression.Goals as goal

pub returns-in_default-clause-wrong : goal.returns-in_default-clause-wrong
returns-in_default-clause-wrong c =
    subst (λ ws. StopsIn (word formula) ws 0)
    (sym (empty_map string_bytes c.args.words.now c.in_default.ensures.cases))
    (expression_wrong [] tt)

pub returns-in-Some-wrong_byte-clause-wrong : goal.returns-in-Some-wrong_byte-clause-wrong
returns-in-Some-wrong_byte-clause-wrong c =
    let byte = c.in-Some-wrong_byte.field-0 in
    let w = subst (λ v. IsWrongByte v byte) c.as_bytes.ensures.value c.in-Some-wrong_byte.ensures in
    counted string_bytes (word formula) c.args.words.now
    (expression_wrong (map string_bytes c.args.words.now)
    (subst (BeginsOtherwise IsExpressionText)
    (sym (ap (map string_bytes) c.in-Some.ensures.cases.0)) (λ p. w.0 p.0 p.1)))

pub returns-in-None-clause-ok : goal.returns-in-None-clause-ok
returns-in-None-clause-ok c = (
  string_bytes c.in-Some.first.now ∷ [],
  _,
  expression_taken _ _ (map string_bytes c.args.words.now)
      (subst IsExpressionText c.as_bytes.ensures.value c.in-None.ensures)
      (ap (map string_bytes) c.in-Some.ensures.cases.0),
  refl,
)
