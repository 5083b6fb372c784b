use Rattle.std.proofs.Common.{map, ap, ◌∙◌, subst, sym, inr, rules}
use Rattle.std.specs.Prelude.{string_bytes}
use Rattle.word_laws.proofs.Cuts.{expression_byte}
use Rattle.expression_reading.specs.Reading.{IsWrongByte}
use Rattle.calc_words.proofs.CutWords.{empty_map, first_text}
use Rattle.calc_words.proofs.word_parts.expression_byte.Goals as goal

pub returns-in_default : goal.returns-in_default
returns-in_default c = search (rules, empty_map, expression_byte)

pub returns-in-Some-wrong_byte : goal.returns-in-Some-wrong_byte
returns-in-Some-wrong_byte c =
    let byte = c.in-Some-wrong_byte.byte in
    let first = ap (map string_bytes) c.in-Some.ensures.cases.0 in
    let b = subst (λ v. IsWrongByte v byte) c.as_bytes.ensures.value c.in-Some-wrong_byte.ensures in
    λ left w.
    expression_byte (map string_bytes c.args.words.now) left byte w
    (λ t rest k. inr (subst (λ v. IsWrongByte v byte) (first_text _ _ _ _ (sym first ∙ k)) b).1)
    (λ k. let z = sym first ∙ k in cc)

pub returns-in-None : goal.returns-in-None
returns-in-None c = search (rules, expression_byte, first_text)
