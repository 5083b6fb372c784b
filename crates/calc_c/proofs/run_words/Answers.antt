use Rattle.std.proofs.Common.{◌≡◌, ap, ◌∙◌, sym, subst, inl, inr, rules, map, refl, take, length, Some}
use Rattle.std.specs.Prelude.{string_bytes}
use Rattle.calc_base.specs.Growing.{Growing}
use Rattle.calc_base.specs.declared.status.Status.{Status}
use Rattle.calc_base.specs.declared.status.Status.TheVariants as statuses
use Rattle.calc_app.specs.Top.{IsThrough}
use Rattle.calc_c.specs.Calls.{IsLeft, status_left}
use Rattle.calc_c.proofs.Carried.{answer_carried, lines_carried, answers_carried, left_text, told_is, told_answers}
use Rattle.calc_c.proofs.run_words.Goals as goal

pub returns-clause-headline : goal.returns-clause-headline
returns-clause-headline c = λ done room.
    let same : c.run-status.result ≡ c.told.result =
    told_is c.told.result c.run-status.result c.put_front.result c.told.ensures
    (λ f. let clash : statuses.Done ≡ statuses.NoMemory = sym done ∙ f in cc) in
    answer_carried (map string_bytes c.args.words.now) (Some c.args.input.now) c.new-sink.result.bytes
    c.run-status.new.sink.bytes
    (take c.put_front.result c.put_front.new.out) (search rules) (search rules)
    (c.run-status.ensures.headline (same ∙ done) c.new-sink.result.bytes refl)

pub returns-clause-lines : goal.returns-clause-lines
returns-clause-lines c = λ runs through room.
    let same : c.run-status.result ≡ c.told.result =
    told_is c.told.result c.run-status.result c.put_front.result c.told.ensures
    (elim through [ inl e ↦ λ f. let clash : statuses.Done ≡ statuses.NoMemory = sym e ∙ f in cc | inr e ↦ λ f. let clash : statuses.SomeRefused ≡ statuses.NoMemory = sym e ∙ f in cc ]) in
    lines_carried c.args.input.now c.args.input.now c.new-sink.result.bytes
    c.run-status.new.sink.bytes
    (take c.put_front.result c.put_front.new.out) refl (search rules) (search rules)
    (c.run-status.ensures.lines runs (subst IsThrough (sym same) through) c.new-sink.result.bytes refl)

pub returns-clause-answers : goal.returns-clause-answers
returns-clause-answers c =
    told_answers (map string_bytes c.args.words.now) _ c.told.result c.run-status.result c.put_front.result c.told.ensures
    (answers_carried (map string_bytes c.args.words.now) c.new-sink.result c.run-status.new.sink
    c.put_front.new.out c.put_front.result c.run-status.result
    (search rules) (search rules) c.run-status.ensures.answers)

pub returns-clause-leaves : goal.returns-clause-leaves
returns-clause-leaves c =
    let text = c.run-status.new.sink.bytes in
    let put : c.put_front.result ≡ length text = c.put_front.ensures.needed
    ∙ ap length c.bytes.ensures in
    record {
      text = text;
      is_left =
          subst (IsLeft (map string_bytes c.args.words.now) c.args.input.now text)
          (ap (status_left c.run-status.result) (sym put) ∙ sym c.told.ensures)
          (left_text (map string_bytes c.args.words.now) c.args.input.now c.new-sink.result
          c.run-status.new.sink _ _ c.run-status.result
          c.new-sink.ensures.bytes (λ same. ap (λ (s : Growing). s.bytes) same
          ∙ c.new-sink.ensures.bytes) (search rules) c.run-status.ensures.leaves);
      needs = put;
      stands = search rules;
      untouched = search rules;
    }
