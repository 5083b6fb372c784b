use Rattle.std.proofs.Common.{ap, sym, ◌∙◌, ◌++◌, ◌==◌}
use Rattle.std.specs.Prelude.{codes}
use Rattle.std.proofs.lemmas.Bool.{eq-eqb, ne_eqb, cond-true, cond-false}
use Rattle.expansion_printer.proofs.GatheringLaws.{Gathers-then, Gathers-as}
use Rattle.sym_model.specs.NumberText.{label_text}
use Rattle.expansion_printer.proofs.Texts.{map_same}
use Rattle.expansion_printer.proofs.words.put_next_shape.Goals as goal

pub returns-then-at-eq0 : goal.returns-then-at-eq0
returns-then-at-eq0 g c =
    let text = label_text c.args.shape.now in
    Gathers-as (ap label_text (map_same c.parts.result.now ∙ c.parts.ensures.value)
    ∙ sym (cond-true (c.args.at == 0) text (codes " " ++ text)
    (eq-eqb c.args.at 0 c.if-at-eq0.true)))
    c.put_label.ensures

pub returns : goal.returns
returns g c =
    let text = label_text c.args.shape.now in
    Gathers-as (sym (cond-false (c.args.at == 0) text (codes " " ++ text)
    (ne_eqb c.args.at 0 c.if-at-eq0.false)))
    (Gathers-then c.put_byte.ensures
    (Gathers-as (ap label_text (map_same c.parts-2.result.now ∙ c.parts-2.ensures.value))
    c.put_label-2.ensures))
