use Rattle.std.proofs.Common.{◌≡◌, true, false, sym, ◌∙◌}
use Rattle.std.proofs.lemmas.Slice.Eq.{bytes_eq-Decides}
use Rattle.block_reader.proofs.LabelCauses.{not_label-cut}
use Rattle.block_reader.proofs.labels.whole_shape.Goals as goal

pub returns : goal.returns
returns c =
    not_label-cut c.args.parts.now
    (λ e. let clash : true ≡ false =
    sym ((bytes_eq-Decides c.parts.result.now c.args.parts.now).1
    (c.parts.ensures.value ∙ c.requires ∙ e)) ∙ sym c.eq.ensures ∙ c.if-eq.false in cc)
