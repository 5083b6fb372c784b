use Rattle.std.proofs.Common.{◌≡◌, true, false, sym, ◌∙◌}
use Rattle.std.proofs.lemmas.Slice.Eq.{bytes_eq-Decides}
use Rattle.block_reader.proofs.LabelCauses.{not_monomial-cut}
use Rattle.block_reader.proofs.labels.whole_monomial.Goals as goal

pub returns : goal.returns
returns c =
    not_monomial-cut c.args.exponents.now
    (λ e. let clash : true ≡ false =
    sym ((bytes_eq-Decides c.exponents.result.now c.args.exponents.now).1 (c.exponents.ensures.value
    ∙ c.requires ∙ e)) ∙ sym c.eq.ensures ∙ c.if-eq.false in cc)
