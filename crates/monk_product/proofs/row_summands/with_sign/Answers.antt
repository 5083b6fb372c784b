use Rattle.std.proofs.Common.{sym, ◌∙◌}
use Rattle.std.specs.Prelude.{neg_ℤ}
use Rattle.fraction_laws.proofs.Whole.{whole_fitted}
use Rattle.sym_model.proofs.Signs.{even_sign, odd_sign}
use Rattle.monk_product.proofs.row_summands.with_sign.Goals as goal

pub returns-then-degree-eq0 : goal.returns-then-degree-eq0
returns-then-degree-eq0 c = even_sign c.args.degree c.args.c c.if-degree-eq0.true

pub returns : goal.returns
returns c =
    whole_fitted (neg_ℤ c.args.c) c.in_ok-minus.minus
    (sym c.neg.ensures.negation ∙ c.in_ok-minus.ensures.ok_part)
    ∙ odd_sign c.args.degree c.args.c c.if-degree-eq0.false
