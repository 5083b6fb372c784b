use Rattle.std.proofs.Common.{ℕ, ◌-◌, get_or, ap₂, ◌∙◌, arith}
use Rattle.lr_product.proofs.Windows.{window}
use Rattle.lr_product.proofs.last_rows.window_sum.Goals as goal

pub returns : goal.returns
returns c X count e =
    c.saturating_sub.ensures
    ∙ ap₂ (λ (f g : ℕ). get_or c.args.sums.now (g - f) 0 - get_or c.args.sums.now (c.args.low - f) 0)
    c.from-first.ensures c.from-end.ensures
    ∙ window X c.args.first count c.args.low c.args.end c.args.sums.now e c.requires.low
    (omega (arith, c.if-end-low.false, c.from-end.ensures)) c.requires.end
