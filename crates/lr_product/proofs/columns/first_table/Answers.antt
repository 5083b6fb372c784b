use Rattle.std.proofs.Common.{◌≡◌, ℕ, ◌+◌, ◌*◌, [], ap, ◌∙◌, arith}
use Rattle.sym_model.specs.Polynomial.{resize}
use Rattle.sym_model.proofs.Exponents.{length-resize}
use Rattle.linear_combinations.proofs.Steps.{if_answered}
use Rattle.lr_product.specs.WeighedSum.{at_state, weighed}
use Rattle.lr_product.proofs.Agreeing.{agree_same}
use Rattle.lr_product.proofs.Rounds.{at_whole}
use Rattle.lr_product.proofs.columns.first_table.Goals as goal

pub returns : goal.returns
returns c =
    let n = c.args.letters in
    let start = c.args.start.now in
    if_answered c.single.result c.single.ensures
    (λ table entries f.
    let whole : at_state n f c.in_ok-state.state.items ≡ f (resize n start) [] =
    ap (at_state n f) c.in_ok-state.ensures ∙ at_whole n f (resize n start) (length-resize n start) in
    let one : weighed n f table.entries ≡ 1 * at_state n f c.in_ok-state.state.items + 0 =
    ap (weighed n f) entries in
    agree_same _ _ (omega arith))
