use Rattle.std.proofs.Common.{◌≡◌, ◌+◌, ◌*◌, [], ap, ◌∙◌, rules}
use Rattle.sym_model.specs.Polynomial.{resize}
use Rattle.sym_model.proofs.Exponents.{length-resize}
use Rattle.lr_product.specs.WeighedSum.{at_state, weighed}
use Rattle.lr_product.proofs.Agreeing.{agree_same, agree_then}
use Rattle.lr_product.proofs.Rounds.{at_whole}
use Rattle.lr_product.proofs.columns.add_start.Goals as goal
use Rattle.std.proofs.lemmas.Result.{on_ok_weaker}

pub add-requires-clause-width : goal.add-requires-clause-width
add-requires-clause-width c = search (rules, length-resize)

pub returns-clause-adds : goal.returns-clause-adds
returns-clause-adds c =
    let n = c.args.letters in
    let start = c.args.start.now in
    on_ok_weaker c.add.result (λ adds f.
    let x : at_state n f c.deref.result.now ≡ f (resize n start) [] = ap (at_state n f)
    (c.deref.ensures.value ∙ c.in_ok-state.ensures) ∙ at_whole n f (resize n start)
    (length-resize n start) in
    agree_then _ _ _ (adds n f)
    (agree_same _ _ (ap (λ y. weighed n f c.args.table.now.entries + c.args.count * y) x))) c.add.ensures.adds
