use Rattle.std.proofs.Common.{ℕ, List, [], ◌∷◌, ◌++◌, ap₂, ◌∙◌}
use Rattle.lr_coproduct.proofs.pairs.add_pair.Goals as goal

pub returns : goal.returns
returns c =
    c.in_ok-push.ensures.items
    ∙ ap₂ (λ (x y : List ℕ). c.args.pairs.now.items ++ ((x, y), c.args.c) ∷ [])
    c.in_ok-copy.ensures.ok c.in_ok-copy-2.ensures.ok
