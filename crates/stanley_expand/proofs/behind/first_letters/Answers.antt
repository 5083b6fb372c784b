use Rattle.std.proofs.Common.{◌≡◌, ◌+◌, ◌∙◌, sym, ap, ◌++◌, ◌∷◌, [], arith}
use Rattle.sym_model.specs.Partition.{after}
use Rattle.sym_model.proofs.AfterLists.{after-more}
use Rattle.stanley_expand.proofs.behind.first_letters.Goals as goal

pub loop-at-preserved : goal.loop-at-preserved
loop-at-preserved c =
    let e : 0 + c.loop-at.at + 1 ≡ c.loop-at.at + 1 = omega arith in
    c.in_ok-push.ensures.items ∙ ap (λ list. list ++ (c.loop-at.at + 1) ∷ []) c.loop-at.invariant
    ∙ ap (λ a. after 0 c.loop-at.at ++ a ∷ []) (sym e) ∙ sym (after-more 0 c.loop-at.at)
