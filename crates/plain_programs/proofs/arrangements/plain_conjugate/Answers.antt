use Rattle.std.proofs.Common.{◌++◌, ◌∷◌, [], sym, ◌∙◌, ap₂}
use Rattle.sym_model.specs.Conjugate.{count_from}
use Rattle.plain_programs.proofs.WordLists.{map_after-more}
use Rattle.plain_programs.proofs.arrangements.plain_conjugate.Goals as goal

pub loop-j-preserved : goal.loop-j-preserved
loop-j-preserved c =
    c.in_ok-push.ensures.items
    ∙ ap₂ (λ front last. front ++ (last ∷ [])) c.loop-j.invariant c.count_at_least.ensures.count
    ∙ sym (map_after-more (λ j. count_from j c.args.parts.now) c.loop-j.j)
