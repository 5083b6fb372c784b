use Rattle.std.proofs.Common.{◌++◌, ◌∷◌, [], sym, ◌∙◌, ap₂}
use Rattle.sym_model.specs.Schur.{times_in}
use Rattle.plain_programs.proofs.WordLists.{map_after-more}
use Rattle.plain_programs.proofs.good.counts_of.Goals as goal

pub loop-letter-preserved : goal.loop-letter-preserved
loop-letter-preserved c =
    c.in_ok-push.ensures.items
    ∙ ap₂ (λ front last. front ++ (last ∷ [])) c.loop-letter.invariant c.count_of.ensures.count
    ∙ sym (map_after-more (λ k. times_in k c.args.word.now) c.loop-letter.letter)
