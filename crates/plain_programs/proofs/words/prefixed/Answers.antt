use Rattle.std.proofs.Common.{◌+◌, ◌∷◌, ◌++◌, map, sym, ◌∙◌, ap}
use Rattle.plain_programs.specs.Words.{words_of}
use Rattle.plain_programs.proofs.WordLists.{each_after-more}
use Rattle.plain_programs.proofs.words.prefixed.Goals as goal

pub loop-below-preserved : goal.loop-below-preserved
loop-below-preserved c =
    let words = words_of c.args.words.now in
    c.in_ok-push_prefixed.ensures
    ∙ ap (λ front. front ++ map (λ w. (c.loop-below.below + 1) ∷ w) words) c.loop-below.invariant
    ∙ sym (each_after-more (λ a. map (λ w. a ∷ w) words) c.loop-below.below)
