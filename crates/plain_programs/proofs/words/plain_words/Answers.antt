use Rattle.std.proofs.Common.{◌∷◌, map, sym, ◌∙◌, ap, add-one, flat_map}
use Rattle.sym_model.specs.Partition.{after}
use Rattle.sym_model.specs.Schur.{words}
use Rattle.plain_programs.specs.Words.{words_of}
use Rattle.plain_programs.proofs.words.plain_words.Goals as goal

pub loop-done-preserved : goal.loop-done-preserved
loop-done-preserved c =
    c.in_ok-list.ensures
    ∙ ap (λ shorter. flat_map (λ a. map (λ w. a ∷ w) shorter) (after 0 c.args.n))
    (ap words_of c.deref.ensures.value ∙ c.loop-done.invariant)
    ∙ ap (words c.args.n) (sym (add-one c.loop-done.done))
