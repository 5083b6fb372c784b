use Rattle.std.proofs.Common.{[], get_or, ap₂, sym, ◌∙◌}
use Rattle.std.proofs.lemmas.Bool.{true≢false, false_from_ne_true}
use Rattle.tableau_iter.specs.Positions.{Setting, fits_in, passes}
use Rattle.tableau_iter.proofs.FittingWords.{all_fit-at}
use Rattle.tableau_iter.proofs.walk.put_all.Goals as goal

pub returns-then-not-admits-clause-fits : goal.returns-then-not-admits-clause-fits
returns-then-not-admits-clause-fits c =
    let old = c.args.board.now in
    let place = c.loop-place.place in
    let word = c.args.word.now in
    let b = c.loop-place.board in
    sym (false_from_ne_true (passes old word)
    (λ e.
    true≢false
    (sym (all_fit-at (fits_in old.setting) [] word place e c.loop-place-test.true)
    ∙ sym (ap₂ (λ (s : Setting) v. fits_in s v (get_or word place 0))
    c.loop-place.invariant.same.setting c.loop-place.invariant.front)
    ∙ sym c.admits.ensures ∙ c.if-not-admits.true)))
