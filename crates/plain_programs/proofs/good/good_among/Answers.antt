use Rattle.std.proofs.Common.{◌<◌, ◌∷◌, [], ◌++◌, cond, length, sym, ◌∙◌, ap, ap₂, arith}
use Rattle.sym_model.specs.GoodTableau.{is_good}
use Rattle.plain_programs.specs.Words.{words_of}
use Rattle.plain_programs.proofs.WordLists.{select_take-more}
use Rattle.plain_programs.proofs.good.good_among.Goals as goal

pub loop-tableau-preserved : goal.loop-tableau-preserved
loop-tableau-preserved c =
    let test = is_good c.args.k c.args.start.now c.args.outer.now c.args.inner.now in
    let rows = words_of c.tableau-item.result.items in
    let within : c.loop-tableau.tableau-index < length c.args.tableaux.now = omega arith in
    let kept = ap (λ w. test (words_of w)) c.deref.ensures.value in
    c.in_ok-push_if.ensures
    ∙ ap₂ ◌++◌ c.loop-tableau.invariant (ap₂ (λ b w. cond b (w ∷ []) [])
    (c.in_ok-good.ensures ∙ kept) (ap words_of c.deref-in-loop-tableau.ensures.value))
    ∙ sym (select_take-more test (λ filling. words_of filling.items) c.args.tableaux.now
    c.loop-tableau.tableau-index c.tableau-item.result within c.tableau-item.is)
