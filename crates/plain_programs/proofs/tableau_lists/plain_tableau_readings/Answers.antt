use Rattle.std.proofs.Common.{◌≡◌, List, ℕ, map, ◌∙◌, ap, ap₂, filter}
use Rattle.std.proofs.lemmas.Result.{IfOk-weaker}
use Rattle.sym_model.specs.Schur.{words}
use Rattle.sym_model.specs.GoodTableau.{is_among, column_reading}
use Rattle.sym_model.specs.TableauList.{tableau_readings}
use Rattle.plain_programs.specs.Words.{words_of, fillings_in}
use Rattle.plain_programs.proofs.tableau_lists.plain_tableau_readings.Goals as goal

pub returns : goal.returns
returns c =
    let outer = c.args.outer.now in
    let inner = c.args.inner.now in
    let readings =
    ap words_of c.deref-3.ensures.value
    ∙ c.in_ok-readings.ensures
    ∙ ap (map (column_reading outer inner)) (ap fillings_in c.deref.ensures.value
    ∙ c.in_ok-tableaux.ensures) in
    let all = ap words_of c.deref-2.ensures.value ∙ c.in_ok-words.ensures ∙ ap (words c.args.n)
    c.count_cells.ensures in
    IfOk-weaker c.those_among.result
    (λ list. words_of list.items ≡ filter (λ w. is_among w (words_of c.deref-3.result.now))
    (words_of c.deref-2.result.now))
    (λ list. words_of list.items ≡ tableau_readings c.args.n outer inner)
    (λ list e. e ∙ ap₂ (λ (among ws : List (List ℕ)). filter (λ w. is_among w among) ws) readings
    all)
    c.those_among.ensures
