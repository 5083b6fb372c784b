use Rattle.std.proofs.Common.{map, refl, ap, ◌∙◌}
use Rattle.std.specs.Prelude.{string_bytes}
use Rattle.std.proofs.lemmas.Result.{err_from_is_err_and}
use Rattle.sym_model.specs.Grammar.{tab_entry}
use Rattle.calc_language.specs.TabWords.{from_rows}
use Rattle.calc_language.proofs.CutTableaux.{none_from, some_from, tab_cut}
use Rattle.calc_language.proofs.tab.tab_parts.Goals as goal

pub returns-in_err-places-clause-wrong : goal.returns-in_err-places-clause-wrong
returns-in_err-places-clause-wrong c =
    let p = err_from_is_err_and c.from_residual.result c.from_residual.ensures.1 in
    rw (p.1, p.2) (c.in_err-places.ensures.wrong tab_entry refl)

pub returns-in_default-clause-ok : goal.returns-in_default-clause-ok
returns-in_default-clause-ok c =
    let k = c.in_ok-places.ensures.cut in
    let x = k.parts.3.3.3.0 in
    tab_cut (map string_bytes c.args.words.now) c.in_ok-places.places k _ _ _
    (c.piece_at-outer.ensures.is _ _ k.parts.2).1
    (c.piece_at-inner.ensures.is _ _ k.parts.3.3.2).1
    (ap (map (λ r. map string_bytes r.now)) c.new.ensures.items ∙ none_from x _
    (c.piece_at-last.ensures.is _ _ k.parts.3.3.3.2).1 c.in_default.ensures)

pub returns-clause-ok : goal.returns-clause-ok
returns-clause-ok c =
    let k = c.in_ok-places.ensures.cut in
    let x = k.parts.3.3.3.0 in
    let s = some_from x _ (map string_bytes c.in-Some.more.now) k.parts.3.3.3.1
    (c.piece_at-last.ensures.is _ _ k.parts.3.3.3.2).1 c.in-Some.ensures in
    tab_cut (map string_bytes c.args.words.now) c.in_ok-places.places k _ _ _
    (c.piece_at-outer.ensures.is _ _ k.parts.2).1
    (c.piece_at-inner.ensures.is _ _ k.parts.3.3.2).1 (c.in_ok-rows.ensures (from_rows x) s.0 s.1
    s.2)
