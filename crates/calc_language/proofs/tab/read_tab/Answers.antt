use Rattle.std.proofs.Common.{map, sym, subst}
use Rattle.std.specs.Prelude.{string_bytes}
use Rattle.calc_language.specs.TabWords.{AreTabWords}
use Rattle.calc_language.proofs.TabJudging.{tab_read_rows}
use Rattle.calc_language.proofs.tab.read_tab.Goals as goal

pub returns : goal.returns
returns c =
    let words = map string_bytes c.args.words.now in
    let outer = map string_bytes c.in_ok-outer.outer.now in
    let inner = map string_bytes c.in_ok-outer.inner.now in
    tab_read_rows (λ r. map string_bytes r.now) words outer inner c.as_slice.result.now
    c.judge_tab.result
    (subst (λ v. AreTabWords outer inner (map (λ r. map string_bytes r.now) v) words)
    (sym c.as_slice.ensures.value) c.in_ok-outer.ensures.ok)
    c.judge_tab.ensures
