use Rattle.std.proofs.Common.{map, sym, ap, ◌∙◌, Some, rules}
use Rattle.std.specs.Prelude.{string_bytes}
use Rattle.sym_model.specs.CommandOffence.{rows_in}
use Rattle.sym_model.specs.GoodTableau.{column_reading}
use Rattle.sym_model.specs.WordForms.{numbers}
use Rattle.calc_language.specs.FoundOffences.{at_most_entry}
use Rattle.calc_words.specs.declared.command.Command.TheVariants.{Tab}
use Rattle.calc_language.proofs.TabJudging.{unlisted_last, listed_last, read_listed}
use Rattle.calc_language.proofs.TabJudging.{read_same}
use Rattle.calc_language.proofs.tab.judge_last.Goals as goal
use Rattle.sym_model.proofs.Lists.{some_items}

pub returns-in-None : goal.returns-in-None
returns-in-None c = search (rules, unlisted_last, some_items, read_listed)

pub returns-in-Some : goal.returns-in-Some
returns-in-Some c =
    let outer = c.args.outer in
    let inner = c.args.inner in
    let rows = c.args.rows.now in
    let limits = c.parts.ensures.limits in
    let read = map (λ r. r.items) c.as_slice.result.now in
    let is = ap (map (λ r. r.items)) c.as_slice.ensures.value ∙ c.rows_of_shape-filled.ensures
    ∙ ap (rows_in c.parts.result.now) c.in_ok-read.ensures
    ∙ ap (λ o. rows_in o (map (λ r. map at_most_entry (numbers (map string_bytes r.now))) rows))
    c.parts.ensures.value in
    let told = rw c.in-Some.is at c.in_ok-lattice_reading.ensures in
    listed_last (λ r. map string_bytes r.now) c.args.at outer inner rows _
    (some_items rows (sym c.is_empty.ensures ∙ c.if-is_empty.false)) limits.partition.falls
    limits.few
    (sym (read_listed (λ r. map string_bytes r.now) outer inner rows read limits.partition.falls
    limits.few is) ∙ told.0)
    (ap (λ w. Tab outer inner (Some w))
    (told.1
    ∙ ap (column_reading outer inner)
    (read_same (λ r. map string_bytes r.now) outer inner rows read limits.partition.falls limits.few
    is told.0)))
