use Rattle.std.proofs.Common.{[], ◌∷◌, map, sym, subst, rules}
use Rattle.std.specs.Prelude.{string_bytes}
use Rattle.std.proofs.lemmas.List.{map-append}
use Rattle.calc_language.proofs.CutTableaux.{RowsRead, first_read, next_read, all_read}
use Rattle.calc_language.proofs.row_words.rows_of_words.Goals as goal

pub loop-more-init : goal.loop-more-init
loop-more-init c = search (rules, first_read)

pub loop-more-preserved : goal.loop-more-preserved
loop-more-preserved c =
    let later = map string_bytes c.row_first-in-Some.result.1.now in
    let words = map string_bytes c.args.words.now in
    let row = c.row_first-in-Some.result.0 in
    subst (λ xs. RowsRead (map (λ r. map string_bytes r.now) xs) later words)
    (sym c.in_ok-push-2.ensures.items)
    (subst (λ xs. RowsRead xs later words)
    (sym (map-append (λ r. map string_bytes r.now) c.loop-more.rows.items (row ∷ [])))
    (next_read (map (λ r. map string_bytes r.now) c.loop-more.rows.items) words
    (map string_bytes c.loop-more.rest.now) (map string_bytes c.in-Some.more.now)
    (map string_bytes row.now) later c.loop-more.invariant c.in-Some.ensures
    c.row_first-in-Some.ensures.is))

pub returns : goal.returns
returns c = search (rules, all_read)
