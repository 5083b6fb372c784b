use Rattle.std.proofs.Common.{[], ◌++◌, map}
use Rattle.std.specs.Prelude.{string_bytes}
use Rattle.std.proofs.lemmas.Result.{err_from_is_err_and}
use Rattle.word_laws.proofs.CutRows.{no_rows, next_stops, first_passed, first_stops, next_passed}
use Rattle.calc_words.proofs.TakenFactors.{factors_count}
use Rattle.calc_words.proofs.word_parts.tableau.Goals as goal

pub returns-in_err-rest-clause-wrong : goal.returns-in_err-rest-clause-wrong
returns-in_err-rest-clause-wrong c =
    let p = err_from_is_err_and c.from_residual.result c.from_residual.ensures.1 in
    rw (p.1, p.2) (first_stops (map string_bytes c.args.words.now) _ c.in_err-rest.ensures.wrong)

pub loop-more-init : goal.loop-more-init
loop-more-init c =
    let k = c.in_ok-rest.ensures.ok in
    first_passed k.0 (map string_bytes c.in_ok-rest.rest.now) (map string_bytes c.args.words.now)
    k.1

pub returns-in_err-rest-2-clause-wrong : goal.returns-in_err-rest-2-clause-wrong
returns-in_err-rest-2-clause-wrong c =
    let p = err_from_is_err_and c.from_residual-in_err-rest-2.result
    c.from_residual-in_err-rest-2.ensures.1 in
    rw (p.1, p.2)
    (c.loop-more.invariant.stops _
    (next_stops (map string_bytes c.in-Some.more.now) (map string_bytes c.loop-more.rest.now) _
    c.in-Some.ensures c.in_err-rest-2.ensures.wrong))

pub loop-more-preserved : goal.loop-more-preserved
loop-more-preserved c =
    let k = c.in_ok-rest-2.ensures.ok in
    next_passed k.0 (map string_bytes c.loop-more.rest.now) (map string_bytes c.in-Some.more.now)
    (map string_bytes c.in_ok-rest-2.rest.now)
    (map string_bytes c.args.words.now) c.loop-more.invariant c.in-Some.ensures k.1

pub returns-clause-ok : goal.returns-clause-ok
returns-clause-ok c =
    let rest = map string_bytes c.loop-more.rest.now in
    let r = c.loop-more.invariant in
    let t = r.taken [] rest (no_rows rest c.in_default.ensures) in (
      r.front ++ [],
      rest,
      t,
      factors_count string_bytes c.args.words.now c.loop-more.rest.now
          (r.front ++ []) t.words_are,
    )
