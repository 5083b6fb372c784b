use Rattle.std.proofs.Common.{◌∷◌, map, arith, rules}
use Rattle.std.specs.Prelude.{string_bytes, codes}
use Rattle.std.proofs.lemmas.Result.{err_from_is_err_and}
use Rattle.word_laws.proofs.CutRows.{from_absent, from_taken, from_stops}
use Rattle.calc_words.proofs.word_parts.maybe_from.Goals as goal

pub returns-in_default-clause-ok : goal.returns-in_default-clause-ok
returns-in_default-clause-ok c = search (rules, from_absent)

pub returns-in_err-rows-clause-wrong : goal.returns-in_err-rows-clause-wrong
returns-in_err-rows-clause-wrong c =
    let p = err_from_is_err_and c.from_residual.result c.from_residual.ensures.1 in
    rw (p.1, p.2)
    (from_stops (map string_bytes c.in-Some.more.now) (map string_bytes c.args.words.now) _
    c.in-Some.ensures c.in_err-rows.ensures.wrong)

pub returns-clause-ok : goal.returns-clause-ok
returns-clause-ok c =
    let k = c.in_ok-rows.ensures.ok in
    let n = k.3 in (
      codes "-from" ∷ k.0,
      k.1,
      from_taken k.0 (map string_bytes c.in-Some.more.now) k.1 (map string_bytes c.args.words.now)
          c.in-Some.ensures k.2,
      omega (arith, n),
    )
