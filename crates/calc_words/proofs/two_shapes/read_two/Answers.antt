use Rattle.std.proofs.Common.{◌+◌, length, map, refl, rules}
use Rattle.std.specs.Prelude.{string_bytes}
use Rattle.std.proofs.lemmas.Result.{err_from_is_err_and}
use Rattle.calc_words.proofs.Commands.{first_faulty, second_faulty, both_fine, second_place}
use Rattle.calc_words.proofs.two_shapes.read_two.Goals as goal

pub returns-in_err-first : goal.returns-in_err-first
returns-in_err-first c = search (rules, err_from_is_err_and, first_faulty)

pub returns-in_err-second : goal.returns-in_err-second
returns-in_err-second c =
    let p = err_from_is_err_and c.from_residual-in_err-second.result
    c.from_residual-in_err-second.ensures.1 in
    rw (p.1, p.2)
    (second_faulty c.args.at _ (map string_bytes c.args.first.now)
    (map string_bytes c.args.second.now) _
    (second_place string_bytes c.args.at c.args.first.now) c.in_ok-first.ensures.1
    c.in_err-second.ensures)

pub returns : goal.returns
returns c =
    let left = map string_bytes c.args.first.now in
    let right = map string_bytes c.args.second.now in
    let m = c.args.at + length c.args.first.now + 1 in (
      rw (c.in_ok-first.ensures.0, c.in_ok-second.ensures.0) refl,
      both_fine c.args.at m left right (second_place string_bytes c.args.at c.args.first.now)
          c.in_ok-first.ensures.1 c.in_ok-second.ensures.1,
    )
