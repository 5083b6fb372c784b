use Rattle.std.proofs.Common.{◌≤◌, map, length, sym, arith, rules}
use Rattle.std.proofs.lemmas.List.{take_all}
use Rattle.calc_language.proofs.ReadTableaux.{row_within, few_letters}
use Rattle.calc_language.proofs.pairs.straight.Goals as goal
use Rattle.tableau_iter.proofs.RowLengths.{length_at}

pub overflow_cast-len : goal.overflow_cast-len
overflow_cast-len c =
    let i = c.loop-row.row-index in
    let rows = map (λ r. r.items) c.args.rows.now in
    let is : length c.row-item.result.items ≤ 256 =
    omega (
      arith,
      sym (length_at (λ r. r.items) c.args.rows.now i c.row-item.result c.loop-row-test.true c.row-item.is),
      row_within rows i c.requires.few,
    ) in
    omega (arith, c.len.ensures, is)

pub from_valid_parts-requires : goal.from_valid_parts-requires
from_valid_parts-requires c = search (rules, take_all, few_letters)
