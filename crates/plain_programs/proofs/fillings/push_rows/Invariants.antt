use Rattle.std.proofs.Common.{◌≡◌, ◌++◌, take}
use Rattle.plain_programs.specs.Words.{words_of}
use Rattle.plain_programs.proofs.fillings.push_rows.Given as goal

abbrev pub invariant-loop-row : goal.invariant-loop-row
invariant-loop-row l = words_of l.list.items ≡ words_of l.fn.list.items ++ words_of (take l.row-index l.rows)
