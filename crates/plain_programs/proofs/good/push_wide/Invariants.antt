use Rattle.std.proofs.Common.{◌≡◌, ◌++◌, take}
use Rattle.plain_programs.proofs.good.push_wide.Given as goal

abbrev pub invariant-loop-number : goal.invariant-loop-number
invariant-loop-number l = l.list.items ≡ l.fn.list.items ++ take l.number-index l.numbers
