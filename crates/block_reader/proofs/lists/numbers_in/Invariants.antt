use Rattle.std.proofs.Common.{◌≡◌, ◌++◌, map, length}
use Rattle.sym_model.specs.NumberText.{decimal_value, split_at}
use Rattle.block_reader.proofs.lists.numbers_in.Given as goal

-- the numbers that were read so far, followed by those of the rest of the text, are the numbers of the text
abbrev pub invariant-loop-number : goal.invariant-loop-number
invariant-loop-number l = l.numbers.items ++ map decimal_value (split_at 44 l.rest) ≡ map decimal_value (split_at 44 l.text)

abbrev pub decreases-loop-number : goal.decreases-loop-number
decreases-loop-number l = length l.rest
