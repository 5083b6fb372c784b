use Rattle.std.proofs.Common.{◌≡◌, ◌+◌, ◌++◌, map, take}
use Rattle.sym_model.specs.Partition.{after}
use Rattle.stanley_expand.proofs.behind.block_behind.Given as goal

-- the list has the letters 1 to `fixed` + `from`, followed by the letters of the block visited so far, each increased by `fixed`
abbrev pub invariant-loop-letter : goal.invariant-loop-letter
invariant-loop-letter l = l.letters.items ≡ after 0 (l.fixed + l.from) ++ map (λ a. a + l.fixed) (take l.letter-index l.letter-items)
