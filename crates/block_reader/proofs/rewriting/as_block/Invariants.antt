use Rattle.std.proofs.Common.{◌≡◌, ◌++◌, true, drop}
use Rattle.block_reader.specs.Lines.{block_from}
use Rattle.block_reader.proofs.rewriting.as_block.Given as goal

-- the block written so far, followed by the block for the bytes that are still to be read, is the block for the whole text
abbrev pub invariant-loop-byte : goal.invariant-loop-byte
invariant-loop-byte l = l.block.items ++ block_from l.bare (drop l.byte-index l.text) ≡ block_from true l.text
