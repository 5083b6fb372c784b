use Rattle.std.proofs.Common.{◌≡◌, take}
use Rattle.expression_laws.specs.LeftToRight.{start}
use Rattle.expression_laws.proofs.PhraseRuns.{read_on}
use Rattle.expression_reading.specs.Building.{state_of}
use Rattle.expression_reading.proofs.BuildRuns.{tree_state}
use Rattle.expression_reading.proofs.builder.build.Given as goal

abbrev pub invariant-loop-byte : goal.invariant-loop-byte
invariant-loop-byte l = state_of l.builder ≡ tree_state (read_on (take l.byte-index l.word) start)
