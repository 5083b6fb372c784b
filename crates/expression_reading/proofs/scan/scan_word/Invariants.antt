use Rattle.std.proofs.Common.{take}
use Rattle.expression_laws.specs.LeftToRight.{start}
use Rattle.expression_laws.proofs.PhraseRuns.{read_on}
use Rattle.expression_reading.proofs.ScanRuns.{Keeps}
use Rattle.expression_reading.proofs.scan.scan_word.Given as goal

abbrev pub invariant-loop-i : goal.invariant-loop-i
invariant-loop-i l = Keeps l.scan (read_on (take l.i l.word) start)
