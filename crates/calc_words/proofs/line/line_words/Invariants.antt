use Rattle.std.proofs.Common.{◌<◌, [], map, take, get_or, length}
use Rattle.std.specs.Prelude.{string_bytes}
use Rattle.calc_words.proofs.LineWords.{AreWordsSo}
use Rattle.calc_words.proofs.line.line_words.Given as goal

abbrev pub invariant-loop-byte : goal.invariant-loop-byte
invariant-loop-byte l =
    AreWordsSo l.line l.byte-index (take l.done (map string_bytes l.words.items)) (get_or (map string_bytes l.words.items) l.done [])
    × (l.done < length l.words.items)
