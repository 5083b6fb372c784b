use Rattle.std.proofs.Common.{map, take}
use Rattle.std.specs.Prelude.{string_bytes}
use Rattle.sym_model.specs.Form.{EachOf}
use Rattle.calc_words.specs.FactorWords.{IsPieceWord}
use Rattle.calc_words.proofs.word_parts.pieces.Given as goal

abbrev pub invariant-loop-count : goal.invariant-loop-count
invariant-loop-count l = EachOf IsPieceWord (map string_bytes (take l.count l.words))
