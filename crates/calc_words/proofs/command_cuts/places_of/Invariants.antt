use Rattle.std.proofs.Common.{map}
use Rattle.std.specs.Prelude.{string_bytes}
use Rattle.calc_words.specs.Parts.{IsCutTo}
use Rattle.calc_words.proofs.command_cuts.places_of.Given as goal

abbrev pub invariant-loop-i : goal.invariant-loop-i
invariant-loop-i l = IsCutTo l.parts l.i l.at l.places (map string_bytes l.words)
