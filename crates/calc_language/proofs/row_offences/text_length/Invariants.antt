use Rattle.std.proofs.Common.{◌≡◌, ◌+◌, map, length, drop}
use Rattle.std.specs.Prelude.{string_bytes}
use Rattle.word_laws.specs.WrittenRows.{further_text}
use Rattle.calc_language.proofs.row_offences.text_length.Given as goal

abbrev pub invariant-loop-row : goal.invariant-loop-row
invariant-loop-row l =
    l.words + length (further_text (drop l.row-index (map (λ r. map string_bytes r.now) l.rows))) ≡ length (further_text (map (λ r. map string_bytes r.now) l.rows))
