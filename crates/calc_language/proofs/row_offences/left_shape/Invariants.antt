use Rattle.std.proofs.Common.{◌≡◌, ◌+◌, ◌<◌, ◌^◌, map, length, drop}
use Rattle.std.specs.Prelude.{string_bytes}
use Rattle.sym_model.specs.CommandOffence.{first_offence}
use Rattle.word_laws.specs.WrittenRows.{further_text, left_at}
use Rattle.calc_language.proofs.row_offences.left_shape.Given as goal

abbrev pub invariant-loop-i : goal.invariant-loop-i
invariant-loop-i l =
    (first_offence (left_at l.at l.lengths (map (λ r. map string_bytes r.now) l.rows))
    ≡ first_offence (left_at l.place l.left (drop l.i (map (λ r. map string_bytes r.now) l.rows))))
    × (l.place + length (further_text (drop l.i (map (λ r. map string_bytes r.now) l.rows))) < 2 ^ 64)
    × (0 < length l.left)
