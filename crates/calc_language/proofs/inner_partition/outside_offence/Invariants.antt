use Rattle.std.proofs.Common.{◌≡◌, map}
use Rattle.std.specs.Prelude.{string_bytes}
use Rattle.sym_model.specs.CommandOffence.{first_offence, offences_by, inside_rule}
use Rattle.sym_model.specs.WordForms.{numbers}
use Rattle.calc_language.proofs.CellJudging.{from_place}
use Rattle.calc_language.proofs.inner_partition.outside_offence.Given as goal

abbrev pub invariant-loop-place : goal.invariant-loop-place
invariant-loop-place l =
    first_offence (offences_by (inside_rule l.outer) l.at (numbers (map string_bytes l.words))) ≡ from_place (inside_rule l.outer) l.at (numbers (map string_bytes l.words)) l.place
