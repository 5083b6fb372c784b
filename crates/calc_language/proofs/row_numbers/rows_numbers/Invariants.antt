use Rattle.std.proofs.Common.{◌≡◌, map, take}
use Rattle.std.specs.Prelude.{string_bytes}
use Rattle.sym_model.specs.WordForms.{numbers}
use Rattle.calc_language.specs.FoundOffences.{at_most_entry}
use Rattle.calc_language.proofs.row_numbers.rows_numbers.Given as goal

abbrev pub invariant-loop-row : goal.invariant-loop-row
invariant-loop-row l =
    map (λ r. r.items) l.numbers.items ≡ map (λ r. map at_most_entry (numbers (map string_bytes r.now))) (take l.row-index l.rows)
