use Rattle.std.proofs.Common.{map}
use Rattle.std.specs.Prelude.{string_bytes}
use Rattle.sym_model.specs.WordForms.{numbers}
use Rattle.calc_words.proofs.Judging.{Judging}
use Rattle.calc_words.proofs.partition_list.read_partition.Given as goal

abbrev pub invariant-loop-count : goal.invariant-loop-count
invariant-loop-count l = Judging l.at (numbers (map string_bytes l.words)) l.count l.cells l.last l.parts
