use Rattle.std.proofs.Common.{map}
use Rattle.std.specs.Prelude.{string_bytes}
use Rattle.sym_model.specs.WordForms.{numbers}
use Rattle.calc_words.proofs.LetterJudging.{Hearing}
use Rattle.calc_words.proofs.permutation_list.read_permutation.Given as goal

abbrev pub invariant-loop-i : goal.invariant-loop-i
invariant-loop-i l = Hearing l.most l.at (numbers (map string_bytes l.words)) l.i l.letters
