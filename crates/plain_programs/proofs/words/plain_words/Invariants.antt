use Rattle.std.proofs.Common.{◌≡◌}
use Rattle.sym_model.specs.Schur.{words}
use Rattle.plain_programs.specs.Words.{words_of}
use Rattle.plain_programs.proofs.words.plain_words.Given as goal

abbrev pub invariant-loop-done : goal.invariant-loop-done
invariant-loop-done l = words_of l.list.items ≡ words l.n l.done
