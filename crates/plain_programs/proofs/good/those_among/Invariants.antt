use Rattle.std.proofs.Common.{◌≡◌, take, filter}
use Rattle.sym_model.specs.GoodTableau.{is_among}
use Rattle.plain_programs.specs.Words.{words_of}
use Rattle.plain_programs.proofs.good.those_among.Given as goal

abbrev pub invariant-loop-word : goal.invariant-loop-word
invariant-loop-word l = words_of l.list.items ≡ filter (λ w. is_among w (words_of l.readings)) (words_of (take l.word-index l.words))
