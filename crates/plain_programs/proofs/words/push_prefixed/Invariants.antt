use Rattle.std.proofs.Common.{◌≡◌, ◌∷◌, ◌++◌, map, take}
use Rattle.plain_programs.specs.Words.{words_of}
use Rattle.plain_programs.proofs.words.push_prefixed.Given as goal

abbrev pub invariant-loop-word : goal.invariant-loop-word
invariant-loop-word l = words_of l.list.items ≡ words_of l.fn.list.items ++ map (λ w. l.first ∷ w) (words_of (take l.word-index l.words))
