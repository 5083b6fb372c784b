use Rattle.std.proofs.Common.{◌≡◌, take, length, filter}
use Rattle.sym_model.specs.Polynomial.{same}
use Rattle.sym_model.specs.Schur.{content}
use Rattle.plain_programs.specs.Words.{words_of}
use Rattle.plain_programs.proofs.tableau_lists.those_with_content.Given as goal

abbrev pub invariant-loop-word : goal.invariant-loop-word
invariant-loop-word l = words_of l.list.items ≡ filter (λ w. same (content (length l.counts) w) l.counts) (words_of (take l.word-index l.words))
