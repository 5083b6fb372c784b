use Rattle.std.proofs.Common.{◌≡◌, ℕ, ◌==◌, List, [], ◌∷◌, refl, ◌∙◌, rules}
use Rattle.std.specs.List.{list_any}
use Rattle.sym_model.specs.CommandOffence.{stands_in}
use Rattle.calc_words.proofs.permutation_list.stands_in.Goals as goal
use Rattle.sym_model.proofs.Numbers.{equal-sym}

any_stands : (a : ℕ) (ns : List ℕ) → list_any (λ b. b == a) ns ≡ stands_in a ns
any_stands a [] = refl
any_stands a (b ∷ ns) = search (rules, equal-sym, (any_stands a ns))

pub returns : goal.returns
returns c = c.contains.ensures.value ∙ any_stands c.args.letter c.args.letters.now
