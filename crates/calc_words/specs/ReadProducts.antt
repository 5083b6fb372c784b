-- The error of a ninth factor: a product has at most eight factors.
use Rattle.std.specs.Prelude.{ℕ, ◌==◌, cond, List, [], ◌∷◌}
use Rattle.sym_model.specs.CommandOffence.{Offence, most_factors}
use Rattle.sym_model.specs.ExpressionOffence.{range}

-- if a factor is the ninth, so that `count` = 8 factors precede it: an error at the word `word`, which is in front of this factor; otherwise no error
abbrev pub ninth_offences : ℕ → ℕ → List Offence
ninth_offences count word = cond (count == most_factors) ((word, 0, range) ∷ []) []
