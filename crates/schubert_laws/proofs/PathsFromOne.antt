-- Every path of divided differences gives the same Schubert polynomial: with places counted from 1, as `path_law` states it.
use Rattle.std.proofs.Common.{ℕ, ◌+◌, ◌<◌, List, [], ◌∷◌, ◌++◌, length, arith, rules}
use Rattle.std.proofs.lemmas.List.Edits.{length-swap}
use Rattle.sym_model.specs.DividedDifference.{divided_difference}
use Rattle.sym_model.specs.Sum.{Among}
use Rattle.sym_model.specs.Polynomial.{Same, restrict}
use Rattle.sym_model.specs.Permutation.{IsOneLine, IsDescent, exchanged}
use Rattle.sym_model.specs.Schubert.{schubert, schubert_in}
use Rattle.sym_model.proofs.Polynomials.{same_of_equal}
use Rattle.schubert_laws.proofs.Paths.{any_descent}
use Rattle.schubert_laws.proofs.FixedLetters.{last_letter, last_letter_in}

pub descent_from_one : (w : List ℕ) (i : ℕ) → IsDescent w i → Same (divided_difference i (schubert w)) (schubert (exchanged i w))
descent_from_one w i d = search (rules, any_descent, same_of_equal, length-swap)

pub below_next : (w : List ℕ) → IsOneLine w → (a : ℕ) → Among a w → a < length w + 1
below_next w o a m = let h = (o.letters a m).1 in omega arith

pub fixed_letter : (w : List ℕ) → IsOneLine w → Same (schubert (w ++ ((length w + 1) ∷ []))) (restrict (length w + 1) (schubert w))
fixed_letter w o = search (rules, last_letter, below_next)

pub fixed_letter_in : (w : List ℕ) (n : ℕ) → IsOneLine w → Same (schubert_in (w ++ ((length w + 1) ∷ [])) n) (schubert_in w n)
fixed_letter_in w n o = last_letter_in (length w + 1) w n o.once (below_next w o)
