-- Monk's rule on lists of permutations with integer coefficients.
use Rattle.std.specs.Prelude.{ℕ, ℤ, pos, negsuc, ◌-ℤ◌, List, ◌++◌}
use Rattle.sym_model.specs.Sum.{total}
use Rattle.sym_model.specs.Permutation.{covers_up, covers_down}
use Rattle.sym_model.specs.WholeTerms.{WholeTerms}
use Rattle.linear_combinations.specs.Gains.{each_with}

-- the terms of x_r·S_w in Monk's rule: each cover w·t_rj of w with j > r has the coefficient 1, and each cover w·t_ir with i < r the coefficient -1
abbrev pub monk_terms : ℕ → List ℕ → WholeTerms
monk_terms r w = each_with (pos 1) (covers_up r w) ++ each_with (negsuc 0) (covers_down r w)

-- the sum of φ over the covers w·t_rj with j > r minus its sum over the covers w·t_ir with i < r
abbrev pub over_covers : ℕ → (List ℕ → ℤ) → List ℕ → ℤ
over_covers r φ w = total φ (covers_up r w) -ℤ total φ (covers_down r w)
