-- Sums of terms f_w·S_w, with S_w a double Schubert polynomial and f_w a polynomial in y: lists of permutations w,
-- each with f_w, a list of monomials with 32 exponents and integer coefficients.
use Rattle.std.specs.Prelude.{ℕ, ◌≤◌, ◌<◌, ℤ, pos, negsuc, List, [], ◌∷◌, ◌++◌}
use Rattle.sym_model.specs.DividedDifference.{raised}
use Rattle.sym_model.specs.Partition.{size, without_last_zeros}
use Rattle.sym_model.specs.Permutation.{letter, covers_up, covers_down}
use Rattle.linear_combinations.specs.Gains.{WholeTermsOf, replaced}
use Rattle.transition_walk.specs.Waiting.{WithList, each_waits}

-- a polynomial in y: a list of terms, each with the exponents of its monomial and an integer coefficient
abbrev pub InY : Type 0
InY = WholeTermsOf (List ℕ)

-- a function φ of pairs (w, e) of a permutation and a monomial, as a function of the two arguments w and e
abbrev pub at_pairs : (List ℕ × List ℕ → ℤ) → List ℕ → List ℕ → ℤ
at_pairs φ w e = φ (w, e)

-- `at_general φ w e`: the value of φ at the pair (w, e'), with e' the list e without the zeros at its end
abbrev pub at_general : (List ℕ × List ℕ → ℤ) → List ℕ → List ℕ → ℤ
at_general φ w e = φ (w, without_last_zeros e)

-- the function of a permutation and a monomial that is always 1; with it, `growth` is the sum of the absolute values
-- of all coefficients
abbrev pub one_each : List ℕ → List ℕ → ℕ
one_each w e = 1

-- the product of y^e with 1 (`plus_terms`), with -1 (`minus_terms`) and with y_a - y_c (`difference_terms`), each as
-- a list of terms
abbrev pub plus_terms : List ℕ → InY
plus_terms e = (e, pos 1) ∷ []

abbrev pub minus_terms : List ℕ → InY
minus_terms e = (e, negsuc 0) ∷ []

abbrev pub difference_terms : ℕ → ℕ → List ℕ → InY
difference_terms a c e = (raised a e, pos 1) ∷ (raised c e, negsuc 0) ∷ []

-- y_a and y_c are among 32 variables, and the degree of y^e is at most 254
pub record HasRoomFor (a c : ℕ) (e : List ℕ) : Type 0 where
  pub first : 1 ≤ a
  pub last : a ≤ 32
  pub column : 1 ≤ c
  pub last_column : c ≤ 32
  pub room : size e < 255

-- the product of x_r - y_c and f·S_w, by Monk's rule: f at the covers w·t_rj with j > r, -f at the covers w·t_ir with
-- i < r, and (y_w(r) - y_c)·f at w
abbrev pub factor_lists : ℕ → ℕ → WithList (List ℕ) → List (WithList (List ℕ))
factor_lists r c term =
    each_waits (replaced plus_terms term.factor) (covers_up r term.perm)
    ++ (each_waits (replaced minus_terms term.factor) (covers_down r term.perm)
    ++ (record {
      perm = term.perm;
      factor = replaced (difference_terms (letter term.perm r) c) term.factor;
    }) ∷ [])
