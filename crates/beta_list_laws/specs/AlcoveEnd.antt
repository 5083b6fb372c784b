-- Reflections into the alcove (Kac and Walton): while the first entry of a strictly decreasing list exceeds the last by more than n, n is subtracted
-- from the first and added to the last, and the list is sorted. If the reduction is not 0, the list at which the reflections end has the sum of the
-- given list and the same remainders modulo n, and its first entry exceeds its last by less than n.
use Rattle.std.specs.Prelude.{◌≡◌, ℕ, zero, suc, ◌+◌, ◌%◌, ◌<◌, ◌==◌, cond, List, [], ◌∷◌, map}
use Rattle.sym_model.specs.Partition.{size}
use Rattle.sym_model.specs.BetaList.{sorted_falling}
use Rattle.sym_model.specs.AlcoveReduction.{spread}
use Rattle.beta_list_laws.specs.StrictFall.{FallsStrictly}

-- the list of the remainders modulo n of the entries of a list
abbrev pub remainders : ℕ → List ℕ → List ℕ
remainders n b = map (λ x. x % n) b

-- `match_in n c x`: the first entry of the list c that leaves the same remainder modulo n as x; 0 if c has no such entry
abbrev pub match_in : ℕ → List ℕ → ℕ → ℕ
match_in n [] x = 0
match_in n (y ∷ c) x = cond (y % n == x % n) y (match_in n c x)

-- c is strictly decreasing, has the same sum as b and, up to their order, the same remainders modulo n, and its first entry exceeds its last by less
-- than n
pub record IsAlcoveEnd (n : ℕ) (b c : List ℕ) : Type 0 where
  pub strict : FallsStrictly c
  pub sum : size c ≡ size b
  pub alike : sorted_falling (remainders n c) ≡ sorted_falling (remainders n b)
  pub narrow : spread c < n

-- `past n t u` is t + n if u = t, and u otherwise. If u is the least number ≥ t with some remainder modulo n, `past n t u` is the least number > t
-- with this remainder
abbrev pub past : ℕ → ℕ → ℕ → ℕ
past n t u = cond (u == t) (t + n) u

-- `up n t x`: the least number ≥ t that leaves the same remainder modulo n as x
abbrev pub up : ℕ → ℕ → ℕ → ℕ
up n zero x = x % n
up n (suc t) x = past n t (up n t x)
