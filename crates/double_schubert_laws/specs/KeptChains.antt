-- Chains of covers, as in specs/Chains of `schubert_laws`, of permutations that are written without fixed letters at the end. A fixed letter is equal
-- to its place. Places count from 1.
use Rattle.std.specs.Prelude.{ℕ, zero, suc, ◌+◌, nat_lt, cond, List, [], ◌∷◌, ◌++◌, map, flat_map}
use Rattle.std.specs.Prelude.{filter, length, take}
use Rattle.sym_model.specs.PlaceOrders.{places}
use Rattle.sym_model.specs.Permutation.{with_fixed, times_swap, covers_among}
use Rattle.schubert_laws.specs.Chains.{letters_before}

-- the covers w·t_ab of w with a ≤ k < b, b being the place of the letter m; w has N letters, fixed ones at the end included
abbrev pub kept_lifted : ℕ → ℕ → ℕ → List ℕ → List (List ℕ)
kept_lifted k m N w =
    cond (nat_lt (letters_before m (with_fixed N w)) k) []
    (covers_among w
    (map (λ a. times_swap a (letters_before m (with_fixed N w) + 1) w) (places k)))

-- the last permutations of the chains of d covers w → w·t_ab → .. with a ≤ k < b in each, in which the greater letters of the exchanged pairs
-- decrease strictly, from at most m on; each permutation has N letters, fixed ones at the end included
abbrev pub kept_chains : ℕ → ℕ → ℕ → ℕ → List ℕ → List (List ℕ)
kept_chains zero zero k N w = w ∷ []
kept_chains zero (suc d) k N w = []
kept_chains (suc m) zero k N w = kept_chains m zero k N w
kept_chains (suc m) (suc d) k N w =
    kept_chains m (suc d) k N w ++ flat_map (λ v. kept_chains m d k N v) (kept_lifted k (suc m) N w)

-- the number of letters less than m among the first k letters of w
abbrev pub less_among : ℕ → ℕ → List ℕ → ℕ
less_among k m w = length (filter (λ a. nat_lt a m) (take k w))
