-- The words that pass a test, in increasing lexicographic order: those that continue a prefix, and those after a given word.
use Rattle.std.specs.Prelude.{ℕ, ◌-◌, Bool, List, [], ◌∷◌, ◌++◌, map, length, filter, flat_map}
use Rattle.sym_model.specs.Partition.{after}
use Rattle.sym_model.specs.Schur.{words}

-- the words w of n letters from 1 to k such that `front` followed by w passes the test
abbrev pub completions : (List ℕ → Bool) → ℕ → ℕ → List ℕ → List (List ℕ)
completions test k n front = filter (λ w. test (front ++ w)) (words k n)

-- the words w of n + 1 letters from 1 to k, with a first letter greater than a, such that `front` followed by w passes
-- the test
abbrev pub continued : (List ℕ → Bool) → ℕ → ℕ → List ℕ → ℕ → List (List ℕ)
continued test k n front a =
    flat_map (λ b. map (λ w. b ∷ w) (completions test k n (front ++ b ∷ []))) (after a (k - a))

-- the words v with letters from 1 to k, of the length of w and after w in lexicographic order, such that `front` followed by v passes the test: first
-- those with the first letter of w, then those with a greater one
unfoldable pub later : (List ℕ → Bool) → ℕ → List ℕ → List ℕ → List (List ℕ)
later test k front [] = []
later test k front (a ∷ w) =
    map (λ v. a ∷ v) (later test k (front ++ a ∷ []) w) ++ continued test k (length w) front a
