-- Permutations in one-line form (Macdonald, Notes on Schubert polynomials, I): their letters, descents, codes,
-- transpositions and covers. Places count from 1. The number of inversions is `inversions` of specs/PlaceOrders. A
-- letter is fixed if it is equal to its place.
use Rattle.std.specs.Prelude.{◌≡◌, ℕ, suc, ◌+◌, ◌-◌, ◌<◌, ◌≤◌, max, nat_lt, ◌==◌, cond, List, []}
use Rattle.std.specs.Prelude.{◌∷◌, ◌++◌, map, length, swap, remove, slice_index, slice_index_or}
use Rattle.std.specs.Prelude.{Option, Some, None, option_map, unwrap_or, ◌⊎◌, filter}
use Rattle.std.specs.Option.{option_or}
use Rattle.sym_model.specs.Sum.{Among, Once}
use Rattle.sym_model.specs.Partition.{after}
use Rattle.sym_model.specs.PlaceOrders.{places, smaller, inversions}

-- w is a permutation of n letters: a list of n different letters, each from 1 to n
pub record IsOneLine (w : List ℕ) : Type 0 where
  pub letters : (a : ℕ) → Among a w → (1 ≤ a) × (a ≤ length w)
  pub once : Once w

-- the letter of w at place i, counted from 1; it is i if w has fewer than i letters
abbrev pub letter : List ℕ → ℕ → ℕ
letter w i = slice_index_or w (i - 1) i

-- the list w with the fixed letters length w + 1, .., n added at the end; w itself if it has n or more letters
abbrev pub with_fixed : ℕ → List ℕ → List ℕ
with_fixed n w = w ++ after (length w) (n - length w)

-- the list w with the letter a of place i added in front; if a = i and w is empty, the empty list
abbrev pub in_front_unless_fixed : ℕ → ℕ → List ℕ → List ℕ
in_front_unless_fixed i a [] = cond (a == i) [] (a ∷ [])
in_front_unless_fixed i a (b ∷ w) = a ∷ b ∷ w

-- the letters of a permutation from place i on, without the fixed letters at the end
abbrev pub without_fixed_from : ℕ → List ℕ → List ℕ
without_fixed_from i [] = []
without_fixed_from i (a ∷ w) = in_front_unless_fixed i a (without_fixed_from (i + 1) w)

-- the permutation without the fixed letters at its end; its first letter is always kept
abbrev pub kept : List ℕ → List ℕ
kept [] = []
kept (a ∷ w) = a ∷ without_fixed_from 2 w

-- w is a permutation without fixed letters at the end: it has at least one letter, and its last letter is not fixed
-- unless it is the single letter 1
pub record IsKept (w : List ℕ) : Type 0 where
  pub one_line : IsOneLine w
  pub some : 0 < length w
  pub unfixed : kept w ≡ w

-- v and w are inverse permutations of the same number of letters: if w has the letter a at place i, then v has the
-- letter i at place a
pub record AreInverse (v w : List ℕ) : Type 0 where
  pub as_long : length v ≡ length w
  pub back : (i : ℕ) → 1 ≤ i → i ≤ length w → letter v (letter w i) ≡ i
  pub forth : (i : ℕ) → 1 ≤ i → i ≤ length w → letter w (letter v i) ≡ i

-- i is a descent of w: the letter of w at place i is greater than the letter at place i + 1
pub record IsDescent (w : List ℕ) (i : ℕ) : Type 0 where
  pub counts : 1 ≤ i
  pub within : i < length w
  pub falls : letter w (i + 1) < letter w i

-- the first ascent of a permutation: the first place whose letter is smaller than the next letter; None if there is
-- no such place
abbrev pub first_ascent : List ℕ → Option ℕ
first_ascent [] = None
first_ascent (a ∷ []) = None
first_ascent (a ∷ b ∷ w) = cond (nat_lt a b) (Some 1) (option_map suc (first_ascent (b ∷ w)))

-- the last descent of a permutation: the last place whose letter is greater than the next letter; None if there is no
-- such place
abbrev pub last_descent : List ℕ → Option ℕ
last_descent [] = None
last_descent (a ∷ []) = None
last_descent (a ∷ b ∷ w) =
    option_or (option_map suc (last_descent (b ∷ w))) (cond (nat_lt b a) (Some 1) None)

-- the code of a permutation: for each place the number of smaller letters to the right (Lehmer)
abbrev pub code : List ℕ → List ℕ
code [] = []
code (a ∷ w) = smaller a w ∷ code w

-- the list is the code of a permutation: no entry is greater than the number of entries after it
abbrev pub IsCode : List ℕ → Type 0
IsCode [] = Unit {0}
IsCode (c ∷ cs) = (c ≤ length cs) × IsCode cs

-- the arrangement of the letters of the increasing list `left` that has this code: for each entry c in turn, the
-- letter with c smaller ones among the letters that remain; after the last entry, all letters that remain
abbrev pub letters_by_code : List ℕ → List ℕ → List ℕ
letters_by_code [] left = left
letters_by_code (c ∷ cs) left = slice_index left c ∷ letters_by_code cs (remove left c)

-- the permutation, without fixed letters at the end, whose code is cs up to zeros at the end; cs must be a code
-- (`IsCode`)
abbrev pub from_code : List ℕ → List ℕ
from_code cs = kept (letters_by_code cs (places (length cs)))

-- w·t_ij: the list w with the letters at places i and j exchanged
abbrev pub swapped : ℕ → ℕ → List ℕ → List ℕ
swapped i j w = swap w (i - 1) (j - 1)

-- w·s_i: the list w with the letters at places i and i + 1 exchanged
abbrev pub exchanged : ℕ → List ℕ → List ℕ
exchanged i w = swapped i (i + 1) w

-- w·t_ij for i < j: if w has fewer than j letters, fixed letters are added up to place j before the exchange; fixed
-- letters at the end of the result are dropped
abbrev pub times_swap : ℕ → ℕ → List ℕ → List ℕ
times_swap i j w = kept (swapped i j (with_fixed j w))

-- the permutations among vs that have exactly one inversion more than w
abbrev pub covers_among : List ℕ → List (List ℕ) → List (List ℕ)
covers_among w vs = filter (λ v. inversions v == inversions w + 1) vs

-- the covers w·t_rj of w with j > r, by increasing j, for j up to 1 more than the greater of r and the number of
-- letters of w
abbrev pub covers_up : ℕ → List ℕ → List (List ℕ)
covers_up r w = covers_among w (map (λ j. times_swap r j w) (after r (max (length w) r + 1 - r)))

-- the covers w·t_ir of w with i < r, by increasing i
abbrev pub covers_down : ℕ → List ℕ → List (List ℕ)
covers_down r w = covers_among w (map (λ i. times_swap i r w) (after 0 (r - 1)))

-- r is the last descent of w, and s the last place whose letter is smaller than the letter at place r (the transition
-- rule of Lascoux and Schützenberger)
pub record IsTransition (w : List ℕ) (r s : ℕ) : Type 0 where
  pub descent : last_descent w ≡ Some r
  pub counts : 1 ≤ s
  pub smaller : letter w s < letter w r
  pub last : (j : ℕ) → s < j → letter w r ≤ letter w j

-- the last descent of w; 0 if w has no descent
abbrev pub last_descent_place : List ℕ → ℕ
last_descent_place w = unwrap_or (last_descent w) 0

-- v is lower than w in the order that decreases with each transition: v has fewer inversions than w; or equally many
-- and an earlier last descent; or equally many, the same last descent, and a smaller letter at this place
abbrev pub IsLower : List ℕ → List ℕ → Type 0
IsLower v w =
    (inversions v < inversions w)
    ⊎ ((inversions v ≡ inversions w)
    × ((last_descent_place v < last_descent_place w)
    ⊎ ((last_descent_place v ≡ last_descent_place w)
    × (letter v (last_descent_place v) < letter w (last_descent_place w)))))
