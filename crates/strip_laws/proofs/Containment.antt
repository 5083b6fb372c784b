-- Three equivalent ways to say that the shape `inner` lies inside the shape `outer`: by their parts (`Holds`), by their cells, and by a test.
--     `contains-tells`, `contains-from`  the test `contains` is true if and only if no part of inner is greater than the same part of outer
--     `cells-from`, `cells-tell`         no part of inner is greater than the same part of outer if and only if each cell of inner is a cell of outer
--     `cell`                             row i of outer/inner has a cell in each column from (part i of inner) + 1 to (part i of outer)
--     `Holds_below`, `Holds-..`          what follows if inner lies inside outer, such as: inner has at most as many cells as outer
use Rattle.std.proofs.Common.{◌≡◌, ◌⊎◌, ℕ, zero, suc, ◌+◌, ◌-◌, ◌<◌, ◌≤◌, true, cond, List, [], ◌∷◌, drop, get_or, leb, eqb, subst, refl, inl, inr, arith, ap, ap₂, rules}
use Rattle.std.proofs.lemmas.Bool.{cases_lt, eq-eqb, leb-true, le-leb, lt-leb, and_parts, and_from}
use Rattle.sym_model.specs.Partition.{part, size, ArePositive, Holds, IsCell}
use Rattle.sym_model.specs.Conjugate.{count_from}
use Rattle.sym_model.proofs.Parts.{size-first}
use Rattle.sym_model.specs.Schur.{contains}

-- each entry of the list `inner` is at most the entry of the list `outer` at the same index, with 0 for missing entries
abbrev Under : List ℕ → List ℕ → Type 0
Under outer inner = (j : ℕ) → get_or inner j 0 ≤ get_or outer j 0

under-from_test : (outer inner : List ℕ) → contains outer inner ≡ true → Under outer inner
under-from_test outer [] h j = omega arith
under-from_test [] (b ∷ inner) h zero = search rules
under-from_test [] (b ∷ inner) h (suc j) = under-from_test [] inner (and_parts (eqb b 0) (contains [] inner) h).1 j
under-from_test (a ∷ outer) (b ∷ inner) h zero = leb-true b a (and_parts (leb b a) (contains outer inner) h).0
under-from_test (a ∷ outer) (b ∷ inner) h (suc j) = under-from_test outer inner (and_parts (leb b a) (contains outer inner) h).1 j

pub contains_from_places : (outer inner : List ℕ) → ((j : ℕ) → get_or inner j 0 ≤ get_or outer j 0) → contains outer inner ≡ true
contains_from_places outer [] h = refl
contains_from_places [] (b ∷ inner) h =
    let e : b ≡ 0 = (let l = h 0 in omega (arith, l)) in
    and_from (eqb b 0) (contains [] inner) (eq-eqb b 0 e) (contains_from_places [] inner (λ j. h (suc j)))
contains_from_places (a ∷ outer) (b ∷ inner) h =
    and_from (leb b a) (contains outer inner) (le-leb b a (h 0)) (contains_from_places outer inner (λ j. h (suc j)))

pub contains-tells : (outer inner : List ℕ) → contains outer inner ≡ true → Holds outer inner
contains-tells outer inner h i = under-from_test outer inner h (i - 1)

pub contains-from : (outer inner : List ℕ) → Holds outer inner → contains outer inner ≡ true
contains-from outer inner h =
    contains_from_places outer inner (λ j.
    let e : j + 1 - 1 ≡ j = omega arith in
    subst (λ k. get_or inner k 0 ≤ get_or outer k 0) e (h (j + 1)))

pub cells-from : (outer inner : List ℕ) → Holds outer inner → (row column : ℕ) → IsCell inner [] row column → IsCell outer [] row column
cells-from outer inner h row column c = search rules

row_within : (outer inner : List ℕ) → ((row column : ℕ) → IsCell inner [] row column → IsCell outer [] row column) → (i : ℕ) → 1 ≤ i → part inner i ≤ part outer i
row_within outer inner h i n = elim (cases_lt 0 (part inner i)) [
  | inl l ↦ (h i (part inner i) (record { row_counts = n; outside = l; within = omega arith })).within
  | inr l ↦ omega (arith, l)
]

pub cells-tell : (outer inner : List ℕ) → ((row column : ℕ) → IsCell inner [] row column → IsCell outer [] row column) → Holds outer inner
cells-tell outer inner h zero = row_within outer inner h 1 (omega arith)
cells-tell outer inner h (suc i) = row_within outer inner h (suc i) (omega arith)

pub Holds-get_or : (outer inner : List ℕ) → Holds outer inner → (i : ℕ) → get_or inner i 0 ≤ get_or outer i 0
Holds-get_or outer inner h i =
    let e : i + 1 - 1 ≡ i = omega arith in
    subst (λ k. get_or inner k 0 ≤ get_or outer k 0) e (h (i + 1))

pub cell : (outer inner : List ℕ) (row column : ℕ) → 1 ≤ row → part inner row < column → column ≤ part outer row → IsCell outer inner row column
cell outer inner row column a b c = record { row_counts = a; outside = b; within = c }

pub get_or-below : (parts : List ℕ) (n : ℕ) → get_or (drop 1 parts) n 0 ≡ get_or parts (suc n) 0
get_or-below [] zero = refl
get_or-below [] (suc n) = refl
get_or-below (a ∷ parts) n = refl

pub Holds_below : (outer inner : List ℕ) → Holds outer inner → Holds (drop 1 outer) (drop 1 inner)
Holds_below outer inner h i = search (rules, get_or-below, Holds-get_or)

pub Holds-size : (outer inner : List ℕ) → Holds outer inner → size inner ≤ size outer
Holds-size outer [] h = omega arith
Holds-size outer (b ∷ inner) h =
    omega (arith, h 1, Holds-size (drop 1 outer) inner (Holds_below outer (b ∷ inner) h), size-first outer)

-- if outer contains inner and the two shapes have the same size, then they are equal
pub Holds-same_size : (outer inner : List ℕ) → ArePositive outer → ArePositive inner → Holds outer inner → size outer ≡ size inner → outer ≡ inner
Holds-same_size [] [] p q h e = refl
Holds-same_size [] (b ∷ inner) p q h e = absurd (omega (arith, q.0))
Holds-same_size (a ∷ outer) [] p q h e = absurd (omega (arith, p.0))
Holds-same_size (a ∷ outer) (b ∷ inner) p q h e =
    let below = Holds_below (a ∷ outer) (b ∷ inner) h in
    let l = Holds-size outer inner below in
    let f = h 1 in
    ap₂ ◌∷◌ (omega arith) (Holds-same_size outer inner p.1 q.1 below (omega arith))

-- if outer contains inner and k > 0, outer has at least as many rows of length k or more as inner
pub Holds-count_from : (k : ℕ) (outer inner : List ℕ) → 0 < k → Holds outer inner → count_from k inner ≤ count_from k outer
Holds-count_from k outer [] p h = omega arith
Holds-count_from k [] (b ∷ inner) p h =
    let l = h 1 in
    let f = ap (λ t. cond {A = ℕ} t 1 0) (lt-leb k b (omega arith)) in
    omega (arith, Holds-count_from k [] inner p (Holds_below [] (b ∷ inner) h))
Holds-count_from k (a ∷ outer) (b ∷ inner) p h =
    by (cases_lt b k) (Holds-count_from k outer inner p (Holds_below (a ∷ outer) (b ∷ inner) h))
  where
    by : (b < k) ⊎ (k ≤ b) → count_from k inner ≤ count_from k outer
        → cond {A = ℕ} (leb k b) 1 0 + count_from k inner ≤ cond {A = ℕ} (leb k a) 1 0 + count_from k outer
    by (inl s) r = let f = ap (λ t. cond {A = ℕ} t 1 0) (lt-leb k b s) in omega arith
    by (inr s) r =
        let f = ap (λ t. cond {A = ℕ} t 1 0) (le-leb k b s) in
        let g = ap (λ t. cond {A = ℕ} t 1 0) (le-leb k a (omega (arith, h 1))) in
        omega arith
