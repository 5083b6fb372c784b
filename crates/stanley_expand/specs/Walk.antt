-- Tables of permutations with counts, namely of those that the transition rule has still to expand; and the sum of the
-- Schur polynomials found so far.
use Rattle.std.specs.Prelude.{◌≡◌, ℕ, ◌+◌, ◌-◌, ◌*◌, ◌^◌, ◌≤◌, ◌≤ℤ◌, ◌+ℤ◌, ℤ, pos, nat_eq, nat_lt}
use Rattle.std.specs.Prelude.{FitsSigned, List, [], cond, length, get_or}
use Rattle.std.specs.Int.{w128}
use Rattle.std.specs.Cmp.Lexicographic.{pointwise}
use Rattle.std.specs.List.{IsDistinct}
use Rattle.std.specs.Map.{keys_of}
use Rattle.sym_model.specs.Sum.{total}
use Rattle.sym_model.specs.Partition.{IsPartition, rows}
use Rattle.sym_model.specs.Polynomial.{pair}
use Rattle.sym_model.specs.Schur.{schur}
use Rattle.sym_model.specs.Schubert.{schubert_in}
use Rattle.sym_model.specs.WholeTerms.{WholeTerms, AreCounts}
use Rattle.sym_model.specs.Permutation.{letter, last_descent_place}
use Rattle.linear_combinations.specs.Entries.{AreHeld, IsWholeTable}
use Rattle.linear_combinations.specs.Gains.{over, only, HaveLabels}
use Rattle.stanley_expand.specs.Grassmannian.{IsRising}
use Rattle.stanley_expand.specs.SchurPositive.{schur_test}

-- the number of the table in which a permutation w is kept: (r - m)·81 + w(r), if the last descent r of w is after
-- place m, and 0 otherwise
abbrev pub number : ℕ → List ℕ → ℕ
number m p = cond (nat_lt m (last_descent_place p))
    ((last_descent_place p - m) * 81 + letter p (last_descent_place p)) 0

-- the permutation p is increasing at the places 1 to m and has at most m + 16 letters, and the number of its table is
-- `at`
pub record WaitsAt (m at : ℕ) (p : List ℕ) : Type 0 where
  pub rising : IsRising m (m + 16) p
  pub here : number m p ≡ at

-- each coefficient fits in 128 bits with a sign
abbrev pub IsHeld : WholeTerms → Type 0
IsHeld sum = AreHeld (pointwise nat_eq) (pos 0) (FitsSigned w128) sum

-- `sum` is a table of partitions with at most m rows; its coefficients are not negative and fit in 128 bits with a
-- sign
pub record AreShapes (m : ℕ) (sum : WholeTerms) : Type 0 where
  pub table : IsWholeTable sum
  pub held : IsHeld sum
  pub few : HaveLabels (λ κ. rows κ ≤ m) sum
  pub natural : (κ : List ℕ) → pos 0 ≤ℤ over (only (pointwise nat_eq) κ) sum

-- tables of permutations with counts, listed by their numbers from 0: each permutation is in the table of its number,
-- at most once, and each count is at least 0 and fits in 128 bits with a sign
pub record AreWaiting (m : ℕ) (todo : List WholeTerms) : Type 0 where
  pub labels : (at : ℕ) → HaveLabels (WaitsAt m at) (get_or todo at [])
  pub counts : (at : ℕ) → AreCounts (get_or todo at [])
  pub distinct : (at : ℕ) → IsDistinct (pointwise nat_eq) (keys_of (get_or todo at []))
  pub held : (at : ℕ) → IsHeld (get_or todo at [])

-- the sum of k·c·φ(α) over all permutations p of the tables, each with its count k, and over the terms c·x^α of the
-- Schubert polynomial S_p in m variables
abbrev pub waited : ℕ → (List ℕ → ℤ) → List WholeTerms → ℤ
waited m φ todo = total (λ table. over (λ p. pair (schubert_in p m) φ) table) todo

-- the sum of k·c·φ(α) over the terms (κ, k) of `sum` and over the terms c·x^α of s_κ in m variables, plus the sum
-- `waited m φ todo` over the permutations of the tables
abbrev pub walked : ℕ → (List ℕ → ℤ) → WholeTerms → List WholeTerms → ℤ
walked m φ sum todo = over (λ κ. pair (schur κ m) φ) sum +ℤ waited m φ todo

-- a step from `sum` and the tables `todo` to `sum2` and the tables `todo2`: for every φ, `walked` increases by `more φ`;
-- the number of tables stays the same, and the invariants `AreWaiting` of the tables and `AreShapes` of the sum are kept
pub record IsWorkedOff (m : ℕ) (sum : WholeTerms) (todo : List WholeTerms)
    (more : (List ℕ → ℤ) → ℤ) (sum2 : WholeTerms) (todo2 : List WholeTerms) : Type 0 where
  pub value : (φ : List ℕ → ℤ) → walked m φ sum2 todo2 ≡ walked m φ sum todo +ℤ more φ
  pub tables : length todo2 ≡ length todo
  pub waiting : AreWaiting m todo → AreWaiting m todo2
  pub shapes : AreShapes m sum → AreShapes m sum2

-- the statement that a polynomial f in m variables has a Schur coefficient of 2^127 or more at some partition of at most m
-- rows; f is given by the function `sum` that takes φ to the sum of c·φ(α) over the terms c·x^α of f
abbrev pub HasLargeShape : ℕ → ((List ℕ → ℤ) → ℤ) → Type 0
HasLargeShape m sum =
    (κ : List ℕ) × IsPartition κ × (rows κ ≤ m) × (pos (2 ^ 127) ≤ℤ sum (schur_test m κ))

-- the statement that, if the tables `todo` and `sum` satisfy their invariants, the polynomial that they add up to
-- (`walked`), plus the polynomial given by `more`, has a Schur coefficient of 2^127 or more (`HasLargeShape`)
abbrev pub OverflowsWith : ℕ → WholeTerms → List WholeTerms → ((List ℕ → ℤ) → ℤ) → Type 0
OverflowsWith m sum todo more = AreWaiting m todo → AreShapes m sum
    → HasLargeShape m (λ φ. walked m φ sum todo +ℤ more φ)
