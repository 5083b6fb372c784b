-- The blocks of a permutation w: if the first n letters of w are 1, .., n in some order, a block ends at place n. And sums of Schur polynomials to
-- which more is added.
use Rattle.std.specs.Prelude.{◌≡◌, ℕ, ◌≤◌, ℤ, ◌+ℤ◌, List, ◌++◌, length, take, slice_range}
use Rattle.sym_model.specs.Sum.{Among}
use Rattle.sym_model.specs.Partition.{after, rows}
use Rattle.sym_model.specs.Polynomial.{Poly, pair}
use Rattle.sym_model.specs.Schur.{schur}
use Rattle.sym_model.specs.WholeTerms.{WholeTerms}
use Rattle.linear_combinations.specs.Entries.{IsWholeTable}
use Rattle.linear_combinations.specs.Gains.{over, HaveLabels}
use Rattle.stanley_expand.specs.Walk.{IsHeld}

-- w has at least n letters, and its first n letters are at most n
pub record IsEnd (w : List ℕ) (n : ℕ) : Type 0 where
  pub inside : n ≤ length w
  pub small : (a : ℕ) → Among a (take n w) → a ≤ n

-- the letters 1, .., n, and then the letters of w after place n and up to place k
abbrev pub between : ℕ → ℕ → List ℕ → List ℕ
between n k w = after 0 n ++ slice_range w n k

-- `sum` is a table of partitions with at most m rows, and its coefficients fit in 128 bits with a sign
pub record AreLabels (m : ℕ) (sum : WholeTerms) : Type 0 where
  pub table : IsWholeTable sum
  pub held : IsHeld sum
  pub few : HaveLabels (λ κ. rows κ ≤ m) sum

-- for a function φ of exponents: the sum of k·c·φ(α) over the terms (κ, k) of `sum` and over the terms c·x^α of s_κ in m variables
abbrev pub summed : ℕ → (List ℕ → ℤ) → WholeTerms → ℤ
summed m φ sum = over (λ κ. pair (schur κ m) φ) sum

-- f in m variables is the sum of the Schur polynomials of the partitions of `sum`, with its coefficients
pub record IsSumFor (m : ℕ) (f : Poly) (sum : WholeTerms) : Type 0 where
  pub value : (φ : List ℕ → ℤ) → summed m φ sum ≡ pair f φ
  pub labels : AreLabels m sum

-- a step from `sum` to `sum2`: for every φ, `summed` increases by `more φ`, and `AreLabels` is kept
pub record IsAdded (m : ℕ) (sum : WholeTerms) (more : (List ℕ → ℤ) → ℤ) (sum2 : WholeTerms) : Type 0 where
  pub value : (φ : List ℕ → ℤ) → summed m φ sum2 ≡ summed m φ sum +ℤ more φ
  pub labels : AreLabels m sum → AreLabels m sum2
