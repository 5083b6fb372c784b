-- Rotations modulo n of partitions with at most k rows and n - k columns (Postnikov: the cyclic symmetry of quantum products). Their beta lists are the
-- strictly decreasing lists of k numbers below n: r is added to each entry, and n is subtracted from those sums that are at least n.
use Rattle.std.specs.Prelude.{◌≡◌, ℕ, ◌+◌, ◌-◌, ◌*◌, ◌/◌, ◌%◌, ◌≤◌, nat_lt, cond, ℤ, List, [], ◌∷◌, ◌++◌, map, length}
use Rattle.sym_model.specs.Partition.{IsPartition, rows, columns}
use Rattle.sym_model.specs.BetaList.{beta, from_beta}
use Rattle.sym_model.specs.WholeTerms.{WholeTermsOf}

-- a partition with at most k rows and n - k columns
pub record IsInside (k n : ℕ) (parts : List ℕ) : Type 0 where
  pub partition : IsPartition parts
  pub few : rows parts ≤ k
  pub narrow : k + columns parts ≤ n

-- the list with r added to each entry
abbrev pub raised : ℕ → List ℕ → List ℕ
raised r b = map (λ x. x + r) b

-- r is added to each entry: the sums below n
abbrev pub kept : ℕ → ℕ → List ℕ → List ℕ
kept n r [] = []
kept n r (x ∷ b) = cond (nat_lt (x + r) n) ((x + r) ∷ kept n r b) (kept n r b)

-- r is added to each entry: the other sums, each less n
abbrev pub wrapped : ℕ → ℕ → List ℕ → List ℕ
wrapped n r [] = []
wrapped n r (x ∷ b) = cond (nat_lt (x + r) n) (wrapped n r b) ((x + r - n) ∷ wrapped n r b)

-- the partition with r columns of k rows in front of it
abbrev pub widened : ℕ → ℕ → List ℕ → List ℕ
widened k r parts = from_beta (raised r (beta k parts))

-- the partition rotated by r: its beta list is the rotated beta list
abbrev pub rotated : ℕ → ℕ → ℕ → List ℕ → List ℕ
rotated k n r parts = from_beta (kept n r (beta k parts) ++ wrapped n r (beta k parts))

-- the number of entries of the beta list from which n is subtracted: the power of q that belongs to the rotation
abbrev pub wraps : ℕ → ℕ → ℕ → List ℕ → ℕ
wraps k n r parts = length (wrapped n r (beta k parts))

-- the label q^p·λ rotated by r. The power of q is the number of subtractions of n; for r ≥ n, r is reduced modulo n first, which gives k subtractions
-- for each n.
abbrev pub turned : ℕ → ℕ → ℕ → ℕ × List ℕ → ℕ × List ℕ
turned k n r label = (label.0 + (wraps k n (r % n) label.1 + r / n * k), rotated k n (r % n) label.1)

-- the terms with each label rotated by r
abbrev pub all_turned : ℕ → ℕ → ℕ → WholeTermsOf (ℕ × List ℕ) → WholeTermsOf (ℕ × List ℕ)
all_turned k n r terms = map (λ (t : (ℕ × List ℕ) × ℤ). (turned k n r t.0, t.1)) terms

-- each of the factors is a partition of `bases`, rotated; r is the sum of the rotations, d that of the powers of q
abbrev pub AreTurned : ℕ → ℕ → List (List ℕ) → List (List ℕ) → ℕ → ℕ → Type 0
AreTurned k n [] [] r d = (r ≡ 0) × (d ≡ 0)
AreTurned k n (factor ∷ factors) (base ∷ bases) r d =
    (s : ℕ) × (left : ℕ) × (power : ℕ)
    × IsInside k n base
    × (factor ≡ rotated k n (s % n) base)
    × (r ≡ s + left)
    × (d ≡ power + (wraps k n (s % n) base + s / n * k))
    × AreTurned k n factors bases left power
AreTurned k n _ _ r d = ⊥
