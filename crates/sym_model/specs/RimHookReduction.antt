-- The reduction of partitions by rim hooks of n cells, for partitions with at most k rows (Bertram,
-- Ciocan-Fontanine and Fulton: quantum multiplication of Schur polynomials).
use Rattle.std.specs.Prelude.{◌≡◌, ℕ, zero, suc, ◌+◌, ◌-◌, ◌<◌, ◌≤◌, ℤ, pos, ◌*ℤ◌, List, Option}
use Rattle.std.specs.Prelude.{Some, None}
use Rattle.sym_model.specs.Partition.{IsPartition, size, rows, columns}
use Rattle.sym_model.specs.PlaceOrders.{minus_one_to}
use Rattle.sym_model.specs.Strip.{IsRimHook, height}

-- removing a rim hook of n cells from the partition `shape` leaves the partition `left`
pub record IsRemoval (n : ℕ) (shape left : List ℕ) : Type 0 where
  pub partition : IsPartition left
  pub hook : IsRimHook shape left
  pub cells : size shape ≡ size left + n

-- no rim hook of n cells can be removed from the partition `shape`
abbrev pub HasNoRemoval : ℕ → List ℕ → Type 0
HasNoRemoval n shape = (left : List ℕ) → IsRemoval n shape left → ⊥

-- the partition `shape`, with at most k rows, goes to `end` with a sign and a power of q by removals of rim hooks of
-- n cells. If no such hook can be removed from `shape`, it goes to itself with the sign 1 and the power 0. If the
-- removal of a hook of n cells and of height h leaves a partition that goes to `end` with the sign t and the power p,
-- then `shape` goes to `end` with the sign (-1)^(k - h)·t and the power p + 1.
abbrev pub GoesTo : ℕ → ℕ → List ℕ → List ℕ → ℤ → ℕ → Type 0
GoesTo k n shape end sign zero =
    (rows shape ≤ k) × HasNoRemoval n shape × (shape ≡ end) × (sign ≡ pos 1)
GoesTo k n shape end sign (suc power) =
    (rows shape ≤ k) × (left : List ℕ) × (t : ℤ) × IsRemoval n shape left
    × GoesTo k n left end t power
    × (sign ≡ minus_one_to (k - height shape left) *ℤ t)

-- the partition `shape`, with at most k rows, reduces by rim hooks of n cells to the given result: if `shape` goes
-- (`GoesTo`) to a partition with at most n - k columns, the result is this partition with the sign and the power of q;
-- if `shape` goes to a partition with more than n - k columns, the result is None
abbrev pub ReducesTo : ℕ → ℕ → List ℕ → Option (List ℕ × ℤ × ℕ) → Type 0
ReducesTo k n shape None =
    (end : List ℕ) × (sign : ℤ) × (power : ℕ) × GoesTo k n shape end sign power
    × (n < k + columns end)
ReducesTo k n shape (Some answer) =
    GoesTo k n shape answer.0 answer.1 answer.2 × (k + columns answer.0 ≤ n)
