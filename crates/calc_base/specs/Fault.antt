-- Counts of faults and of calls. A count is a u64; at its greatest value, 2^64 - 1, it is not increased further.
use Rattle.std.specs.Prelude.{◌≡◌, ℕ, ◌+◌, ◌-◌, ◌^◌, ◌≤◌, min, Bool, cond, Result, OnOk, OnErr}

-- the next value of a count, at most 2^64 - 1
abbrev pub counted_up : ℕ → ℕ
counted_up count = min (count + 1) (2 ^ 64 - 1)

-- the count of faults increased by 1 in a call, or was at its greatest value and remained there
abbrev pub Rose : (before now : ℕ) → Type 0
Rose before now = now ≡ counted_up before

-- the count of faults after a call, given the count before it and whether the call failed
abbrev pub faults_after : ℕ → Bool → ℕ
faults_after before fails = cond fails (counted_up before) before

-- A call that succeeds leaves the count of faults unchanged, and one that fails increases it by 1, but not beyond 2^64 - 1. The count never
-- decreases.
pub record CountsFaults {T E : Type 0} (before now : ℕ) (result : Result T E) : Type 0 where
  pub still : OnOk result (now ≡ before)
  pub rose : OnErr result (Rose before now)
  pub later : before ≤ now
