-- The levels of a walk. A level is a pair of a list of records, a step with a count each, and the entry that was taken from it last.
use Rattle.std.proofs.Common.{◌≡◌, ℕ, zero, suc, ◌+◌, ◌*◌, ◌^◌, ◌<◌, min, max, List, [], ◌∷◌, ◌++◌}
use Rattle.std.specs.List.{All, sum_by}
use Rattle.prefix_walk.specs.Terms.{with_entry, from_top, terms_below}
use Rattle.prefix_walk.specs.Steps.{if_entry}

-- the number, or 2^127 if the number is greater
abbrev pub at_most_cap : ℕ → ℕ
at_most_cap n = min n (2 ^ 127)

-- the sum of f over the states of the records with the entry a, each as often as its count says
abbrev pub weighed_at : {S : Type 0} → ℕ → (S → ℕ) → List ((ℕ × S) × ℕ) → ℕ
weighed_at a f records = sum_by (λ r. r.1 * if_entry a f r.0) records

-- the terms of the records whose labels begin with the entry a, if n more entries follow; their counts are capped at 2^127
abbrev pub part_at : {S : Type 0} → (ℕ → S → List ℕ → ℕ) → ℕ → ℕ → List ((ℕ × S) × ℕ) → ℕ → List (List ℕ × ℕ)
part_at ways bound n records a =
    with_entry a (terms_below bound n (λ label. at_most_cap (weighed_at a (λ s. ways n s label) records)))

-- the terms of the records
abbrev pub terms_of : {S : Type 0} → (ℕ → S → List ℕ → ℕ) → ℕ → ℕ → List ((ℕ × S) × ℕ) → List (List ℕ × ℕ)
terms_of ways bound n records = from_top (part_at ways bound n records) bound

-- the terms that are still to come: first those of the lower levels, all with the current entry of this level, then those of the records that this
-- level still has
abbrev pub rest_at : {N : Type 0} → (ℕ → N → List (List ℕ × ℕ)) → ℕ → List (N × ℕ) → List (List ℕ × ℕ)
rest_at terms n [] = []
rest_at terms zero (level ∷ levels) = []
rest_at terms (suc n) (level ∷ levels) = with_entry level.1 (rest_at terms n levels) ++ terms n level.0

-- the current entries of the levels
abbrev pub entries_of : {N : Type 0} → List (N × ℕ) → List ℕ
entries_of [] = []
entries_of (level ∷ levels) = level.1 ∷ entries_of levels

-- the entries do not fall
abbrev pub Rise : {S : Type 0} → List ((ℕ × S) × ℕ) → Type 0
Rise [] = Unit {0}
Rise (r ∷ records) = All (λ s. r.0.0 < suc s.0.0) records × Rise records

-- a step to a state, with an entry less than `end`
abbrev pub IsStep : {S : Type 0} → (S → Type 0) → ℕ → ℕ × S → Type 0
IsStep state end step = state step.1 × (step.0 < end)

-- each record has a step to a state, and the entries do not fall
pub record AreRecords {S : Type 0} (state : S → Type 0) (end : ℕ) (records : List ((ℕ × S) × ℕ)) : Type 0 where
  pub steps : All (λ r. IsStep state end r.0) records
  pub rise : Rise records

-- the last record has the entry a
pub record IsLast {S : Type 0} (a : ℕ) (records : List ((ℕ × S) × ℕ)) : Type 0 where
  pub front : List ((ℕ × S) × ℕ)
  pub last : (ℕ × S) × ℕ
  pub is : records ≡ front ++ last ∷ []
  pub entry : last.0.0 ≡ a

-- records with the entry a were taken from the end
pub record IsTaken {S : Type 0} (a : ℕ) (old new : List ((ℕ × S) × ℕ)) : Type 0 where
  pub group : List ((ℕ × S) × ℕ)
  pub is : old ≡ new ++ group
  pub entries : All (λ r. r.0.0 ≡ a) group

-- there are at most n levels, and each is sound, with as many entries to come after it as there may be levels after it
abbrev pub AreSound : {N : Type 0} → (ℕ → N → Type 0) → ℕ → List (N × ℕ) → Type 0
AreSound node n [] = Unit {0}
AreSound node zero (level ∷ levels) = ⊥
AreSound node (suc n) (level ∷ levels) = node n level.0 × AreSound node n levels

-- the least number that is greater than the entries of the records
abbrev pub top_of : {S : Type 0} → List ((ℕ × S) × ℕ) → ℕ
top_of [] = 0
top_of (r ∷ records) = max (suc r.0.0) (top_of records)

-- a number that becomes smaller in each round of the walk
abbrev pub work_left : {N : Type 0} → (N → ℕ) → ℕ → ℕ → List (N × ℕ) → ℕ
work_left top bound n [] = 0
work_left top bound zero (level ∷ levels) = 0
work_left top bound (suc n) (level ∷ levels) =
    (top level.0 + 1) * (bound + 2) ^ n + work_left top bound n levels
