-- The search for the partitions ν in a product m_λ·m_μ, from the greatest part of ν to the least. A *state* of the search consists of the parts of λ
-- and of μ that remain, and of the number of ways to reach them (its count). The result is a list of entries, each a partition with a count.
use Rattle.std.specs.Prelude.{◌≡◌, ℕ, ◌+◌, ◌==◌, nat_le, nat_lt, Bool, true, ◌&&◌, cond, Option}
use Rattle.std.specs.Prelude.{Some, None, List, [], ◌∷◌, ◌++◌, All}
use Rattle.sym_model.specs.Polynomial.{same}
use Rattle.sym_model.specs.Partition.{IsPartition, Falls, ArePositive, size}
use Rattle.sparse_polys.specs.declared.states.State.{State}
use Rattle.sparse_polys.specs.declared.search.Counted.{Counted}
use Rattle.sparse_polys.specs.Ways.{capped, ways}

-- the sum of the counts of the entries with the partition ν
abbrev pub count_at : List Counted → List ℕ → ℕ
count_at [] ν = 0
count_at (t ∷ terms) ν = cond (same t.parts.items ν) t.count 0 + count_at terms ν

-- the parts of each entry are a partition of `total`
abbrev pub AreCounted : ℕ → List Counted → Type 0
AreCounted total terms =
    All (λ (t : Counted). IsPartition t.parts.items × (size t.parts.items ≡ total)) terms

-- whether the parts are positive and weakly decreasing, and the first is at most m
abbrev pub falls_from : ℕ → List ℕ → Bool
falls_from m [] = true
falls_from m (x ∷ rest) = nat_lt 0 x && nat_le x m && falls_from x rest

-- the parts of ν after `prefix`; None if ν does not begin with `prefix`
abbrev pub after_prefix : List ℕ → List ℕ → Option (List ℕ)
after_prefix [] ν = Some ν
after_prefix (a ∷ prefix) [] = None
after_prefix (a ∷ prefix) (b ∷ ν) = cond (a == b) (after_prefix prefix ν) None

-- If the third argument is `Some rest`, and `rest` is weakly decreasing with parts from 1 to m: the number of ways to continue from the states to the
-- parts `rest` (`ways`), or 2^128 - 1 if that is greater. In all other cases 0.
abbrev pub found_behind : ℕ → List State → Option (List ℕ) → ℕ
found_behind m states None = 0
found_behind m states (Some rest) = cond (falls_from m rest) (capped (ways states rest)) 0

-- if ν consists of the parts `prefix` and then of weakly decreasing parts from 1 to m: the number of ways to continue from the states to these later
-- parts, or 2^128 - 1 if it is greater; otherwise 0
abbrev pub found : List ℕ → ℕ → List State → List ℕ → ℕ
found prefix m states ν = found_behind m states (after_prefix prefix ν)

-- the parts of `prefix` are positive, weakly decreasing and at least m
pub record IsChosen (m : ℕ) (prefix : List ℕ) : Type 0 where
  pub falls : Falls (prefix ++ (m ∷ []))
  pub positive : ArePositive prefix

-- for each list ν that consists of the parts `prefix` and then of weakly decreasing parts from 1 to m, f(ν) is the number of ways to continue from
-- the states to these later parts (`ways`), or 2^128 - 1 if it is greater
abbrev pub Counts : (List ℕ → ℕ) → List ℕ → ℕ → List State → Type 0
Counts f prefix m states =
    (ν rest : List ℕ) → after_prefix prefix ν ≡ Some rest → falls_from m rest ≡ true
    → capped (ways states rest) ≡ f ν

-- the count of each entry is the value of f at the partition of the entry
abbrev pub HaveCounts : (List ℕ → ℕ) → List Counted → Type 0
HaveCounts f terms = All (λ (t : Counted). t.count ≡ f t.parts.items) terms
