-- The store of Schubert polynomials: its entries, its capacity, and how a request changes it.
use Rattle.std.specs.Prelude.{◌≡◌, ℕ, ◌-◌, ◌<◌, ◌≤◌, List, ◌∷◌, length, take, nat_eq, Contains}
use Rattle.std.specs.Prelude.{Option, None, IsSome}
use Rattle.std.specs.Cmp.Lexicographic.{pointwise}
use Rattle.std.specs.Map.{lookup}
use Rattle.lru.specs.LruCache.{LruCache, lru_cache, promoted}
use Rattle.sym_model.specs.WholeTerms.{WholeTerms}
use Rattle.schubert_transition.specs.TermLists.{IsSchubertOf}

-- each permutation is stored with its Schubert polynomial, which has at most 4,096 terms
pub record AreKept (entries : List (List ℕ × WholeTerms)) : Type 0 where
  pub each : (e : List ℕ × WholeTerms) → Contains entries e
      → IsSchubertOf e.0 e.1 × (length e.1 ≤ 4096)

-- a store: the permutations with their polynomials, the most recently requested first, and the capacity
abbrev pub Store : Type 0
Store = LruCache (List ℕ) WholeTerms

-- a store of Schubert polynomials with at most as many entries as its capacity, which is at least 1
pub record IsSchubertStore (store : Store) : Type 0 where
  pub kept : AreKept store.entries
  pub few : length store.entries ≤ store.cap
  pub room : 0 < store.cap

-- the polynomial that the store has for w; `None` if it has none
abbrev pub kept_for : List ℕ → Store → Option WholeTerms
kept_for w store = lookup (pointwise nat_eq w) store.entries

-- the old store has an entry for the permutation w, and the new store is the old one with this entry moved to the
-- front
abbrev pub GoesFirst : List ℕ → Store → Store → Type 0
GoesFirst w old new =
    IsSome (kept_for w old) × (new ≡ lru_cache (promoted (pointwise nat_eq w) old.entries) old.cap)

-- the old store has no entry for w; the new one is the old one with w and some polynomial inserted at the front, and
-- without the last entry of the old one if that was full
pub record ComesFirst (w : List ℕ) (old new : Store) : Type 0 where
  pub absent : kept_for w old ≡ None
  pub polynomial : WholeTerms
  pub entries : new ≡ lru_cache ((w, polynomial) ∷ take (old.cap - 1) old.entries) old.cap
