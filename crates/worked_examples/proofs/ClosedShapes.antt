-- Strips, rim hooks and removals of rim hooks for given shapes, such as (2,1), by tests of their rows; used for worked examples.
use Rattle.std.proofs.Common.{◌≡◌, ℕ, zero, suc, ◌+◌, ◌-◌, ◌<◌, ◌≤◌, inl, inr, List, [], ◌∷◌, length, sym, ◌∙◌, arith, rules}
use Rattle.std.proofs.lemmas.Bool.{cases_eq, cases_lt}
use Rattle.sym_model.specs.Partition.{Falls, ArePositive, size, part, Holds}
use Rattle.sym_model.specs.Strip.{IsHorizontalStrip, IsVerticalStrip, IsRimHook}
use Rattle.strip_laws.specs.HookRows.{IsHookRows}
use Rattle.sym_model.specs.RimHookReduction.{IsRemoval, HasNoRemoval}
use Rattle.sym_model.proofs.PartitionLists.{no_part}
use Rattle.strip_laws.proofs.Containment.{cell}
use Rattle.strip_laws.proofs.Strips.{horizontal_from_rows, vertical_from_rows}
use Rattle.strip_laws.proofs.RimHooks.{hook_from_rows, crosses}
use Rattle.std.proofs.lemmas.List.{get_or_past}

part_past : (parts : List ℕ) (i : ℕ) → length parts < i → part parts i ≡ 0
part_past parts i h = get_or_past parts (i - 1) 0 (omega arith)

-- P holds of each of the rows a + 1, .., a + k
abbrev pub EachRow : (ℕ → Type 0) → ℕ → ℕ → Type 0
EachRow P a zero = Unit {0}
EachRow P a (suc k) = P (a + 1) × EachRow P (a + 1) k

each_row : (P : ℕ → Type 0) (a k i : ℕ) → EachRow P a k → a < i → i ≤ a + k → P i
each_row P a zero i h l m = absurd (omega arith)
each_row P a (suc k) i h l m = search (rules, cases_eq, (each_row P (a + 1) k i h.1))

pub horizontal_closed : (outer inner : List ℕ) → Falls outer → Holds outer inner → length inner ≤ length outer
    → EachRow (λ i. part outer (i + 1) ≤ part inner i) 0 (length outer) → IsHorizontalStrip outer inner
horizontal_closed outer inner f h l r =
    horizontal_from_rows outer inner f h (λ i n. elim (cases_lt (length outer) i) [
      | inl m ↦ (let e = part_past outer (i + 1) (omega arith) in omega (arith, e))
      | inr m ↦ each_row (λ i. part outer (i + 1) ≤ part inner i) 0 (length outer) i r (omega arith) (omega arith)
    ])

pub vertical_closed : (outer inner : List ℕ) → Holds outer inner → EachRow (λ i. part outer i ≤ part inner i + 1) 0 (length outer) → IsVerticalStrip outer inner
vertical_closed outer inner h r =
    vertical_from_rows outer inner h (λ i n. elim (cases_lt (length outer) i) [
      | inl m ↦ (let e = part_past outer i m in omega (arith, e))
      | inr m ↦ each_row (λ i. part outer i ≤ part inner i + 1) 0 (length outer) i r (omega arith) (omega arith)
    ])

pub holds_closed : (outer inner : List ℕ) → length inner ≤ length outer → EachRow (λ i. part inner i ≤ part outer i) 0 (length outer) → Holds outer inner
holds_closed outer inner l r = from
  where
    counted : (i : ℕ) → 1 ≤ i → part inner i ≤ part outer i
    counted i n = elim (cases_lt (length outer) i) [
      | inl m ↦ (let e = part_past inner i (omega arith) in omega (arith, e))
      | inr m ↦ each_row (λ i. part inner i ≤ part outer i) 0 (length outer) i r (omega arith) (omega arith)
    ]

    from : Holds outer inner
    from zero = counted 1 (omega arith)
    from (suc i) = counted (suc i) (omega arith)

-- outer/inner is a rim hook with the rows first, .., last, by conditions that are tested one row after another
pub record AreHookRows (outer inner : List ℕ) (first last : ℕ) : Type 0 where
  pub falls : Falls outer
  pub longer : length inner ≤ length outer
  pub counts : 1 ≤ first
  pub ordered : first ≤ last
  pub above : EachRow (λ i. part outer i ≡ part inner i) 0 (first - 1)
  pub chained : EachRow (λ i. part outer (i + 1) ≡ part inner i + 1) (first - 1) (last - first)
  pub end : part inner last < part outer last
  pub below : EachRow (λ i. part outer i ≡ part inner i) last (length outer - last)

pub hook_rows_closed : (outer inner : List ℕ) (first last : ℕ) → AreHookRows outer inner first last → IsHookRows outer inner first last
hook_rows_closed outer inner first last h = record {
  counts = h.counts;
  ordered = h.ordered;
  above = λ i a b. each_row (λ i. part outer i ≡ part inner i) 0 (first - 1) i h.above (omega arith) (omega arith);
  below = λ i a. elim (cases_lt (length outer) i) [
    | inl m ↦ (let c = h.longer in part_past outer i m ∙ sym (part_past inner i (omega arith)))
    | inr m ↦ each_row (λ i. part outer i ≡ part inner i) last (length outer - last) i h.below a (omega arith)
  ];
  chained = λ i a b. let c = h.counts in each_row (λ i. part outer (i + 1) ≡ part inner i + 1) (first - 1) (last - first) i h.chained (omega arith) (omega arith);
  end = h.end;
}

pub hook_closed : (outer inner : List ℕ) (first last : ℕ) → AreHookRows outer inner first last → IsRimHook outer inner
hook_closed outer inner first last h = hook_from_rows outer inner first last h.falls (hook_rows_closed outer inner first last h)

pub removal_closed : (n : ℕ) (shape left : List ℕ) (first last : ℕ) → AreHookRows shape left first last → Falls left → ArePositive left → size shape ≡ size left + n → IsRemoval n shape left
removal_closed n shape left first last h f p e = record { partition = record { falls = f; positive = p }; hook = hook_closed shape left first last h; cells = e }

-- if each of the first two rows of a shape has at least two cells, the shape is not a rim hook, since it has a 2 by 2
-- square
pub no_hook : (shape : List ℕ) → 2 ≤ part shape 1 → 2 ≤ part shape 2 → IsRimHook shape [] → ⊥
no_hook shape a b h = search rules

-- if each of the first two rows of a shape of n cells has at least two cells, no rim hook of n cells can be removed
pub no_removal_of_all : (n : ℕ) (shape : List ℕ) → size shape ≡ n → 2 ≤ part shape 1 → 2 ≤ part shape 2 → HasNoRemoval n shape
no_removal_of_all n shape e a b left r = search (rules, no_part, no_hook)

pub no_removal_from_less : (n : ℕ) (shape : List ℕ) → size shape < n → HasNoRemoval n shape
no_removal_from_less n shape h left r = let c = r.cells in omega arith

-- (2,1)/(1) is not a rim hook, since it is not connected
pub not_connected : IsRimHook (2 ∷ 1 ∷ []) (1 ∷ []) → ⊥
not_connected h =
    let outer : List ℕ = 2 ∷ 1 ∷ [] in
    let inner : List ℕ = 1 ∷ [] in
    let a = cell outer inner 1 2 (omega arith) (omega arith) (omega arith) in
    let b = cell outer inner 2 1 (omega arith) (omega arith) (omega arith) in
    let w = h.connected 1 2 2 1 a b in
    let l : part inner 1 < part outer (1 + 1) = crosses outer inner 1 1 2 w.0 2 1 a w.1 (omega arith) (omega arith) in
    omega (arith, l)
