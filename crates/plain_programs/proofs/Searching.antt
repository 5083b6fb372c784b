-- The search for a rim hook that can be removed, through all first and last rows, and the result of all removals. The first row of a removal is that
-- of the rim hook that is removed.
--     search_on       if no removal has one of the rows up to `done` as its first row, and no removal has the first row done + 1, then no removal has
--                     one of the rows up to done + 1 as its first row
--     no_removal      if no removal has a first row among the rows of the shape, no rim hook can be removed
--     goes_on         if a removal from `shape` leaves `left`, and `left` leads to `end` by removals (`GoesTo`), `shape` leads to `end`
use Rattle.std.proofs.Common.{◌≡◌, ℕ, suc, ◌+◌, ◌-◌, ◌<◌, ◌≤◌, ◌⊎◌, false, Option, Some, None, is_some, List, length, sym, ◌∙◌, ap, subst, inl, inr, arith, ℤ, ◌*ℤ◌}
use Rattle.std.proofs.lemmas.Bool.{cases_lt}
use Rattle.sym_model.specs.Partition.{IsPartition}
use Rattle.sym_model.specs.Strip.{height}
use Rattle.strip_laws.specs.HookRows.{IsHookRows}
use Rattle.sym_model.specs.PlaceOrders.{minus_one_to}
use Rattle.sym_model.specs.RimHookReduction.{IsRemoval, HasNoRemoval, GoesTo}
use Rattle.strip_laws.proofs.RimHooks.{hook_rows}
use Rattle.plain_programs.specs.Removed.{HasNoneInRows, IsFoundFrom}
use Rattle.plain_programs.specs.declared.removals.Removal.{Removal}
use Rattle.std.proofs.lemmas.List.{get_or_past}

pub search_on : (n : ℕ) (shape : List ℕ) (done : ℕ) → ((first last : ℕ) → first ≤ done → HasNoneInRows n shape first last)
    → ((last : ℕ) → HasNoneInRows n shape (done + 1) last) → (first last : ℕ) → first ≤ done + 1 → HasNoneInRows n shape first last
search_on n shape done before here first last h = by (cases_lt done first)
  where
    by : (done < first) ⊎ (first ≤ done) → HasNoneInRows n shape first last
    by (inl l) = let e : done + 1 ≡ first = omega arith in subst (λ k. HasNoneInRows n shape k last) e (here last)
    by (inr l) = before first last l

pub no_removal : (n : ℕ) (shape : List ℕ) → IsPartition shape → (done : ℕ) → length shape ≤ done → ((first last : ℕ) → first ≤ done → HasNoneInRows n shape first last)
    → HasNoRemoval n shape
no_removal n shape p done h none left r =
    let rows = hook_rows shape left p.falls r.partition.falls r.hook in
    let first = rows.0 in
    let last = rows.1 in
    let hook : IsHookRows shape left first last = rows.2 in
    by first last (cases_lt done first) hook
  where
    by : (first last : ℕ) → (done < first) ⊎ (first ≤ done) → IsHookRows shape left first last → ⊥
    by first last (inr l) hook = none first last l left r.partition hook r.cells
    by first last (inl l) hook =
        let o = hook.ordered in
        let e = get_or_past shape (last - 1) 0 (omega arith) in
        let g = hook.end in
        omega (arith, e, g)

pub goes_on : (k n : ℕ) (shape left end : List ℕ) (t sign : ℤ) (power h : ℕ) → length shape ≤ k → IsRemoval n shape left → height shape left ≡ h → GoesTo k n left end t power
    → sign ≡ minus_one_to (k - h) *ℤ t → GoesTo k n shape end sign (power + 1)
goes_on k n shape left end t sign power h l r e g s =
    let one : suc power ≡ power + 1 = omega arith in
    subst (GoesTo k n shape end sign) one (l, left, t, r, g, s ∙ ap (λ m. minus_one_to (k - m) *ℤ t) (sym e))

pub none_found : (n : ℕ) (shape : List ℕ) (first : ℕ) (found : Option Removal) → is_some found ≡ false → IsFoundFrom n shape first found
    → (last : ℕ) → HasNoneInRows n shape (first + 1) last
none_found n shape first None e h = h
none_found n shape first (Some removal) e h = absurd (cc)
