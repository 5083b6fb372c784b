-- Horizontal and vertical strips by their rows.
--     `falls_part`            each part of a decreasing list is at least the next one
--     `horizontal_from_rows`  outer/inner is a horizontal strip if part i + 1 of outer is at most part i of inner, for each i
--     `vertical_from_rows`    outer/inner is a vertical strip if part i of outer is at most part i of inner plus 1, for each i
use Rattle.std.proofs.Common.{◌≡◌, ℕ, zero, suc, ◌+◌, ◌-◌, ◌<◌, ◌≤◌, List, [], ◌∷◌, get_or, sym, ap, subst, refl, inl, inr, arith, rules}
use Rattle.std.proofs.lemmas.Bool.{cases_order, cases_lt}
use Rattle.sym_model.specs.Partition.{Falls, part, Holds, IsCell}
use Rattle.sym_model.specs.Strip.{IsHorizontalStrip, IsVerticalStrip}

pub falls_get : (parts : List ℕ) → Falls parts → (k : ℕ) → get_or parts (suc k) 0 ≤ get_or parts k 0
falls_get [] f k = omega arith
falls_get (a ∷ []) f zero = omega arith
falls_get (a ∷ []) f (suc k) = omega arith
falls_get (a ∷ b ∷ parts) f zero = f.0
falls_get (a ∷ b ∷ parts) f (suc k) = falls_get (b ∷ parts) f.1 k

pub falls_at : (parts : List ℕ) → Falls parts → (k : ℕ) → get_or parts (k + 1) 0 ≤ get_or parts k 0
falls_at parts f k = let e : suc k ≡ k + 1 = omega arith in subst (λ n. get_or parts n 0 ≤ get_or parts k 0) e (falls_get parts f k)

part_at : (parts : List ℕ) (i k : ℕ) → i ≡ suc k → part parts i ≡ get_or parts k 0
part_at parts i k e = let d : i - 1 ≡ k = omega arith in ap (λ n. get_or parts n 0) d

pub falls_part : (parts : List ℕ) → Falls parts → (i : ℕ) → 1 ≤ i → part parts (i + 1) ≤ part parts i
falls_part parts f zero h = absurd (omega arith)
falls_part parts f (suc k) h =
    let a = part_at parts (suc k + 1) (suc k) (omega arith) in
    let b = part_at parts (suc k) k refl in
    let c = falls_get parts f k in
    rw (a, b) c

falls_steps : (parts : List ℕ) → Falls parts → (d i k : ℕ) → 1 ≤ i → k ≡ i + d → part parts k ≤ part parts i
falls_steps parts f zero i k h e = let d : k ≡ i = omega arith in subst (λ n. part parts n ≤ part parts i) (sym d) (omega arith)
falls_steps parts f (suc d) i k h e = search (rules, falls_part, (falls_steps parts f d (i + 1) k (omega arith) (omega arith)))

pub falls_far : (parts : List ℕ) → Falls parts → (i k : ℕ) → 1 ≤ i → i ≤ k → part parts k ≤ part parts i
falls_far parts f i k h l = falls_steps parts f (k - i) i k h (omega arith)

pub horizontal_from_rows : (outer inner : List ℕ) → Falls outer → Holds outer inner
    → ((i : ℕ) → 1 ≤ i → part outer (i + 1) ≤ part inner i) → IsHorizontalStrip outer inner
horizontal_from_rows outer inner f h r = search (rules, falls_far, cases_order)

pub horizontal_rows : (outer inner : List ℕ) → Falls outer → Falls inner → IsHorizontalStrip outer inner
    → (i : ℕ) → 1 ≤ i → part outer (i + 1) ≤ part inner i
horizontal_rows outer inner f g s i h =
    elim (cases_lt (part inner i) (part outer (i + 1))) [ inl l ↦ absurd (both l) | inr l ↦ l ]
  where
    both : part inner i < part outer (i + 1) → ⊥
    both l =
        let a = falls_part outer f i h in
        let b = falls_part inner g i h in
        let c : IsCell outer inner i (part outer (i + 1)) = record { row_counts = h; outside = l; within = a } in
        let d : IsCell outer inner (i + 1) (part outer (i + 1)) = record { row_counts = omega arith; outside = omega (arith, b, l); within = omega arith } in
        let e = s.once i (i + 1) (part outer (i + 1)) c d in
        omega arith

pub vertical_from_rows : (outer inner : List ℕ) → Holds outer inner → ((i : ℕ) → 1 ≤ i → part outer i ≤ part inner i + 1) → IsVerticalStrip outer inner
vertical_from_rows outer inner h r =
    record { holds = h; once = λ row j k c d. let a = r row c.row_counts in let p = c.outside in let q = c.within in let s = d.outside in let t = d.within in omega (arith, a, p, q, s, t) }

pub vertical_rows : (outer inner : List ℕ) → IsVerticalStrip outer inner → (i : ℕ) → 1 ≤ i → part outer i ≤ part inner i + 1
vertical_rows outer inner s i h =
    elim (cases_lt (part inner i + 1) (part outer i)) [ inl l ↦ absurd (both l) | inr l ↦ l ]
  where
    both : part inner i + 1 < part outer i → ⊥
    both l =
        let c : IsCell outer inner i (part inner i + 1) = record { row_counts = h; outside = omega arith; within = omega (arith, l) } in
        let d : IsCell outer inner i (part inner i + 2) = record { row_counts = h; outside = omega arith; within = omega (arith, l) } in
        let e = s.once i (part inner i + 1) (part inner i + 2) c d in
        omega arith
