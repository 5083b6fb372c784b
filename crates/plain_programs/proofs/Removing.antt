-- The removal of a rim hook with the rows first, .., last, counted from 0.
--     removal_found      if the conditions `Fits` hold, a removal leaves the partition with the parts `left_part`
--     none_in_rows       if no number of cells left in row last satisfies these conditions, no rim hook with the rows first, .., last can be removed
use Rattle.std.proofs.Common.{◌≡◌, ℕ, ◌+◌, ◌-◌, ◌<◌, ◌≤◌, ◌⊎◌, List, length, get_or, sym, ◌∙◌, ap, subst, refl, inl, inr, arith}
use Rattle.std.proofs.lemmas.Bool.{cases_lt, cases_eq}
use Rattle.std.proofs.lemmas.Bool.Decides.{nat_tests}
use Rattle.sym_model.specs.Partition.{IsPartition, size, part, without_last_zeros}
use Rattle.sym_model.specs.Strip.{height}
use Rattle.strip_laws.specs.HookRows.{IsHookRows}
use Rattle.sym_model.specs.RimHookReduction.{IsRemoval}
use Rattle.strip_laws.proofs.Strips.{falls_part, falls_at}
use Rattle.strip_laws.proofs.RimHooks.{hook_from_rows, height_of_rows}
use Rattle.strip_laws.proofs.HookSizes.{hook_size}
use Rattle.sym_model.proofs.SortedParts.{IsPartition-without_last_zeros}
use Rattle.sym_model.proofs.Parts.{get_or-without_last_zeros, at_least_one, part-get_or, Falls_from_places}
use Rattle.plain_programs.specs.Removed.{left_part, HasNoneInRows}

-- ---- the parts `left_part` of the partition that is left after a removal

left_above : (shape : List ℕ) (first last rest i : ℕ) → i < first → left_part shape first last rest i ≡ get_or shape i 0
left_above shape first last rest i h = grind (arith, nat_tests)

left_inside : (shape : List ℕ) (first last rest i : ℕ) → first ≤ i → i < last → left_part shape first last rest i ≡ get_or shape (i + 1) 0 - 1
left_inside shape first last rest i h l = grind (arith, nat_tests)

left_last : (shape : List ℕ) (first last rest i : ℕ) → first ≤ last → i ≡ last → left_part shape first last rest i ≡ rest
left_last shape first last rest i h e = grind (arith, nat_tests)

left_below : (shape : List ℕ) (first last rest i : ℕ) → first ≤ last → last < i → left_part shape first last rest i ≡ get_or shape i 0
left_below shape first last rest i h l = grind (arith, nat_tests)

-- the conditions under which a rim hook of n cells with the rows first, .., last, counted from 0, can be removed from `shape` so that `rest` cells
-- are left in row last
pub record Fits (n : ℕ) (shape : List ℕ) (first last rest : ℕ) : Type 0 where
  pub partition : IsPartition shape
  pub ordered : first ≤ last
  pub within : last < length shape
  pub cells : rest + n ≡ get_or shape first 0 + (last - first)
  pub end : rest < get_or shape last 0
  pub next : get_or shape (last + 1) 0 ≤ rest

left_falls : (n : ℕ) (shape : List ℕ) (first last rest i : ℕ) → Fits n shape first last rest
    → left_part shape first last rest (i + 1) ≤ left_part shape first last rest i
left_falls n shape first last rest i h = by (cases_lt i first) (cases_lt (i + 1) first) (cases_lt i last) (cases_lt (i + 1) last) (cases_eq i last)
  where
    by : (i < first) ⊎ (first ≤ i) → (i + 1 < first) ⊎ (first ≤ i + 1) → (i < last) ⊎ (last ≤ i) → (i + 1 < last) ⊎ (last ≤ i + 1) → (i ≡ last) ⊎ (i ≡ last → ⊥)
        → left_part shape first last rest (i + 1) ≤ left_part shape first last rest i
    by (inl a) (inl b) p q e =
        let x = left_above shape first last rest i a in
        let y = left_above shape first last rest (i + 1) b in
        let f = falls_at shape h.partition.falls i in
        omega (arith, x, y, f)
    by (inl a) (inr b) p (inl q) e =
        let x = left_above shape first last rest i a in
        let y = left_inside shape first last rest (i + 1) b q in
        let f = falls_at shape h.partition.falls i in
        let g = falls_at shape h.partition.falls (i + 1) in
        omega (arith, x, y, f, g)
    by (inl a) (inr b) p (inr q) e =
        let o = h.ordered in
        let d : i + 1 ≡ last = omega (arith, a, b, q, o) in
        let x = left_above shape first last rest i a in
        let y = left_last shape first last rest (i + 1) h.ordered d in
        let f = falls_at shape h.partition.falls i in
        let g = h.end in
        omega (arith, x, y, f, g, ap (λ k. get_or shape k 0) d)
    by (inr a) b (inl p) (inl q) e =
        let x = left_inside shape first last rest i a p in
        let y = left_inside shape first last rest (i + 1) (omega arith) q in
        let g = falls_at shape h.partition.falls (i + 1) in
        omega (arith, x, y, g)
    by (inr a) b (inl p) (inr q) e =
        let d : i + 1 ≡ last = omega (arith, p, q) in
        let x = left_inside shape first last rest i a p in
        let y = left_last shape first last rest (i + 1) h.ordered d in
        let g = h.end in
        omega (arith, x, y, g, ap (λ k. get_or shape k 0) d)
    by (inr a) b (inr p) q (inl e) =
        let x = left_last shape first last rest i h.ordered e in
        let y = left_below shape first last rest (i + 1) h.ordered (omega (arith, e)) in
        let g = h.next in
        omega (arith, x, y, g, ap (λ k. get_or shape (k + 1) 0) e)
    by (inr a) b (inr p) q (inr e) =
        let x = left_below shape first last rest i h.ordered (omega (arith, p, e)) in
        let y = left_below shape first last rest (i + 1) h.ordered (omega (arith, p, e)) in
        let f = falls_at shape h.partition.falls i in
        omega (arith, x, y, f)

pub record IsLeft (n : ℕ) (shape left : List ℕ) (first last : ℕ) : Type 0 where
  pub removal : IsRemoval n shape left
  pub height : height shape left ≡ last - first + 1

-- the number at each place i of `numbers` is `left_part shape first last rest i`
abbrev AreLeft : List ℕ → List ℕ → ℕ → ℕ → ℕ → Type 0
AreLeft numbers shape first last rest = (i : ℕ) → get_or numbers i 0 ≡ left_part shape first last rest i

row_left : (shape numbers : List ℕ) (first last rest i : ℕ) → AreLeft numbers shape first last rest → part (without_last_zeros numbers) (i + 1) ≡ left_part shape first last rest i
row_left shape numbers first last rest i v = part-get_or (without_last_zeros numbers) i ∙ get_or-without_last_zeros numbers i ∙ v i

partition_left : (n : ℕ) (shape numbers : List ℕ) (first last rest : ℕ) → Fits n shape first last rest → AreLeft numbers shape first last rest → IsPartition (without_last_zeros numbers)
partition_left n shape numbers first last rest h v =
    IsPartition-without_last_zeros numbers (Falls_from_places numbers (λ i.
    let a = v i in
    let b = v (i + 1) in
    let c = left_falls n shape first last rest i h in
    omega (arith, a, b, c)))

row_before : (i : ℕ) → 1 ≤ i → (k : ℕ) × (i ≡ k + 1)
row_before i h = (i - 1, omega arith)

hook_left : (n : ℕ) (shape numbers : List ℕ) (first last rest : ℕ) → Fits n shape first last rest → AreLeft numbers shape first last rest
    → IsHookRows shape (without_last_zeros numbers) (first + 1) (last + 1)
hook_left n shape numbers first last rest h v = record { counts = omega arith; ordered = (let o = h.ordered in omega (arith, o)); above = above; below = below; chained = chained; end = end }
  where
    above : (i : ℕ) → 1 ≤ i → i < first + 1 → part shape i ≡ part (without_last_zeros numbers) i
    above i a b =
        let r = row_before i a in
        let k = r.0 in
        let x = left_above shape first last rest k (let e = r.1 in omega (arith, e)) in
        subst (λ j. part shape j ≡ part (without_last_zeros numbers) j) (sym r.1) (part-get_or shape k ∙ sym x ∙ sym (row_left shape numbers first last rest k v))

    below : (i : ℕ) → last + 1 < i → part shape i ≡ part (without_last_zeros numbers) i
    below i b =
        let r = row_before i (omega arith) in
        let k = r.0 in
        let x = left_below shape first last rest k h.ordered (let e = r.1 in omega (arith, e)) in
        subst (λ j. part shape j ≡ part (without_last_zeros numbers) j) (sym r.1) (part-get_or shape k ∙ sym x ∙ sym (row_left shape numbers first last rest k v))

    chained : (i : ℕ) → first + 1 ≤ i → i < last + 1 → part shape (i + 1) ≡ part (without_last_zeros numbers) i + 1
    chained i a b =
        let r = row_before i (omega arith) in
        let k = r.0 in
        let e : i ≡ k + 1 = r.1 in
        let x = left_inside shape first last rest k (omega (arith, e)) (omega (arith, e)) in
        let w = h.within in
        let p = at_least_one shape h.partition.positive (k + 1) (omega (arith, e, w)) in
        let q = part-get_or shape (k + 1) in
        let y = row_left shape numbers first last rest k v in
        subst (λ j. part shape (j + 1) ≡ part (without_last_zeros numbers) j + 1) (sym e) (omega (arith, x, p, q, y))

    end : part (without_last_zeros numbers) (last + 1) < part shape (last + 1)
    end =
        let x = left_last shape first last rest last h.ordered refl in
        let y = row_left shape numbers first last rest last v in
        let q = part-get_or shape last in
        let g = h.end in
        omega (arith, x, y, q, g)

pub removal_found : (n : ℕ) (shape numbers : List ℕ) (first last rest : ℕ) → Fits n shape first last rest → AreLeft numbers shape first last rest
    → IsLeft n shape (without_last_zeros numbers) first last
removal_found n shape numbers first last rest h v =
    let left = without_last_zeros numbers in
    let hook = hook_left n shape numbers first last rest h v in
    let s = hook_size shape left (first + 1) (last + 1) hook in
    let a = part-get_or shape first in
    let b = row_left shape numbers first last rest last v in
    let c = left_last shape first last rest last h.ordered refl in
    let d = h.cells in
    let o = h.ordered in
    let t = height_of_rows shape left (first + 1) (last + 1) h.partition.falls hook in
    record {
      removal = record {
        partition = partition_left n shape numbers first last rest h v;
        hook = hook_from_rows shape left (first + 1) (last + 1) h.partition.falls hook;
        cells = omega (arith, s, a, b, c, d, o);
      };
      height = omega (arith, t, o);
    }

-- the conditions on the number `rest` of cells left in row last after a rim hook of n cells with the rows first, .., last, counted from 0, is removed
record Bounds (n : ℕ) (shape : List ℕ) (first last rest : ℕ) : Type 0 where
  cells : rest + n ≡ get_or shape first 0 + (last - first)
  end : rest < get_or shape last 0
  next : get_or shape (last + 1) 0 ≤ rest

bounds_of : (n : ℕ) (shape left : List ℕ) (first last : ℕ) → IsPartition left → IsHookRows shape left (first + 1) (last + 1) → size shape ≡ size left + n
    → Bounds n shape first last (part left (last + 1))
bounds_of n shape left first last p h e =
    let s = hook_size shape left (first + 1) (last + 1) h in
    let o = h.ordered in
    let a = part-get_or shape first in
    let b = part-get_or shape last in
    let c = part-get_or shape (last + 1) in
    let d = h.below (last + 1 + 1) (omega arith) in
    let f = falls_part left p.falls (last + 1) (omega arith) in
    let g = h.end in
    record { cells = omega (arith, s, a, o, e); end = omega (arith, b, g); next = omega (arith, c, d, f) }

pub none_in_rows : (n : ℕ) (shape : List ℕ) (first last : ℕ)
    → (get_or shape first 0 + (last - first) < n + get_or shape (last + 1) 0) ⊎ (n + get_or shape last 0 ≤ get_or shape first 0 + (last - first))
    → HasNoneInRows n shape (first + 1) (last + 1)
none_in_rows n shape first last (inl t) left p h e =
    let b = bounds_of n shape left first last p h e in
    let x = b.cells in
    let y = b.next in
    omega (arith, x, y, t)
none_in_rows n shape first last (inr t) left p h e =
    let b = bounds_of n shape left first last p h e in
    let x = b.cells in
    let y = b.end in
    omega (arith, x, y, t)
