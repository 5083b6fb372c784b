-- A special rim hook of a shape, which is a rim hook with the first cell of the last row, occupies the rows from some row to the last one, and its
-- sign is (-1)^(height - 1).
use Rattle.std.proofs.Common.{◌≡◌, ℕ, zero, suc, ◌+◌, ◌-◌, ◌<◌, ◌≤◌, List, [], ◌∷◌, map, length, get_or, refl, sym, ◌∙◌, ap, subst, inl, inr, arith}
use Rattle.std.proofs.lemmas.List.{length-map, get_or_past}
use Rattle.sym_model.specs.Sum.{Among}
use Rattle.sym_model.specs.Partition.{ArePositive, IsPartition, part, rows}
use Rattle.sym_model.specs.PlaceOrders.{minus_one_to}
use Rattle.sym_model.specs.Strip.{IsRimHook, height}
use Rattle.sym_model.proofs.Sums.{Among_from_map}
use Rattle.sym_model.proofs.Parts.{get_or-without_last_zeros, length-without_last_zeros, positive-at}
use Rattle.sym_model.proofs.SortedParts.{IsPartition_tail}
use Rattle.strip_laws.specs.HookRows.{IsHookRows}
use Rattle.strip_laws.proofs.RimHooks.{hook_from_rows, height_of_rows}
use Rattle.expand_in_families.specs.SpecialHooks.{SpecialHook, shortened, below_row, special_hooks}

lowered_row : (parts : List ℕ) (k : ℕ) → get_or (map (λ a. a - 1) parts) k 0 ≡ get_or parts k 0 - 1
lowered_row [] k = refl
lowered_row (a ∷ parts) zero = refl
lowered_row (a ∷ parts) (suc k) = lowered_row parts k

row_below : (a : ℕ) (parts : List ℕ) (i : ℕ) → 1 ≤ i → part (a ∷ parts) (suc i) ≡ part parts i
row_below a parts zero h = absurd (omega arith)
row_below a parts (suc k) h =
    let d : suc (suc k) - 1 ≡ suc k = omega arith in
    let e : suc k - 1 ≡ k = omega arith in
    ap (λ j. get_or (a ∷ parts) j 0) d ∙ sym (ap (λ j. get_or parts j 0) e)

-- ---- the rows that a special rim hook occupies

first_hook_rows : (a : ℕ) (parts : List ℕ) → ArePositive (a ∷ parts) → IsHookRows (a ∷ parts) (shortened parts) 1 (suc (length parts))
first_hook_rows a parts p = record {
  counts = omega arith;
  ordered = omega arith;
  above = λ i h l. absurd (omega arith);
  below = λ i l.
      let u = get_or_past (a ∷ parts) (i - 1) 0 (omega arith) in
      let v = get_or_past (shortened parts) (i - 1) 0 (omega (arith, short)) in
      omega (arith, u, v);
  chained = chained;
  end =
      let d : suc (length parts) - 1 ≡ length parts = omega arith in
      let u = ap (λ j. get_or (a ∷ parts) j 0) d in
      let v = ap (λ j. get_or (shortened parts) j 0) d in
      let w = get_or_past (shortened parts) (length parts) 0 short in
      let t = positive-at (a ∷ parts) (length parts) p (omega arith) in
      omega (arith, u, v, w, t);
}
  where
    short : length (shortened parts) ≤ length parts
    short = let l = length-without_last_zeros (map (λ a. a - 1) parts) in let k = length-map parts (λ a. a - 1) in omega arith

    chained : (i : ℕ) → 1 ≤ i → i < suc (length parts) → part (a ∷ parts) (i + 1) ≡ part (shortened parts) i + 1
    chained zero h l = absurd (omega arith)
    chained (suc k) h l =
        let d : suc k + 1 - 1 ≡ suc k = omega arith in
        let e : suc k - 1 ≡ k = omega arith in
        let u = ap (λ j. get_or (a ∷ parts) j 0) d in
        let v = ap (λ j. get_or (shortened parts) j 0) e in
        let w = get_or-without_last_zeros (map (λ a. a - 1) parts) k in
        let x = lowered_row parts k in
        let t = positive-at parts k p.1 (omega arith) in
        omega (arith, u, v, w, x, t)

lower_hook_rows : (a : ℕ) (outer inner : List ℕ) (first last : ℕ) → IsHookRows outer inner first last → IsHookRows (a ∷ outer) (a ∷ inner) (suc first) (suc last)
lower_hook_rows a outer inner first last h = record {
  counts = omega arith;
  ordered = let o = h.ordered in omega arith;
  above = above;
  below = below;
  chained = chained;
  end = let c = h.counts in let o = h.ordered in omega (arith, row_below a outer last (omega arith), row_below a inner last (omega arith), h.end);
}
  where
    above : (i : ℕ) → 1 ≤ i → i < suc first → part (a ∷ outer) i ≡ part (a ∷ inner) i
    above zero o l = absurd (omega arith)
    above (suc zero) o l = let d : suc zero - 1 ≡ 0 = omega arith in ap (λ j. get_or (a ∷ outer) j 0) d ∙ sym (ap (λ j. get_or (a ∷ inner) j 0) d)
    above (suc (suc k)) o l =
        row_below a outer (suc k) (omega arith) ∙ h.above (suc k) (omega arith) (omega arith) ∙ sym (row_below a inner (suc k) (omega arith))

    below : (i : ℕ) → suc last < i → part (a ∷ outer) i ≡ part (a ∷ inner) i
    below zero l = absurd (omega arith)
    below (suc k) l =
        row_below a outer k (omega arith) ∙ h.below k (omega arith) ∙ sym (row_below a inner k (omega arith))

    chained : (i : ℕ) → suc first ≤ i → i < suc last → part (a ∷ outer) (i + 1) ≡ part (a ∷ inner) i + 1
    chained zero o l = absurd (omega arith)
    chained (suc k) o l =
        let c = h.counts in
        let d : suc k + 1 ≡ suc (k + 1) = omega arith in
        ap (part (a ∷ outer)) d ∙ row_below a outer (k + 1) (omega arith) ∙ h.chained k (omega arith) (omega arith) ∙ ap (λ n. n + 1) (sym (row_below a inner k (omega arith)))

-- the special rim hook h occupies the rows from `first` to the last row of the shape, and its sign is (-1)^(rows - first)
record EndsIn (parts : List ℕ) (h : SpecialHook) : Type 0 where
  first : ℕ
  hook : IsHookRows parts h.rest first (rows parts)
  signed : h.sign ≡ minus_one_to (rows parts - first)

hook_ends : (parts : List ℕ) (h : SpecialHook) → IsPartition parts → Among h (special_hooks parts) → EndsIn parts h
hook_ends [] h p m = absurd m
hook_ends (a ∷ parts) h p (inl e) =
    subst (EndsIn (a ∷ parts)) (sym e) (record {
      first = 1;
      hook = first_hook_rows a parts p.positive;
      signed = ap minus_one_to (let d : length parts ≡ suc (length parts) - 1 = omega arith in d);
    })
hook_ends (a ∷ parts) h p (inr m) =
    let found = Among_from_map (below_row a) h (special_hooks parts) m in
    let r = hook_ends parts found.0 (IsPartition_tail a parts p) found.1 in
    subst (EndsIn (a ∷ parts)) (sym found.2) (record {
      first = suc r.first;
      hook = lower_hook_rows a parts found.0.rest r.first (length parts) r.hook;
      signed = r.signed ∙ ap minus_one_to (let d : length parts - r.first ≡ suc (length parts) - suc r.first = omega arith in d);
    })

pub hook_height : (parts : List ℕ) (h : SpecialHook) → IsPartition parts → Among h (special_hooks parts)
    → IsRimHook parts h.rest × (h.sign ≡ minus_one_to (height parts h.rest - 1))
hook_height parts h p m =
    let r = hook_ends parts h p m in
    let o = r.hook.ordered in
    let t = height_of_rows parts h.rest r.first (rows parts) p.falls r.hook in (
      hook_from_rows parts h.rest r.first (rows parts) p.falls r.hook,
      r.signed ∙ ap minus_one_to (let d : rows parts - r.first ≡ height parts h.rest - 1 = omega arith in d),
    )
