-- The rim hooks that can be removed from a partition (specs/RemovedHooks).
--     beginning_none, beginning_one    the list of the rim hooks with a given first row is empty or has one member
--     beginning_next                   this list, followed by the rim hooks with a smaller first row
--     hooks_removed                    `hooks_beginning_within` lists all rim hooks, in decreasing lexicographic order
use Rattle.std.proofs.lemmas.Grind.{common_steps}
use Rattle.std.proofs.Common.{◌≡◌, ◌⊎◌, ℕ, zero, suc, ◌+◌, ◌-◌, ◌<◌, ◌≤◌, Bool, true, false, List, [], ◌∷◌, ◌++◌, refl, sym, ap, ◌∙◌, subst, inl, inr, arith, rules}
use Rattle.std.proofs.lemmas.Bool.{cases_lt, cases_eq}
use Rattle.std.specs.declared.cmp.Ordering.TheVariants.{Less}
use Rattle.sym_model.specs.Sum.{Among}
use Rattle.sym_model.specs.Partition.{Falls, IsPartition, after, part, rows, size}
use Rattle.sym_model.specs.PartitionList.{FallsLexicographically}
use Rattle.sym_model.specs.PrintedOrder.{falling_lexicographic}
use Rattle.sym_model.specs.Strip.{IsRimHook, height}
use Rattle.sym_model.proofs.AfterLists.{after_among, among_after, once_after}
use Rattle.sym_model.proofs.SortedParts.{IsPartition-without_last_zeros}
use Rattle.sym_model.proofs.Sums.{Among-append_left, Among-append_right, Among_from_append}
use Rattle.sym_model.proofs.PartitionLists.{FallsLexicographically-append}
use Rattle.strip_laws.specs.HookRows.{IsHookRows}
use Rattle.strip_laws.proofs.HookSizes.{hook_size, hook_ends}
use Rattle.strip_laws.proofs.RimHooks.{hook_from_rows, hook_rows, height_of_rows}
use Rattle.strip_laws.proofs.Strips.{falls_part, falls_far}
use Rattle.skew_shapes.specs.HookLists.{AreHooksRemoved}
use Rattle.skew_shapes.specs.RemovedHooks.{can_remove, left_row, without_hook, hooks_beginning, hooks_beginning_within, EndsUpTo}
use Rattle.skew_shapes.proofs.LoneShapes.{none_fits, one_fits, among_fitting, from_fitting, fall_fitting, before_by_row, same_rows, rows_at, rows_fall}
use Rattle.std.proofs.lemmas.List.{get_or_past}

-- ---- the test `can_remove`: whether a rim hook of k cells in the rows first, .., last can be removed from outer

pub record CanRemove (k : ℕ) (outer : List ℕ) (first last : ℕ) : Type 0 where
  pub below : part outer (last + 1) + k ≤ part outer first + (last - first)
  pub shorter : part outer first + (last - first) < part outer last + k

pub can_remove-tells : (k : ℕ) (outer : List ℕ) (first last : ℕ) → can_remove k outer first last ≡ true → CanRemove k outer first last
can_remove-tells k outer first last e = search rules

pub can_remove-from : (k : ℕ) (outer : List ℕ) (first last : ℕ) → CanRemove k outer first last → can_remove k outer first last ≡ true
can_remove-from k outer first last c = search rules

pub last_within : (k : ℕ) (outer : List ℕ) (first last : ℕ) → CanRemove k outer first last → (0 < part outer last) × (last ≤ rows outer)
last_within k outer first last c = grind (arith, common_steps)

no_two : (k : ℕ) (outer : List ℕ) (first last end : ℕ) → Falls outer → first ≤ last → last < end → CanRemove k outer first last → CanRemove k outer first end → ⊥
no_two k outer first last end f o l c d = search (rules, falls_far)

-- ---- the list `hooks_beginning` of the partitions left by removing a rim hook whose first row is `first` has at most one member

pub beginning_none : (k : ℕ) (outer : List ℕ) (first last : ℕ) → Falls outer → EndsUpTo k outer first last → first ≤ last
    → (first < last → part outer first + last < part outer last + first + k) → can_remove k outer first last ≡ false → hooks_beginning k outer first ≡ []
beginning_none k outer first last f b o h n =
    none_fits (λ i. can_remove k outer first i) (λ i. without_hook k outer first i) (after (first - 1) (rows outer + 1 - first)) (λ i m.
    let r = after_among (first - 1) (rows outer + 1 - first) i m in
    let r0 = r.0 in
    let r1 = r.1 in
    let w = b.within in
    let s = b.counts in
    by i (omega arith) (omega arith) (can_remove k outer first i) refl)
  where
    fails : (i : ℕ) → first ≤ i → i ≤ rows outer → CanRemove k outer first i → (last < i) ⊎ (i ≤ last) → (i ≡ last) ⊎ (i ≡ last → ⊥) → i ≡ last
    fails i l m c (inl s) e = let x = b.passed i s m in let y = c.shorter in absurd (omega arith)
    fails i l m c (inr s) (inl e) = e
    fails i l m c (inr s) (inr d) =
        let x = c.below in
        let y = falls_far outer f (i + 1) last (omega arith) (omega arith) in
        let z = h (omega arith) in
        absurd (omega arith)

    by : (i : ℕ) → first ≤ i → i ≤ rows outer → (t : Bool) → can_remove k outer first i ≡ t → t ≡ false
    by i l m false e = refl
    by i l m true e =
        let d = fails i l m (can_remove-tells k outer first i e) (cases_lt last i) (cases_eq i last) in
        sym e ∙ ap (λ j. can_remove k outer first j) d ∙ n

pub beginning_one : (k : ℕ) (outer : List ℕ) (first last : ℕ) → Falls outer → 1 ≤ first → first ≤ last → can_remove k outer first last ≡ true
    → hooks_beginning k outer first ≡ without_hook k outer first last ∷ []
beginning_one k outer first last f h o t =
    let w = (last_within k outer first last (can_remove-tells k outer first last t)).1 in
    one_fits (λ i. can_remove k outer first i) (λ i. without_hook k outer first i) last (after (first - 1) (rows outer + 1 - first)) (once_after (first - 1) (rows outer + 1 - first))
    (among_after (first - 1) (rows outer + 1 - first) last (omega arith) (omega arith)) t
    (λ j m e.
    let r = after_among (first - 1) (rows outer + 1 - first) j m in
    let r0 = r.0 in
    only j (omega arith) (can_remove-tells k outer first last t) (can_remove-tells k outer first j e) (cases_lt j last) (cases_lt last j))
  where
    only : (j : ℕ) → first ≤ j → CanRemove k outer first last → CanRemove k outer first j → (j < last) ⊎ (last ≤ j) → (last < j) ⊎ (j ≤ last) → j ≡ last
    only j l c d (inl a) b = absurd (no_two k outer first j last f l a d c)
    only j l c d (inr a) (inl b) = absurd (no_two k outer first last j f o b c d)
    only j l c d (inr a) (inr b) = omega arith

pub beginning_next : (k : ℕ) (outer : List ℕ) (first : ℕ) → 1 < first
    → hooks_beginning_within k outer (first - 1) ≡ hooks_beginning k outer (first - 1) ++ hooks_beginning_within k outer (first - 1 - 1)
beginning_next k outer first h = search rules

pub ends_next : (k : ℕ) (outer : List ℕ) (first last : ℕ) → Falls outer → 1 < first → EndsUpTo k outer first last → EndsUpTo k outer (first - 1) last
ends_next k outer first last f h b = search (rules, falls_far)

-- ---- the lengths of the rows of outer after a rim hook is removed (`left_row`)

outside_row : (k : ℕ) (outer : List ℕ) (first last i : ℕ) → (i < first) ⊎ (last < i) → left_row k outer first last i ≡ part outer i
outside_row k outer first last i h = search rules

last_row : (k : ℕ) (outer : List ℕ) (first last : ℕ) → first ≤ last → left_row k outer first last last ≡ part outer first + (last - first) - k
last_row k outer first last o = search rules

earlier_row : (k : ℕ) (outer : List ℕ) (first last i : ℕ) → first ≤ i → i < last → left_row k outer first last i ≡ part outer (i + 1) - 1
earlier_row k outer first last i h l = search rules

row_shorter : (k : ℕ) (outer : List ℕ) (first last i : ℕ) → Falls outer → 1 ≤ first → first ≤ i → i ≤ last → CanRemove k outer first last → left_row k outer first last i < part outer i
row_shorter k outer first last i f h l m c = search (rules, cases_eq, last_row, earlier_row, last_within, falls_far, falls_part)

rows_falling : (k : ℕ) (outer : List ℕ) (first last : ℕ) → Falls outer → 1 ≤ first → first ≤ last → CanRemove k outer first last
    → (i : ℕ) → 0 < i → left_row k outer first last (i + 1) ≤ left_row k outer first last i
rows_falling k outer first last f h o c i l = search (rules, cases_lt, cases_eq, outside_row, falls_part, row_shorter, earlier_row, last_row)

pub left_part : (k : ℕ) (outer : List ℕ) (first last i : ℕ) → CanRemove k outer first last → 1 ≤ i → part (without_hook k outer first last) i ≡ left_row k outer first last i
left_part k outer first last i c h = search (rules, last_within, rows_at, outside_row, get_or_past)

pub hook_is : (k : ℕ) (outer : List ℕ) (first last : ℕ) → Falls outer → 1 ≤ first → first ≤ last → CanRemove k outer first last
    → IsHookRows outer (without_hook k outer first last) first last
hook_is k outer first last f h o c = search (rules, left_part, outside_row, earlier_row, last_within, falls_far, row_shorter)

pub left_partition : (k : ℕ) (outer : List ℕ) (first last : ℕ) → Falls outer → 1 ≤ first → first ≤ last → CanRemove k outer first last → IsPartition (without_hook k outer first last)
left_partition k outer first last f h o c = search (rules, IsPartition-without_last_zeros, rows_fall, rows_falling)

pub left_cells : (k : ℕ) (outer : List ℕ) (first last : ℕ) → Falls outer → 1 ≤ first → first ≤ last → CanRemove k outer first last
    → size outer ≡ size (without_hook k outer first last) + k
left_cells k outer first last f h o c =
    let e = hook_size outer (without_hook k outer first last) first last (hook_is k outer first last f h o c) in
    let a = left_part k outer first last last c (omega arith) in
    let b = last_row k outer first last o in
    let x = c.below in
    omega arith

pub left_height : (k : ℕ) (outer : List ℕ) (first last : ℕ) → Falls outer → 1 ≤ first → first ≤ last → can_remove k outer first last ≡ true
    → last + 1 - first ≡ height outer (without_hook k outer first last)
left_height k outer first last f h o t =
    sym (height_of_rows outer (without_hook k outer first last) first last f (hook_is k outer first last f h o (can_remove-tells k outer first last t)))

record IsFound (k : ℕ) (outer ν : List ℕ) (first last : ℕ) : Type 0 where
  pub counts : 1 ≤ first
  pub ordered : first ≤ last
  pub fits : CanRemove k outer first last
  pub is : ν ≡ without_hook k outer first last

found : (k : ℕ) (outer ν : List ℕ) (first last : ℕ) → Falls outer → IsPartition ν → size outer ≡ size ν + k → IsHookRows outer ν first last → IsFound k outer ν first last
found k outer ν first last f p s h = record { counts = h.counts; ordered = h.ordered; fits = fits; is = is }
  where
    fits : CanRemove k outer first last
    fits = record {
      below = (let a = h.below (last + 1) (omega arith) in let c = h.counts in let o = h.ordered in let b = falls_part ν p.falls last (omega arith) in let d = sym (hook_ends outer ν first last k h s) in omega arith);
      shorter = (let a = h.end in let d = sym (hook_ends outer ν first last k h s) in omega arith);
    }

    row : (i : ℕ) → 1 ≤ i → (i < first) ⊎ (first ≤ i) → (last < i) ⊎ (i ≤ last) → (i ≡ last) ⊎ (i ≡ last → ⊥) → part ν i ≡ left_row k outer first last i
    row i l (inl a) b c = sym (h.above i l a) ∙ sym (outside_row k outer first last i (inl a))
    row i l (inr a) (inl b) c = sym (h.below i b) ∙ sym (outside_row k outer first last i (inr b))
    row i l (inr a) (inr b) (inl c) =
        let e = ap (left_row k outer first last) c ∙ last_row k outer first last h.ordered in
        let d = ap (part ν) c in
        let q = sym (hook_ends outer ν first last k h s) in
        omega arith
    row i l (inr a) (inr b) (inr c) =
        let e = earlier_row k outer first last i a (omega arith) in
        let d = h.chained i a (omega arith) in
        omega arith

    is : ν ≡ without_hook k outer first last
    is = same_rows ν (without_hook k outer first last) p.positive (left_partition k outer first last f h.counts h.ordered fits).positive
        (λ i l. row i l (cases_lt i first) (cases_lt last i) (cases_eq i last) ∙ sym (left_part k outer first last i fits l))

-- ---- the whole list of the partitions left by removing a rim hook: its order, and its members

lower_before : (k : ℕ) (outer : List ℕ) (first last next end : ℕ) → Falls outer → 1 ≤ next → next < first → first ≤ last → next ≤ end
    → CanRemove k outer first last → CanRemove k outer next end
    → falling_lexicographic (without_hook k outer first last) (without_hook k outer next end) ≡ Less
lower_before k outer first last next end f g l o p c d =
    before_by_row next (without_hook k outer first last) (without_hook k outer next end) g
    (λ i q r. left_part k outer first last i c q ∙ outside_row k outer first last i (inl (omega arith)) ∙ sym (left_part k outer next end i d q ∙ outside_row k outer next end i (inl r)))
    (let x = left_part k outer first last next c g ∙ outside_row k outer first last next (inl l) in
    let y = left_part k outer next end next d g in
    let z = row_shorter k outer next end next f g (omega arith) p d in
    omega arith)

listed_row : (k : ℕ) (outer : List ℕ) (first : ℕ) (ν : List ℕ) → 1 ≤ first → Among ν (hooks_beginning k outer first)
    → (last : ℕ) × (first ≤ last) × CanRemove k outer first last × (ν ≡ without_hook k outer first last)
listed_row k outer first ν h m =
    let r = from_fitting (λ i. can_remove k outer first i) (λ i. without_hook k outer first i) ν (after (first - 1) (rows outer + 1 - first)) m in
    let s = after_among (first - 1) (rows outer + 1 - first) r.0 r.1 in
    (r.0, (let a = s.0 in omega arith), can_remove-tells k outer first r.0 r.2, r.3)

from_within : (k : ℕ) (outer : List ℕ) (n : ℕ) (ν : List ℕ) → Among ν (hooks_beginning_within k outer n) → (first : ℕ) × (1 ≤ first) × (first ≤ n) × Among ν (hooks_beginning k outer first)
from_within k outer zero ν m = absurd m
from_within k outer (suc n) ν m =
    by (Among_from_append ν (hooks_beginning k outer (suc n)) (hooks_beginning_within k outer n) m) (λ o. from_within k outer n ν o)
  where
    by : Among ν (hooks_beginning k outer (suc n)) ⊎ Among ν (hooks_beginning_within k outer n)
        → (Among ν (hooks_beginning_within k outer n) → (first : ℕ) × (1 ≤ first) × (first ≤ n) × Among ν (hooks_beginning k outer first))
        → (first : ℕ) × (1 ≤ first) × (first ≤ suc n) × Among ν (hooks_beginning k outer first)
    by (inl o) later = (suc n, omega arith, omega arith, o)
    by (inr o) later = let r = later o in (r.0, r.1, (let l = r.2 in omega arith), r.3)

among_within : (k : ℕ) (outer : List ℕ) (n first : ℕ) (ν : List ℕ) → 1 ≤ first → first ≤ n → Among ν (hooks_beginning k outer first) → Among ν (hooks_beginning_within k outer n)
among_within k outer zero first ν h l m = absurd (omega arith)
among_within k outer (suc n) first ν h l m = by (cases_eq first (suc n)) (λ o. among_within k outer n first ν h o m)
  where
    by : (first ≡ suc n) ⊎ (first ≡ suc n → ⊥) → (first ≤ n → Among ν (hooks_beginning_within k outer n)) → Among ν (hooks_beginning k outer (suc n) ++ hooks_beginning_within k outer n)
    by (inl e) later = Among-append_left ν (hooks_beginning k outer (suc n)) (hooks_beginning_within k outer n) (subst (λ j. Among ν (hooks_beginning k outer j)) e m)
    by (inr e) later = Among-append_right ν (hooks_beginning k outer (suc n)) (hooks_beginning_within k outer n) (later (omega arith))

beginning_fall : (k : ℕ) (outer : List ℕ) (first : ℕ) → Falls outer → 1 ≤ first → FallsLexicographically (hooks_beginning k outer first)
beginning_fall k outer first f h =
    fall_fitting (λ i. can_remove k outer first i) (λ i. without_hook k outer first i) (first - 1) (rows outer + 1 - first)
    (λ i j a b c s t. no_two k outer first i j f (omega arith) b (can_remove-tells k outer first i s) (can_remove-tells k outer first j t))

removed_fall : (k : ℕ) (outer : List ℕ) (n : ℕ) → Falls outer → FallsLexicographically (hooks_beginning_within k outer n)
removed_fall k outer zero f = tt
removed_fall k outer (suc n) f =
    FallsLexicographically-append (hooks_beginning k outer (suc n)) (hooks_beginning_within k outer n) (beginning_fall k outer (suc n) f (omega arith)) (removed_fall k outer n f)
    (λ x y m o.
    let u = from_within k outer n y o in
    let r = listed_row k outer (suc n) x (omega arith) m in
    let s = listed_row k outer u.0 y u.1 u.3 in
    subst (λ z. falling_lexicographic z y ≡ Less) (sym r.3)
    (subst (λ z. falling_lexicographic (without_hook k outer (suc n) r.0) z ≡ Less) (sym s.3)
    (lower_before k outer (suc n) r.0 u.0 s.0 f u.1 (let l = u.2 in omega arith) r.1 s.1 r.2 s.2)))

pub hooks_removed : (k : ℕ) (outer : List ℕ) → IsPartition outer → AreHooksRemoved outer k (hooks_beginning_within k outer (rows outer))
hooks_removed k outer p = record {
  falls = removed_fall k outer (rows outer) p.falls;
  members = λ ν. (
    λ m.
        let u = from_within k outer (rows outer) ν m in
        let s = listed_row k outer u.0 ν u.1 u.3 in
        subst (λ z. IsPartition z × (size outer ≡ size z + k) × IsRimHook outer z) (sym s.3) (
          left_partition k outer u.0 s.0 p.falls u.1 s.1 s.2,
          left_cells k outer u.0 s.0 p.falls u.1 s.1 s.2,
          hook_from_rows outer (without_hook k outer u.0 s.0) u.0 s.0 p.falls (hook_is k outer u.0 s.0 p.falls u.1 s.1 s.2),
        ),
    λ is.
        let r = hook_rows outer ν p.falls is.0.falls is.2 in
        let g = found k outer ν r.0 r.1 p.falls is.0 is.1 r.2 in
        let w = (last_within k outer r.0 r.1 g.fits).1 in
        let a = g.counts in
        let b = g.ordered in
        among_within k outer (rows outer) r.0 ν g.counts (omega arith)
        (subst (λ z. Among z (hooks_beginning k outer r.0)) (sym g.is)
        (among_fitting (λ i. can_remove k outer r.0 i) (λ i. without_hook k outer r.0 i) r.1 (after (r.0 - 1) (rows outer + 1 - r.0)) (among_after (r.0 - 1) (rows outer + 1 - r.0) r.1 (omega arith) (omega arith)) (can_remove-from k outer r.0 r.1 g.fits))),
  );
}
