-- The rim hooks that can be added to a partition (specs/AddedHooks).
--     ending_none, ending_one    the list of the rim hooks with a given last row is empty or has one member
--     ending_next                this list, followed by the rim hooks with a later last row
--     hooks_added                `hooks_ending_after` with last = 0 lists all rim hooks, in decreasing lexicographic order
use Rattle.std.proofs.Common.{◌≡◌, ◌⊎◌, ℕ, suc, ◌+◌, ◌-◌, ◌<◌, ◌≤◌, Bool, true, false, List, [], ◌∷◌, ◌++◌, refl, sym, ap, ◌∙◌, subst, inl, inr, arith, flat_map, rules}
use Rattle.std.proofs.lemmas.Bool.{cases_lt, cases_eq}
use Rattle.sym_model.specs.Sum.{Among}
use Rattle.sym_model.specs.Partition.{Falls, IsPartition, after, part, rows, size}
use Rattle.sym_model.specs.PartitionList.{FallsLexicographically}
use Rattle.sym_model.specs.PrintedOrder.{falling_lexicographic}
use Rattle.std.specs.declared.cmp.Ordering.TheVariants.{Less}
use Rattle.sym_model.specs.Strip.{IsRimHook, height}
use Rattle.sym_model.proofs.AfterLists.{after_among, among_after, once_after}
use Rattle.sym_model.proofs.SortedParts.{IsPartition-without_last_zeros}
use Rattle.sym_model.proofs.Sums.{Among-each, Among_from_each}
use Rattle.strip_laws.specs.HookRows.{IsHookRows}
use Rattle.strip_laws.proofs.HookSizes.{hook_size, hook_ends}
use Rattle.strip_laws.proofs.RimHooks.{hook_from_rows, hook_rows, height_of_rows}
use Rattle.strip_laws.proofs.Strips.{falls_part, falls_far}
use Rattle.skew_shapes.specs.HookLists.{AreHooksAdded}
use Rattle.skew_shapes.specs.AddedHooks.{can_add, added_row, with_hook, hooks_ending, hooks_ending_after, BeginsFrom}
use Rattle.skew_shapes.proofs.LoneShapes.{none_fits, one_fits, among_fitting, from_fitting, fall_after, fall_fitting, before_by_row, same_rows, rows_at, rows_fall}
use Rattle.std.proofs.lemmas.List.{get_or_past}

-- ---- the test `can_add`: whether a rim hook of k cells in the rows first, .., last can be added to inner

pub record CanAdd (k : ℕ) (inner : List ℕ) (first last : ℕ) : Type 0 where
  pub longer : part inner first + (last - first) < part inner last + k
  pub below : (first ≡ 1) ⊎ (part inner last + k ≤ part inner (first - 1) + (last - first))

pub can_add-tells : (k : ℕ) (inner : List ℕ) (first last : ℕ) → can_add k inner first last ≡ true → CanAdd k inner first last
can_add-tells k inner first last e = search rules

pub can_add-from : (k : ℕ) (inner : List ℕ) (first last : ℕ) → CanAdd k inner first last → can_add k inner first last ≡ true
can_add-from k inner first last c = search rules

-- if rim hooks of k cells can be added to inner in the rows first, .., last and in the rows next, .., end with last ≤ end, then first ≤ next
pub later_begins : (k : ℕ) (inner : List ℕ) (first last next end : ℕ) → Falls inner → 1 ≤ next → first ≤ last → next ≤ end → last ≤ end
    → CanAdd k inner first last → CanAdd k inner next end → first ≤ next
later_begins k inner first last next end f h o p l c d = search (rules, cases_lt, falls_far)

-- ---- the list `hooks_ending` of the partitions with an added rim hook whose last row is `last` has at most one member

pub ending_none : (k : ℕ) (inner : List ℕ) (first last : ℕ) → Falls inner → BeginsFrom k inner first last → first ≤ last
    → (first < last → part inner first + last < part inner last + k + first) → can_add k inner first last ≡ false → hooks_ending k inner last ≡ []
ending_none k inner first last f b o h n =
    none_fits (λ i. can_add k inner i last) (λ i. with_hook k inner i last) (after 0 last) (λ i m.
    let r = after_among 0 last i m in
    by i r.0 (omega (arith, r.1)) (can_add k inner i last) refl)
  where
    fails : (i : ℕ) → 1 ≤ i → i ≤ last → CanAdd k inner i last → (i < first) ⊎ (first ≤ i) → (i ≡ first) ⊎ (i ≡ first → ⊥) → i ≡ first
    fails i l m c (inl s) e = let x = b.passed i l s in let y = c.longer in absurd (omega arith)
    fails i l m c (inr s) (inl e) = e
    fails i l m c (inr s) (inr d) = elim c.below [
      | inl e ↦ (let p = b.counts in absurd (omega arith))
      | inr e ↦ (let p = b.counts in let x = falls_far inner f first (i - 1) p (omega arith) in let y = h (omega arith) in absurd (omega arith))
    ]

    by : (i : ℕ) → 1 ≤ i → i ≤ last → (t : Bool) → can_add k inner i last ≡ t → t ≡ false
    by i l m false e = refl
    by i l m true e =
        let d = fails i l m (can_add-tells k inner i last e) (cases_lt i first) (cases_eq i first) in
        sym e ∙ ap (λ j. can_add k inner j last) d ∙ n

pub ending_one : (k : ℕ) (inner : List ℕ) (first last : ℕ) → Falls inner → 1 ≤ first → first ≤ last → can_add k inner first last ≡ true
    → hooks_ending k inner last ≡ with_hook k inner first last ∷ []
ending_one k inner first last f h o t =
    one_fits (λ i. can_add k inner i last) (λ i. with_hook k inner i last) first (after 0 last) (once_after 0 last) (among_after 0 last first (omega arith) (omega arith)) t
    (λ j m e.
    let r = after_among 0 last j m in
    let r0 = r.0 in
    let r1 = r.1 in
    let c = can_add-tells k inner first last t in
    let d = can_add-tells k inner j last e in
    let x = later_begins k inner first last j last f (omega arith) o (omega arith) (omega arith) c d in
    let y = later_begins k inner j last first last f h (omega arith) o (omega arith) d c in
    omega arith)

pub ending_next : (k : ℕ) (inner : List ℕ) (last : ℕ) → last < rows inner + k → hooks_ending_after k inner last ≡ hooks_ending k inner (last + 1) ++ hooks_ending_after k inner (last + 1)
ending_next k inner last l =
    ap (λ n. flat_map (hooks_ending k inner) (after last n)) (let e : rows inner + k - last ≡ suc (rows inner + k - (last + 1)) = omega arith in e)

pub begins_next : (k : ℕ) (inner : List ℕ) (first last : ℕ) → Falls inner → BeginsFrom k inner first last → BeginsFrom k inner first (last + 1)
begins_next k inner first last f b = search (rules, falls_part)

-- ---- the lengths of the rows of inner with a rim hook added (`added_row`)

outside_row : (k : ℕ) (inner : List ℕ) (first last i : ℕ) → (i < first) ⊎ (last < i) → added_row k inner first last i ≡ part inner i
outside_row k inner first last i h = search rules

first_row : (k : ℕ) (inner : List ℕ) (first last : ℕ) → first ≤ last → added_row k inner first last first ≡ part inner last + k - (last - first)
first_row k inner first last o = search rules

later_row : (k : ℕ) (inner : List ℕ) (first last i : ℕ) → first < i → i ≤ last → added_row k inner first last i ≡ part inner (i - 1) + 1
later_row k inner first last i h l = search rules

chained_row : (k : ℕ) (inner : List ℕ) (first last i : ℕ) → first ≤ i → i < last → added_row k inner first last (i + 1) ≡ part inner i + 1
chained_row k inner first last i h l = later_row k inner first last (i + 1) (omega arith) (omega arith) ∙ ap (λ j. part inner j + 1) (let e : i + 1 - 1 ≡ i = omega arith in e)

last_row : (k : ℕ) (inner : List ℕ) (first last : ℕ) → Falls inner → 1 ≤ first → first ≤ last → CanAdd k inner first last → part inner last < added_row k inner first last last
last_row k inner first last f h o c = search (rules, cases_lt, later_row, falls_far, first_row)

rows_falling : (k : ℕ) (inner : List ℕ) (first last : ℕ) → Falls inner → 1 ≤ first → first ≤ last → CanAdd k inner first last
    → (i : ℕ) → 0 < i → added_row k inner first last (i + 1) ≤ added_row k inner first last i
rows_falling k inner first last f h o c i l =
    search (rules, cases_lt, cases_eq, outside_row, falls_part, first_row, chained_row, later_row, falls_far, last_row)

pub hook_part : (k : ℕ) (inner : List ℕ) (first last i : ℕ) → 1 ≤ i → part (with_hook k inner first last) i ≡ added_row k inner first last i
hook_part k inner first last i h = search (rules, rows_at, outside_row, get_or_past)

pub hook_is : (k : ℕ) (inner : List ℕ) (first last : ℕ) → Falls inner → 1 ≤ first → first ≤ last → CanAdd k inner first last
    → IsHookRows (with_hook k inner first last) inner first last
hook_is k inner first last f h o c = search (rules, hook_part, outside_row, chained_row, last_row)

pub hook_partition : (k : ℕ) (inner : List ℕ) (first last : ℕ) → Falls inner → 1 ≤ first → first ≤ last → CanAdd k inner first last → IsPartition (with_hook k inner first last)
hook_partition k inner first last f h o c = search (rules, IsPartition-without_last_zeros, rows_fall, rows_falling)

pub hook_cells : (k : ℕ) (inner : List ℕ) (first last : ℕ) → Falls inner → 1 ≤ first → first ≤ last → CanAdd k inner first last
    → size (with_hook k inner first last) ≡ size inner + k
hook_cells k inner first last f h o c =
    let e = hook_size (with_hook k inner first last) inner first last (hook_is k inner first last f h o c) in
    let a = hook_part k inner first last first h in
    let b = first_row k inner first last o in
    let x = c.longer in
    omega arith

pub hook_height : (k : ℕ) (inner : List ℕ) (first last : ℕ) → Falls inner → 1 ≤ first → first ≤ last → can_add k inner first last ≡ true
    → last + 1 - first ≡ height (with_hook k inner first last) inner
hook_height k inner first last f h o t =
    let c = can_add-tells k inner first last t in
    sym (height_of_rows (with_hook k inner first last) inner first last (hook_partition k inner first last f h o c).falls (hook_is k inner first last f h o c))

record IsFound (k : ℕ) (inner ν : List ℕ) (first last : ℕ) : Type 0 where
  pub counts : 1 ≤ first
  pub ordered : first ≤ last
  pub within : last ≤ rows inner + k
  pub fits : CanAdd k inner first last
  pub is : ν ≡ with_hook k inner first last

found : (k : ℕ) (inner ν : List ℕ) (first last : ℕ) → Falls inner → IsPartition ν → size ν ≡ size inner + k → IsHookRows ν inner first last → IsFound k inner ν first last
found k inner ν first last f p s h = record { counts = h.counts; ordered = h.ordered; within = within (cases_lt (rows inner) last) (cases_lt (rows inner + 1) first); fits = fits; is = is }
  where
    more : part inner first < part ν first
    more = by (cases_lt first last)
      where
        by : (first < last) ⊎ (last ≤ first) → part inner first < part ν first
        by (inl l) = let c = h.chained first (omega arith) l in let q = falls_part ν p.falls first h.counts in omega arith
        by (inr l) = let o = h.ordered in let d : last ≡ first = omega arith in subst (λ j. part inner j < part ν j) d h.end

    above : 1 < first → part ν first ≤ part inner (first - 1)
    above l =
        let e = h.above (first - 1) (omega arith) (omega arith) in
        let q = falls_far ν p.falls (first - 1) first (omega arith) (omega arith) in
        omega arith

    fits : CanAdd k inner first last
    fits = record {
      longer = (let a = more in let b = hook_ends ν inner first last k h s in omega arith);
      below = elim (cases_lt 1 first) [ inl l ↦ inr (let a = above l in let b = hook_ends ν inner first last k h s in omega arith) | inr l ↦ inl (let c = h.counts in omega arith) ];
    }

    within : (rows inner < last) ⊎ (last ≤ rows inner) → (rows inner + 1 < first) ⊎ (first ≤ rows inner + 1) → last ≤ rows inner + k
    within (inr l) b = omega arith
    within (inl l) (inl m) = let z = get_or_past inner (first - 1 - 1) 0 (omega arith) in let a = above (omega arith) in let c = more in absurd (omega arith)
    within (inl l) (inr m) = let z = get_or_past inner (last - 1) 0 (omega arith) in let c = more in let b = hook_ends ν inner first last k h s in let o = h.ordered in omega arith

    row : (i : ℕ) → 1 ≤ i → (i < first) ⊎ (first ≤ i) → (last < i) ⊎ (i ≤ last) → (i ≡ first) ⊎ (i ≡ first → ⊥) → part ν i ≡ added_row k inner first last i
    row i l (inl a) b c = h.above i l a ∙ sym (outside_row k inner first last i (inl a))
    row i l (inr a) (inl b) c = h.below i b ∙ sym (outside_row k inner first last i (inr b))
    row i l (inr a) (inr b) (inl c) =
        let e = ap (added_row k inner first last) c ∙ first_row k inner first last h.ordered in
        let d = ap (part ν) c in
        let q = hook_ends ν inner first last k h s in
        omega arith
    row i l (inr a) (inr b) (inr c) =
        let e = chained_row k inner first last (i - 1) (omega arith) (omega arith) in
        let d = h.chained (i - 1) (omega arith) (omega arith) in
        let n : i - 1 + 1 ≡ i = omega arith in
        ap (part ν) (sym n) ∙ d ∙ sym e ∙ ap (added_row k inner first last) n

    is : ν ≡ with_hook k inner first last
    is = same_rows ν (with_hook k inner first last) p.positive (hook_partition k inner first last f h.counts h.ordered fits).positive
        (λ i l. row i l (cases_lt i first) (cases_lt last i) (cases_eq i first) ∙ sym (hook_part k inner first last i l))

-- ---- the whole list of the partitions made by adding a rim hook: its order, and its members

first_before : (k : ℕ) (inner : List ℕ) (first last next end : ℕ) → Falls inner → 1 ≤ first → 1 ≤ next → first ≤ last → next ≤ end → last < end
    → CanAdd k inner first last → CanAdd k inner next end
    → falling_lexicographic (with_hook k inner first last) (with_hook k inner next end) ≡ Less
first_before k inner first last next end f h g o p l c d =
    let n = later_begins k inner first last next end f g o p (omega arith) c d in
    before_by_row first (with_hook k inner first last) (with_hook k inner next end) h
    (λ i q r. hook_part k inner first last i q ∙ outside_row k inner first last i (inl r) ∙ sym (hook_part k inner next end i q ∙ outside_row k inner next end i (inl (omega arith))))
    (by (cases_lt first next) n)
  where
    by : (first < next) ⊎ (next ≤ first) → first ≤ next → part (with_hook k inner next end) first < part (with_hook k inner first last) first
    by (inl m) n =
        let x = hook_part k inner first last first h ∙ first_row k inner first last o in
        let y = hook_part k inner next end first h ∙ outside_row k inner next end first (inl m) in
        let z = c.longer in
        omega arith
    by (inr m) n =
        let e : first ≡ next = omega arith in
        let x = hook_part k inner first last first h ∙ first_row k inner first last o in
        let y = hook_part k inner next end first h ∙ ap (added_row k inner next end) e ∙ first_row k inner next end p in
        let z = c.longer in
        let w = falls_far inner f last end (omega arith) (omega arith) in
        omega arith

listed_row : (k : ℕ) (inner : List ℕ) (last : ℕ) (ν : List ℕ) → Among ν (hooks_ending k inner last)
    → (first : ℕ) × (1 ≤ first) × (first ≤ last) × CanAdd k inner first last × (ν ≡ with_hook k inner first last)
listed_row k inner last ν m =
    let r = from_fitting (λ i. can_add k inner i last) (λ i. with_hook k inner i last) ν (after 0 last) m in
    let s = after_among 0 last r.0 r.1 in
    (r.0, (let a = s.0 in omega arith), (let b = s.1 in omega arith), can_add-tells k inner r.0 last r.2, r.3)

added_fall : (k : ℕ) (inner : List ℕ) → Falls inner → FallsLexicographically (hooks_ending_after k inner 0)
added_fall k inner f =
    fall_after (hooks_ending k inner) 0 (rows inner + k - 0)
    (λ last l m.
    fall_fitting (λ i. can_add k inner i last) (λ i. with_hook k inner i last) 0 last (λ i j a b c s t.
    let x = later_begins k inner j last i last f a (omega arith) (omega arith) (omega arith) (can_add-tells k inner j last t) (can_add-tells k inner i last s) in
    absurd (omega arith)))
    (λ i j x y a b c m n.
    let r = listed_row k inner i x m in
    let s = listed_row k inner j y n in
    subst (λ z. falling_lexicographic z y ≡ Less) (sym r.4)
    (subst (λ z. falling_lexicographic (with_hook k inner r.0 i) z ≡ Less) (sym s.4)
    (first_before k inner r.0 i s.0 j f r.1 s.1 r.2 s.2 b r.3 s.3)))

pub hooks_added : (k : ℕ) (inner : List ℕ) → IsPartition inner → AreHooksAdded inner k (hooks_ending_after k inner 0)
hooks_added k inner p = record {
  falls = added_fall k inner p.falls;
  members = λ ν. (
    λ m.
        let r = Among_from_each (hooks_ending k inner) ν (after 0 (rows inner + k - 0)) m in
        let s = listed_row k inner r.0 ν r.2 in
        let q = hook_partition k inner s.0 r.0 p.falls s.1 s.2 s.3 in
        subst (λ z. IsPartition z × (size z ≡ size inner + k) × IsRimHook z inner) (sym s.4)
        (q, hook_cells k inner s.0 r.0 p.falls s.1 s.2 s.3, hook_from_rows (with_hook k inner s.0 r.0) inner s.0 r.0 q.falls (hook_is k inner s.0 r.0 p.falls s.1 s.2 s.3)),
    λ is.
        let r = hook_rows ν inner is.0.falls p.falls is.2 in
        let g = found k inner ν r.0 r.1 p.falls is.0 is.1 r.2 in
        let a = g.counts in
        let b = g.ordered in
        let c = g.within in
        Among-each (hooks_ending k inner) r.1 ν (after 0 (rows inner + k - 0)) (among_after 0 (rows inner + k - 0) r.1 (omega arith) (omega arith))
        (subst (λ z. Among z (hooks_ending k inner r.1)) (sym g.is)
        (among_fitting (λ i. can_add k inner i r.1) (λ i. with_hook k inner i r.1) r.0 (after 0 r.1) (among_after 0 r.1 r.0 (omega arith) (omega arith)) (can_add-from k inner r.0 r.1 g.fits))),
  );
}
