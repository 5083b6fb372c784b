-- The permutations on the right side of the transition rule have at most as many letters as the one on the left side.
use Rattle.std.proofs.Common.{◌≡◌, ℕ, ◌+◌, ◌-◌, ◌<◌, ◌≤◌, List, ◌==◌, map, length, sym, ap, subst, arith, length-append, eqb-true, rules}
use Rattle.sym_model.specs.Sum.{Among}
use Rattle.sym_model.specs.Partition.{after}
use Rattle.sym_model.specs.PlaceOrders.{inversions}
use Rattle.sym_model.specs.Permutation.{IsOneLine, IsTransition, kept, times_swap, covers_down}
use Rattle.sym_model.proofs.AfterLists.{length_after, after_among}
use Rattle.sym_model.proofs.Sums.{Among_from_map, Among_from_select}
use Rattle.schubert_laws.proofs.FixedTails.{one_line_added, one_line_kept}
use Rattle.schubert_laws.proofs.LowerPermutations.{kept_whole}
use Rattle.schubert_laws.proofs.MonkFromOne.{one_line_swap, swap_is}
use Rattle.schubert_laws.proofs.Swaps.{swap_at, length-swap_at}
use Rattle.schubert_laws.proofs.TransitionFromOne.{step_of}
use Rattle.schubert_laws.specs.TransitionOrder.{IsShort}

pub fewer_kept : (w : List ℕ) → length (kept w) ≤ length w
fewer_kept w = let t = kept_whole w in omega (arith, ap length t.1, length-append (kept w) (after (length (kept w)) t.0))

pub short_swap : (n : ℕ) (w : List ℕ) (i j : ℕ) → IsShort n w → 1 ≤ i → i < j → j ≤ n → IsShort n (times_swap i j w)
short_swap n w i j s h l m =
    search (rules, length-append, length_after, one_line_swap, one_line_added, swap_is, fewer_kept, swap_at, length-swap_at, one_line_kept)

pub short_transition : (n : ℕ) (w : List ℕ) (r s : ℕ) → IsShort n w → IsTransition w r s → IsShort n (times_swap r s w)
short_transition n w r s h t =
    let p = step_of w r s h.one_line t in
    let a = p.2 in
    let b = p.3 in
    let c = p.4.order in
    let d = p.4.inside in
    let few = h.few in
    short_swap n w r s h (omega arith) (omega arith) (omega arith)

pub place_within : (w : List ℕ) (r s : ℕ) → IsOneLine w → IsTransition w r s → (1 ≤ r) × (r < length w) × (r < s) × (s ≤ length w)
place_within w r s o t = search (rules, step_of)

pub short_cover : (n r : ℕ) (u x : List ℕ) → IsShort n u → r ≤ n → Among x (covers_down r u) → IsShort n x
short_cover n r u x s h m =
    let a = Among_from_select (λ (v : List ℕ). inversions v == inversions u + 1) x (map (λ i. times_swap i r u) (after 0 (r - 1))) m in
    let c = Among_from_map (λ i. times_swap i r u) x (after 0 (r - 1)) a.0 in
    let g = after_among 0 (r - 1) c.0 c.1 in
    let g0 = g.0 in
    let g1 = g.1 in
    subst (IsShort n) (sym c.2) (short_swap n u c.0 r s (omega arith) (omega arith) h)

-- each member of `covers_down r u` has one inversion more than u
pub cover_inversions : (r : ℕ) (u x : List ℕ) → Among x (covers_down r u) → inversions x ≡ inversions u + 1
cover_inversions r u x m =
    let a = Among_from_select (λ (v : List ℕ). inversions v == inversions u + 1) x (map (λ i. times_swap i r u) (after 0 (r - 1))) m in
    eqb-true (inversions x) (inversions u + 1) a.1
