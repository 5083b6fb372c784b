-- The covers of a permutation w that exchange the letter at a given place r with another letter: the number of these covers, and the number of their
-- letters.
use Rattle.std.proofs.Common.{ℕ, ◌+◌, ◌-◌, ◌<◌, ◌≤◌, ◌==◌, max, List, map, length, sym, ap, subst, arith, length-append}
use Rattle.sym_model.specs.Sum.{Among}
use Rattle.sym_model.specs.Partition.{after}
use Rattle.sym_model.specs.PlaceOrders.{inversions}
use Rattle.sym_model.specs.Permutation.{with_fixed, kept, times_swap, covers_among, covers_up, covers_down}
use Rattle.sym_model.proofs.AfterLists.{length_after, after_among}
use Rattle.sym_model.proofs.Sums.{Among_from_map, Among_from_select}
use Rattle.schubert_laws.proofs.MonkFromOne.{swap_is}
use Rattle.schubert_laws.proofs.Swaps.{swap_at, length-swap_at}
use Rattle.schubert_laws.proofs.Members.{fewer_kept}
use Rattle.std.proofs.lemmas.List.{length-map}
use Rattle.sym_model.proofs.Lists.{length-filter-within}

some_covers : (w : List ℕ) (f : ℕ → List ℕ) (a k : ℕ) → length (covers_among w (map f (after a k))) ≤ k
some_covers w f a k =
    let s = length-filter-within (λ (v : List ℕ). inversions v == inversions w + 1) (map f (after a k)) in
    let m = length-map (after a k) f in
    let l = length_after a k in
    omega arith

pub count_covers_down : (r : ℕ) (w : List ℕ) → length (covers_down r w) ≤ r - 1
count_covers_down r w = some_covers w (λ i. times_swap i r w) 0 (r - 1)

pub count_covers : (r : ℕ) (w : List ℕ) → 1 ≤ r → length (covers_up r w) + length (covers_down r w) ≤ max (length w) r
count_covers r w h =
    let a = some_covers w (λ j. times_swap r j w) r (max (length w) r + 1 - r) in
    let b = some_covers w (λ i. times_swap i r w) 0 (r - 1) in
    omega arith

length_swap : (w : List ℕ) (i j : ℕ) → 1 ≤ i → i < j → length (times_swap i j w) ≤ max (length w) j
length_swap w i j h l =
    let long : List ℕ = with_fixed j w in
    let e = length-append w (after (length w) (j - length w)) in
    let f = length_after (length w) (j - length w) in
    let a : i - 1 < length (with_fixed j w) = omega arith in
    let b : j - 1 < length (with_fixed j w) = omega arith in
    let k = fewer_kept (swap_at (i - 1) (j - 1) (with_fixed j w)) in
    let d = length-swap_at (i - 1) (j - 1) (with_fixed j w) in
    subst (λ x. length (kept x) ≤ max (length w) j) (sym (swap_is (with_fixed j w) (i - 1) (j - 1) a b)) (omega arith)

pub up_within : (r most : ℕ) (w x : List ℕ) → 1 ≤ r → max (length w) r + 1 ≤ most → Among x (covers_up r w) → length x ≤ most
up_within r most w x h m i =
    let a = Among_from_select (λ (v : List ℕ). inversions v == inversions w + 1) x (map (λ j. times_swap r j w) (after r (max (length w) r + 1 - r))) i in
    let c = Among_from_map (λ j. times_swap r j w) x (after r (max (length w) r + 1 - r)) a.0 in
    let g = after_among r (max (length w) r + 1 - r) c.0 c.1 in
    let g0 = g.0 in
    let g1 = g.1 in
    let l = length_swap w r c.0 h g0 in
    let e = ap length c.2 in
    omega arith

pub down_within : (r most : ℕ) (w x : List ℕ) → max (length w) r + 1 ≤ most → Among x (covers_down r w) → length x ≤ most
down_within r most w x m i =
    let a = Among_from_select (λ (v : List ℕ). inversions v == inversions w + 1) x (map (λ j. times_swap j r w) (after 0 (r - 1))) i in
    let c = Among_from_map (λ j. times_swap j r w) x (after 0 (r - 1)) a.0 in
    let g = after_among 0 (r - 1) c.0 c.1 in
    let g0 = g.0 in
    let g1 = g.1 in
    let l = length_swap w c.0 r (omega arith) (omega arith) in
    let e = ap length c.2 in
    omega arith
