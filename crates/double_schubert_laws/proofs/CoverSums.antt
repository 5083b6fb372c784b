-- Sums of a function `val` over the covers of a permutation w, for Monk's rule and the transition rule. A *cover* of w is w with two letters
-- exchanged, if it has one inversion more than w. Here `val` does not change if *fixed letters*, which are equal to their places, are added at the
-- end of w.
--     covers_sum      let w have fixed letters added at its end. The sum of `val` over the covers of w that exchange the places r and b, with the
--                     sign + for b > r and - for b < r, is the sum over the covers w·t_rj with j > r (`covers_up`) minus the sum over the covers
--                     w·t_ir with i < r (`covers_down`)
--     only_up         for v = w·t_rs of the transition rule, w is the only cover v·t_rj of v with j > r
use Rattle.std.proofs.Common.{◌≡◌, ℕ, suc, ◌+◌, ◌-◌, ◌<◌, ◌≤◌, max, List, ◌++◌, map, length, refl, sym, ◌∙◌, ap, ap₂, subst, arith, cond, ◌==◌, ℤ, pos, ◌-ℤ◌, neg_ℤ, length-append, eqb-true, eq-eqb, rules}
use Rattle.std.specs.List.{swap}
use Rattle.std.proofs.lemmas.Int.{ints}
use Rattle.std.proofs.lemmas.Bool.{ne_eqb}
use Rattle.sym_model.specs.Sum.{total, Once}
use Rattle.sym_model.specs.Partition.{after}
use Rattle.sym_model.specs.PlaceOrders.{inversions}
use Rattle.sym_model.specs.BetaList.{rising_pairs}
use Rattle.sym_model.specs.Permutation.{IsOneLine, kept, times_swap, covers_among, covers_up, covers_down}
use Rattle.sym_model.proofs.Exponents.{tests_agree}
use Rattle.sym_model.proofs.Sums.{total_among, total_map, total_select, total_neg, total_only}
use Rattle.sym_model.proofs.AfterLists.{length_after, after_among, among_after, once_after}
use Rattle.schubert_laws.proofs.FixedTails.{one_line_added, one_line_kept, kept_tail, tail_from_zero, inversions_added, inversions_kept, one_more_inversion, one_less_rising}
use Rattle.schubert_laws.proofs.Swaps.{swap_at, length-swap_at, swap_at_sym, once_swap}
use Rattle.schubert_laws.proofs.PlaceSums.{sum_below}
use Rattle.schubert_laws.proofs.MonkStep.{is_cover, signed, signed_up, signed_down, signed_same}
use Rattle.schubert_laws.proofs.MonkFromOne.{swap_is, one_line_swap, longer, longer_split, swap_added, sum_split}
use Rattle.schubert_laws.proofs.Transition.{IsStep, step_nearest, no_other, swap_there, raises_by_one, rises_chain, strict_get}

-- for each permutation w, adding fixed letters to w, up to m letters in all, does not change `val w`
pub record IsStable (m : ℕ) (val : List ℕ → ℤ) : Type 0 where
  pub added : (w : List ℕ) (k : ℕ) → IsOneLine w → length w + k ≤ m → val (w ++ after (length w) k) ≡ val w

pub kept_value : (m : ℕ) (val : List ℕ → ℤ) (w : List ℕ) → IsStable m val → IsOneLine w → length w ≤ m → val (kept w) ≡ val w
kept_value m val w s o h =
    let t = kept_tail w in
    let e = t.1 ∙ tail_from_zero (kept w) t.0 in
    let l = ap length e in
    let la = length-append (kept w) (after (length (kept w)) t.0) in
    let lb = length_after (length (kept w)) t.0 in
    sym (s.added (kept w) t.0 (one_line_kept w o) (omega arith)) ∙ ap val (sym e)

-- `val v` if v has one inversion more than w, otherwise 0
abbrev pub at_cover : (List ℕ → ℤ) → List ℕ → List ℕ → ℤ
at_cover val w v = cond (inversions v == inversions w + 1) (val v) (pos 0)

-- the value of `val` at the list w with the letters at the indices a and b exchanged, if this list is a cover of w; otherwise 0
abbrev pub at_swap : (List ℕ → ℤ) → List ℕ → ℕ → ℕ → ℤ
at_swap val w a b = cond (is_cover w a b) (val (swap_at a b w)) (pos 0)

cover_tests : (val : List ℕ → ℤ) (w long v x : List ℕ) → Once long → Once v → length v ≡ length long → inversions long ≡ inversions w → inversions x ≡ inversions v → val v ≡ val x
    → cond (rising_pairs long == suc (rising_pairs v)) (val v) (pos 0) ≡ at_cover val w x
cover_tests val w long v x o p l e f q = search (rules, tests_agree, one_more_inversion, eqb-true, eq-eqb, one_less_rising)

term_added : (m : ℕ) (val : List ℕ → ℤ) (w u : List ℕ) (t a b : ℕ) → IsStable m val → IsOneLine u → a < length u → b < length u → inversions u ≡ inversions w → length u + t ≤ m
    → at_swap val (u ++ after (length u) t) a b ≡ at_cover val w (kept (swap u a b))
term_added m val w u t a b s o h l e n =
    search (rules, one_line_swap, one_line_added, swap_added, swap_at, swap_is, length-swap_at, cover_tests, inversions_added, inversions_kept, kept_value)

cover_term : (m : ℕ) (val : List ℕ → ℤ) (w : List ℕ) (k i j : ℕ) → IsStable m val → IsOneLine w → 1 ≤ i → i < j → j ≤ length w + k + 1 → length w + k + 1 ≤ m
    → at_swap val (longer w k) (i - 1) (j - 1) ≡ at_cover val w (times_swap i j w)
cover_term m val w k i j s o c h l n =
    let la = length-append w (after (length w) (j - length w)) in
    let lb = length_after (length w) (j - length w) in
    let d = longer_split w k (j - length w) (omega arith) in
    subst (λ v. at_swap val v (i - 1) (j - 1) ≡ at_cover val w (times_swap i j w)) (sym d)
    (term_added m val w (w ++ after (length w) (j - length w)) (k + 1 - (j - length w)) (i - 1) (j - 1) s
    (one_line_added (j - length w) w o) (omega arith) (omega arith) (inversions_added (j - length w) w o) (omega arith))

covers_total : (val : List ℕ → ℤ) (w : List ℕ) (f : ℕ → List ℕ) (js : List ℕ) → total val (covers_among w (map f js)) ≡ total (λ j. at_cover val w (f j)) js
covers_total val w f js =
    total_select val (λ (v : List ℕ). inversions v == inversions w + 1) (map f js) ∙ total_map (at_cover val w) f js

at_swap_sym : (val : List ℕ → ℤ) (w : List ℕ) (a b : ℕ) → at_swap val w a b ≡ at_swap val w b a
at_swap_sym val w a b = ap (λ v. cond (rising_pairs w == suc (rising_pairs v)) (val v) (pos 0)) (swap_at_sym a b w)

pub covers_sum : (m : ℕ) (val : List ℕ → ℤ) (w : List ℕ) (k q : ℕ) → IsStable m val → IsOneLine w → k ≡ max (length w) (suc q) - length w → length w + k + 1 ≤ m
    → sum_below (length (longer w k)) (λ b. signed q b (at_swap val (longer w k) q b)) ≡ total val (covers_up (suc q) w) -ℤ total val (covers_down (suc q) w)
covers_sum m val w k q s o e n =
    let len = length-append w (after (length w) (k + 1)) in
    let len2 = length_after (length w) (k + 1) in
    let c = sum_split (length (longer w k)) q (λ b. signed q b (at_swap val (longer w k) q b)) (omega arith) in
    let here = signed_same q q (at_swap val (longer w k) q q) refl in
    let down = total_among (λ i. signed q (i - 1) (at_swap val (longer w k) q (i - 1))) (λ i. neg_ℤ (at_cover val w (times_swap i (suc q) w))) (after 0 q) (λ i mem.
    let r = after_among 0 q i mem in let x = r.0 in let y = r.1 in
    let z : suc q - 1 ≡ q = omega arith in
    signed_down q (i - 1) (at_swap val (longer w k) q (i - 1)) (omega arith)
    ∙ ap neg_ℤ (at_swap_sym val (longer w k) q (i - 1)
    ∙ ap (at_swap val (longer w k) (i - 1)) (sym z)
    ∙ cover_term m val w k i (suc q) s o (omega arith) (omega arith) (omega arith) n)) in
    let up = total_among (λ j. signed q (j - 1) (at_swap val (longer w k) q (j - 1))) (λ j. at_cover val w (times_swap (suc q) j w)) (after (q + 1) (length (longer w k) - (q + 1))) (λ j mem.
    let r = after_among (q + 1) (length (longer w k) - (q + 1)) j mem in let x = r.0 in let y = r.1 in
    let z : suc q - 1 ≡ q = omega arith in
    signed_up q (j - 1) (at_swap val (longer w k) q (j - 1)) (omega arith)
    ∙ ap (λ t. at_swap val (longer w k) t (j - 1)) (sym z)
    ∙ cover_term m val w k (suc q) j s o (omega arith) (omega arith) (omega arith) n) in
    let neg = total_neg (λ i. at_cover val w (times_swap i (suc q) w)) (after 0 q) in
    let s1 : q + 1 ≡ suc q = omega arith in
    let s2 : length (longer w k) - (q + 1) ≡ max (length w) (suc q) + 1 - suc q = omega arith in
    let s3 : q ≡ suc q - 1 = omega arith in
    let ups = covers_total val w (λ j. times_swap (suc q) j w) (after (suc q) (max (length w) (suc q) + 1 - suc q)) in
    let downs = covers_total val w (λ i. times_swap i (suc q) w) (after 0 (suc q - 1)) in
    let u = ap (λ l. total (λ j. at_cover val w (times_swap (suc q) j w)) l) (ap₂ after s1 s2) in
    let d = ap (λ t. total (λ i. at_cover val w (times_swap i (suc q) w)) (after 0 t)) s3 in
    omega (arith, ints)

pub only_up : (m : ℕ) (val : List ℕ → ℤ) (w : List ℕ) (q b : ℕ) → IsStable m val → IsOneLine w → IsStep w q b → length w + 1 ≤ m → total val (covers_up (suc q) (swap_at q b w)) ≡ val w
only_up m val w q b st o s n =
    let order = s.order in
    let inside = s.inside in
    let lu = length-swap_at q b w in
    let ou = one_line_swap q b w (omega arith) inside o in
    covers_total val (swap_at q b w) (λ j. times_swap (suc q) j (swap_at q b w)) (after (suc q) (max (length (swap_at q b w)) (suc q) + 1 - suc q))
    ∙ total_only (λ j. at_cover val (swap_at q b w) (times_swap (suc q) j (swap_at q b w))) (suc b) (after (suc q) (max (length (swap_at q b w)) (suc q) + 1 - suc q))
    (once_after (suc q) (max (length (swap_at q b w)) (suc q) + 1 - suc q))
    (among_after (suc q) (max (length (swap_at q b w)) (suc q) + 1 - suc q) (suc b) (omega arith) (omega arith))
    (λ j mem d. others j ou (after_among (suc q) (max (length (swap_at q b w)) (suc q) + 1 - suc q) j mem) lu d)
    ∙ ap (at_cover val (swap_at q b w)) (swap_there w q b order inside)
    ∙ ap (λ t. cond t (val (kept w)) (pos 0)) (eq-eqb (inversions (kept w)) (inversions (swap_at q b w) + 1) covers)
    ∙ kept_value m val w st o (omega arith)
  where
    covers : inversions (kept w) ≡ inversions (swap_at q b w) + 1
    covers =
        let order = s.order in
        let inside = s.inside in
        inversions_kept w o
        ∙ one_more_inversion (swap_at q b w) w (once_swap q b w (omega arith) inside o.once) o.once (sym (length-swap_at q b w))
        (raises_by_one q b 0 w order inside s.falls (λ c h l. strict_get w c b o.once (omega arith) inside (λ z. omega arith) (rises_chain q c b w s.rises h (omega arith) inside)))

    others : (j : ℕ) → IsOneLine (swap_at q b w) → (suc q < j) × (j ≤ suc q + (max (length (swap_at q b w)) (suc q) + 1 - suc q)) → length (swap_at q b w) ≡ length w → (j ≡ suc b → ⊥)
        → at_cover val (swap_at q b w) (times_swap (suc q) j (swap_at q b w)) ≡ pos 0
    others j ou r lu d =
        let order = s.order in
        let inside = s.inside in
        let x = r.0 in
        let y = r.1 in
        let i : suc q - 1 ≡ q = omega arith in
        sym (cover_term m val (swap_at q b w) 0 (suc q) j st ou (omega arith) x (omega arith) (omega arith))
        ∙ ap (λ t. at_swap val (longer (swap_at q b w) 0) t (j - 1)) i
        ∙ ap (λ t. cond t (val (swap_at q (j - 1) (longer (swap_at q b w) 0))) (pos 0))
        (ne_eqb (rising_pairs (longer (swap_at q b w) 0)) (suc (rising_pairs (swap_at q (j - 1) (longer (swap_at q b w) 0))))
        (no_other w q b (j - 1) o (step_nearest w q b s) (omega arith) (omega arith) (λ z. d (omega arith))))
