-- The transition rule as `monk_law` states it: with places counted from 1, and permutations without the fixed letters at their end.
use Rattle.std.proofs.Common.{◌≡◌, ℕ, suc, ◌+◌, ◌-◌, ◌<◌, ◌≤◌, List, ◌++◌, ◌==◌, map, length, get_or, sym, ◌∙◌, ap, subst, arith, inl, inr, length-append, append_assoc, Some, filter, rules}
use Rattle.std.specs.List.{swap}
use Rattle.std.proofs.lemmas.List.{append-nil, get_or_past, get_or_default}
use Rattle.std.proofs.lemmas.Bool.{cases_lt}
use Rattle.sym_model.specs.Polynomial.{Same, coefficient, plus, times}
use Rattle.sym_model.specs.Partition.{after}
use Rattle.sym_model.specs.PlaceOrders.{inversions}
use Rattle.sym_model.specs.Permutation.{IsOneLine, IsTransition, with_fixed, kept, times_swap, covers_among, covers_down}
use Rattle.sym_model.specs.DividedDifference.{variable_in}
use Rattle.sym_model.specs.Schubert.{schubert_in, schuberts_in}
use Rattle.sym_model.proofs.Polynomials.{Same_refl, Same_sym, plus_respects, times_respects}
use Rattle.schubert_laws.proofs.FixedTails.{kept_tail, kept_added, schubert_kept, inversions_kept}
use Rattle.schubert_laws.proofs.Swaps.{swap_at, length-swap_at, among_get}
use Rattle.schubert_laws.proofs.MonkFromOne.{swap_is, one_line_swap, swap_at_append}
use Rattle.schubert_laws.proofs.Transition.{IsStep, last_descent_is, transition_at}
use Rattle.sym_model.proofs.AfterLists.{length_after, after_among, after-append}
use Rattle.sym_model.proofs.Lists.{map-among}

-- ---- fixed letters added at the end of w do not change w·t_ij

swap_longer : (x : List ℕ) (t a b : ℕ) → a < length x → b < length x → 0 < length x → kept (swap (x ++ after (length x) t) a b) ≡ kept (swap x a b)
swap_longer x t a b h l p = search (rules, length-append, length-swap_at, swap_is, swap_at_append, swap_at, kept_added)

with_fixed_longer : (x : List ℕ) (t j : ℕ) → (b : ℕ) × (with_fixed j (x ++ after (length x) t) ≡ with_fixed j x ++ after (length (with_fixed j x)) b)
with_fixed_longer x t j =
    let u : List ℕ = x ++ after (length x) t in
    let la = length-append x (after (length x) t) in
    let lb = length_after (length x) t in
    let e : length (x ++ after (length x) t) ≡ length x + t = omega arith in
    let more : ℕ = t + (j - (length x + t)) in
    let b : ℕ = t + (j - (length x + t)) - (j - length x) in
    let s : t + (j - (length x + t)) ≡ (j - length x) + (t + (j - (length x + t)) - (j - length x)) = omega arith in
    let lc = length-append x (after (length x) (j - length x)) in
    let ld = length_after (length x) (j - length x) in
    let f : length x + (j - length x) ≡ length (with_fixed j x) = omega arith in (
      t + (j - (length x + t)) - (j - length x),
      ap (λ n. (x ++ after (length x) t) ++ after n (j - n)) e
          ∙ append_assoc x (after (length x) t) (after (length x + t) (j - (length x + t)))
          ∙ ap (λ l. x ++ l) (sym (after-append (length x) t (j - (length x + t))) ∙ ap (after (length x)) s ∙ after-append (length x) (j - length x) (t + (j - (length x + t)) - (j - length x)))
          ∙ sym (append_assoc x (after (length x) (j - length x)) (after (length x + (j - length x)) (t + (j - (length x + t)) - (j - length x))))
          ∙ ap (λ n. with_fixed j x ++ after n (t + (j - (length x + t)) - (j - length x))) f,
    )

swap_of_longer : (x : List ℕ) (t i j : ℕ) → 1 ≤ i → i < j → times_swap i j (x ++ after (length x) t) ≡ times_swap i j x
swap_of_longer x t i j h l =
    let r = with_fixed_longer x t j in
    let lc = length-append x (after (length x) (j - length x)) in
    let ld = length_after (length x) (j - length x) in
    ap (λ v. kept (swap v (i - 1) (j - 1))) r.1 ∙ swap_longer (with_fixed j x) r.0 (i - 1) (j - 1) (omega arith) (omega arith) (omega arith)

pub times_swap_kept : (w : List ℕ) (i j : ℕ) → 1 ≤ i → i < j → times_swap i j (kept w) ≡ times_swap i j w
times_swap_kept w i j h l =
    let t = kept_tail w in
    let e : 0 + length (kept w) ≡ length (kept w) = omega arith in
    sym (swap_of_longer (kept w) t.0 i j h l) ∙ ap (times_swap i j) (sym (t.1 ∙ ap (λ n. kept w ++ after n t.0) e))

pub covers_down_kept : (r : ℕ) (w : List ℕ) → IsOneLine w → covers_down r (kept w) ≡ covers_down r w
covers_down_kept r w o =
    ap (covers_among (kept w)) (map-among (λ i. times_swap i r (kept w)) (λ i. times_swap i r w) (after 0 (r - 1)) (λ i m.
    let a = after_among 0 (r - 1) i m in let p = a.0 in let q = a.1 in times_swap_kept w i r (omega arith) (omega arith)))
    ∙ ap (λ n. filter (λ (v : List ℕ). inversions v == n + 1) (map (λ i. times_swap i r w) (after 0 (r - 1)))) (inversions_kept w o)

-- ---- the places r and s of the transition rule for w are q + 1 and b + 1; here q and b are the same places, counted from 0

abbrev pub Places : List ℕ → ℕ → ℕ → Type 0
Places w r s = (q : ℕ) × (b : ℕ) × (r ≡ suc q) × (s ≡ suc b) × IsStep w q b

pub step_of : (w : List ℕ) (r s : ℕ) → IsOneLine w → IsTransition w r s → Places w r s
step_of w r s o t =
    let f = last_descent_is w (Some r) t.descent in
    let q : ℕ = f.0 in
    let re = f.1 in
    let qi = f.2 in
    let qf = f.3 in
    let c = t.counts in
    let rq : r - 1 ≡ f.0 = omega arith in
    let lr = ap (λ i. get_or w i r) rq ∙ get_or_default w f.0 r 0 (omega arith) in
    let m = (o.letters (get_or w f.0 0) (among_get f.0 0 w (omega arith))).1 in
    let sm = t.smaller in
    let inside : s - 1 < length w = elim (cases_lt (s - 1) (length w)) [
      | inl h ↦ h
      | inr h ↦ let p = get_or_past w (s - 1) s h in absurd (omega arith)
    ] in
    let ls = get_or_default w (s - 1) s 0 inside in
    let order : f.0 < s - 1 = elim (cases_lt f.0 (s - 1)) [
      | inl h ↦ h
      | inr h ↦
          let n = t.last (suc r) (omega arith) in
          let e : suc r - 1 ≡ suc f.0 = omega arith in
          let g = ap (λ i. get_or w i (suc r)) e ∙ get_or_default w (suc f.0) (suc r) 0 qi in
          absurd (omega arith)
    ] in (
      f.0,
      s - 1,
      re,
      omega arith,
      record {
        order = order;
        inside = inside;
        falls = omega arith;
        rises = f.4;
        later = λ d h l.
            let n = t.last (suc d) (omega arith) in
            let e : suc d - 1 ≡ d = omega arith in
            let g = ap (λ i. get_or w i (suc d)) e ∙ get_or_default w d (suc d) 0 l in
            omega arith;
      },
    )

-- for places q < b of w, counted from 0, `times_swap (q + 1) (b + 1) w` is w with the letters at q and b swapped, and then without the fixed letters
-- at its end
pub kept_swap : (w : List ℕ) (q b : ℕ) → q < b → b < length w → times_swap (suc q) (suc b) w ≡ kept (swap_at q b w)
kept_swap w q b h l = search (rules, append-nil, swap_is)

abbrev Rule : ℕ → List ℕ → ℕ → List ℕ → Type 0
Rule n w r v = Same (schubert_in w n) (plus (times (variable_in r n) (schubert_in v n)) (schuberts_in (covers_down r v) n))

transition_kept : (n : ℕ) (w : List ℕ) (q b : ℕ) → IsOneLine w → IsStep w q b → Rule n w (suc q) (times_swap (suc q) (suc b) w)
transition_kept n w q b o s =
    let order = s.order in
    let inside = s.inside in
    let u : List ℕ = swap_at q b w in
    let ou = one_line_swap q b w (omega arith) inside o in
    subst (Rule n w (suc q)) (sym (kept_swap w q b order inside)) (λ α.
    transition_at n w q b o s α
    ∙ plus_respects
    (times (variable_in (suc q) n) (schubert_in (swap_at q b w) n))
    (times (variable_in (suc q) n) (schubert_in (kept (swap_at q b w)) n))
    (schuberts_in (covers_down (suc q) (swap_at q b w)) n)
    (schuberts_in (covers_down (suc q) (swap_at q b w)) n)
    (times_respects (variable_in (suc q) n) (variable_in (suc q) n) (schubert_in (swap_at q b w) n) (schubert_in (kept (swap_at q b w)) n) (Same_refl (variable_in (suc q) n))
    (Same_sym (schubert_in (kept (swap_at q b w)) n) (schubert_in (swap_at q b w) n) (schubert_kept (swap_at q b w) n ou)))
    (Same_refl (schuberts_in (covers_down (suc q) (swap_at q b w)) n)) α
    ∙ ap (λ vs. coefficient (plus (times (variable_in (suc q) n) (schubert_in (kept (swap_at q b w)) n)) (schuberts_in vs n)) α) (sym (covers_down_kept (suc q) (swap_at q b w) ou)))

pub transition : (w : List ℕ) (r s n : ℕ) → IsOneLine w → IsTransition w r s → Rule n w r (times_swap r s w)
transition w r s n o t =
    let p = step_of w r s o t in
    subst (λ i. Rule n w i (times_swap i s w)) (sym p.2) (subst (λ j. Rule n w (suc p.0) (times_swap (suc p.0) j w)) (sym p.3) (transition_kept n w p.0 p.1 o p.4))
