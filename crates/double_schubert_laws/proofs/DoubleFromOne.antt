-- Monk's rule and the transition rule for double Schubert polynomials of permutations. A letter of a permutation is *fixed* if it is equal to its
-- place; fixed letters can be added at the end of a permutation.
use Rattle.std.proofs.Common.{◌≡◌, ℕ, zero, suc, ◌+◌, ◌-◌, ◌<◌, ◌≤◌, max, List, [], ◌∷◌, ◌++◌, length, get_or, refl, sym, ◌∙◌, ap, ap₂, subst, arith, inl, inr, cond, ℤ, pos, ◌-ℤ◌, length-append, flat_map, rules}
use Rattle.std.proofs.lemmas.Int.{ints}
use Rattle.std.proofs.lemmas.Bool.{cases_lt}
use Rattle.std.proofs.lemmas.List.{append-nil, get_or_past, get_or_default}
use Rattle.sym_model.specs.Sum.{total}
use Rattle.sym_model.specs.Polynomial.{Poly, Same, In, plus, times, pair, coefficient}
use Rattle.sym_model.specs.Partition.{after}
use Rattle.sym_model.specs.Permutation.{IsOneLine, IsTransition, letter, kept, times_swap, covers_up, covers_down}
use Rattle.sym_model.specs.Schubert.{schubert_over}
use Rattle.sym_model.proofs.Polynomials.{pair_plus, pair_each, pair_determined, same_from_pair, Same_refl, Same_sym, plus_respects, times_respects}
use Rattle.sym_model.proofs.AfterLists.{length_after}
use Rattle.schubert_laws.proofs.DifferenceLaws.{variable_after}
use Rattle.schubert_laws.proofs.FixedTails.{one_line_added, one_line_next, next_after}
use Rattle.schubert_laws.proofs.PathsFromOne.{below_next}
use Rattle.schubert_laws.proofs.Swaps.{swap_at, length-swap_at, among_get}
use Rattle.schubert_laws.proofs.Ranks.{letter_counts}
use Rattle.schubert_laws.proofs.LowerPermutations.{letter_added, letter_kept}
use Rattle.schubert_laws.proofs.PlaceSums.{sum_below_ext}
use Rattle.schubert_laws.proofs.MonkStep.{is_cover, signed, value, IsMonk}
use Rattle.schubert_laws.proofs.MonkFromOne.{longer, whole_longer, one_line_swap}
use Rattle.schubert_laws.proofs.Transition.{IsStep}
use Rattle.schubert_laws.proofs.TransitionFromOne.{step_of, kept_swap, covers_down_kept}
use Rattle.sym_model.specs.DoubleSchubert.{difference_in, difference_product, double_schubert}
use Rattle.double_schubert_laws.proofs.DoubleDominant.{last_letter_double, In_double, pair_less, pair_difference}
use Rattle.double_schubert_laws.proofs.DoubleMonk.{minus_y, monk_double_last}
use Rattle.double_schubert_laws.proofs.CoverSums.{IsStable, kept_value, at_swap, covers_sum, only_up}

-- ---- the double Schubert polynomial of a permutation with fixed letters added

pub double_added : (m k : ℕ) (w : List ℕ) (φ : List ℕ → ℤ) → IsOneLine w → length w + k ≤ m → pair (double_schubert (w ++ after (length w) k) m) φ ≡ pair (double_schubert w m) φ
double_added m zero w φ o h = ap (λ v. pair (double_schubert v m) φ) (append-nil w)
double_added m (suc k) w φ o h =
    let l = length-append w ((length w + 1) ∷ []) in
    ap (λ v. pair (double_schubert v m) φ) (next_after w k)
    ∙ double_added m k (w ++ ((length w + 1) ∷ [])) φ (one_line_next w o) (omega arith)
    ∙ pair_determined (double_schubert (w ++ ((length w + 1) ∷ [])) m) (double_schubert w m) φ (last_letter_double m (length w + 1) w (omega arith) o.once (below_next w o))

-- the sum of c·φ(α) over the terms c·x^α of the double Schubert polynomial of a list in m variables x and m variables y
abbrev pub paired : ℕ → (List ℕ → ℤ) → List ℕ → ℤ
paired m φ w = pair (double_schubert w m) φ

pub stable : (m : ℕ) (φ : List ℕ → ℤ) → IsStable m (paired m φ)
stable m φ = record { added = λ w k o h. double_added m k w φ o h }

pub double_kept : (m : ℕ) (w : List ℕ) → IsOneLine w → length w ≤ m → Same (double_schubert (kept w) m) (double_schubert w m)
double_kept m w o h = same_from_pair (double_schubert (kept w) m) (double_schubert w m) (λ φ. kept_value m (paired m φ) w (stable m φ) o h)

letter_longer : (w : List ℕ) (k q : ℕ) → q < length w + (k + 1) → get_or (longer w k) q 0 ≡ letter w (suc q)
letter_longer w k q h = search (rules, length-append, length_after, get_or_default, longer, letter_added)

-- ---- Monk's rule for a permutation in m variables x and m variables y

-- the sum of the double Schubert polynomials, in m variables x and m variables y, of the permutations of a list
abbrev pub doubles : ℕ → List (List ℕ) → Poly
doubles m ws = flat_map (λ w. double_schubert w m) ws

monk_long : (m k q : ℕ) (w : List ℕ) → IsOneLine w → q < length w + k → length w + k + 1 ≤ m → IsMonk (difference_product (length (longer w k)) m) (minus_y m) (longer w k) q
monk_long m k q w o h n =
    let v : List ℕ = w ++ after (length w) k in
    let ov = one_line_added k w o in
    let la = length-append w (after (length w) k) in
    let lb = length_after (length w) k in
    let lc = length-append w (after (length w) (k + 1)) in
    let ld = length_after (length w) (k + 1) in
    let e : length (w ++ after (length w) k) + 1 ≡ suc (length (w ++ after (length w) k)) = omega arith in
    let f : length (longer w k) ≡ suc (length (w ++ after (length w) k)) = omega arith in
    subst (λ i. IsMonk (difference_product i m) (minus_y m) (longer w k) q) (sym f)
    (subst (λ u. IsMonk (difference_product (suc (length (w ++ after (length w) k))) m) (minus_y m) u q) (sym (whole_longer w k ∙ ap (λ x. (w ++ after (length w) k) ++ (x ∷ [])) e))
    (monk_double_last m (length (w ++ after (length w) k)) q (w ++ after (length w) k) (record { size = refl; once = ov.once; letters = ov.letters }) (omega arith) (omega arith)))

pub letter_small : (w : List ℕ) (i : ℕ) → IsOneLine w → 1 ≤ i → letter w i ≤ max (length w) i
letter_small w i o h = elim (cases_lt (i - 1) (length w)) [
  | inl l ↦
      let d = get_or_default w (i - 1) i 0 l in
      let m = (o.letters (get_or w (i - 1) 0) (among_get (i - 1) 0 w l)).1 in
      omega arith
  | inr l ↦ let p = get_or_past w (i - 1) i l in omega arith
]

factor_pairs : (m q a b : ℕ) (f : Poly) (φ : List ℕ → ℤ) → In (m + m) f → q < m → a ≡ b → 1 ≤ b → b ≤ m
    → pair (times (difference_in (suc q) b m) f) φ ≡ pair (times (plus (variable_after q) (minus_y m a)) f) φ
factor_pairs m q a b f φ i h e c l =
    let d : b ≡ suc (a - 1) = omega arith in
    ap (λ x. pair (times (difference_in (suc q) x m) f) φ) d
    ∙ pair_difference m q (a - 1) f φ i h (omega arith)
    ∙ sym (pair_less (m + m) q (m + (a - 1)) f φ i (omega arith) (omega arith))

pub pair_double_monk : (m q k : ℕ) (w : List ℕ) (φ : List ℕ → ℤ) → IsOneLine w → k ≡ max (length w) (suc q) - length w → max (length w) (suc q) + 1 ≤ m
    → pair (times (difference_in (suc q) (letter w (suc q)) m) (double_schubert w m)) φ ≡ total (paired m φ) (covers_up (suc q) w) -ℤ total (paired m φ) (covers_down (suc q) w)
pair_double_monk m q k w φ o e n =
    let f = difference_in (suc q) (letter w (suc q)) m in
    let lc = length-append w (after (length w) (k + 1)) in
    let ld = length_after (length w) (k + 1) in
    let small = letter_small w (suc q) o (omega arith) in
    pair_determined (times f (double_schubert w m)) (times f (double_schubert (longer w k) m)) φ
    (times_respects f f (double_schubert w m) (double_schubert (longer w k) m) (Same_refl f)
    (same_from_pair (double_schubert w m) (double_schubert (longer w k) m) (λ ψ. sym (double_added m (k + 1) w ψ o (omega arith)))))
    ∙ factor_pairs m q (get_or (longer w k) q 0) (letter w (suc q)) (double_schubert (longer w k) m) φ (In_double m (longer w k)) (omega arith) (letter_longer w k q (omega arith)) (letter_counts w (suc q) o (omega arith)) (omega arith)
    ∙ monk_long m k q w o (omega arith) (omega arith) φ
    ∙ sum_below_ext (length (longer w k)) (value (difference_product (length (longer w k)) m) φ (longer w k) q) (λ b. signed q b (at_swap (paired m φ) (longer w k) q b))
    (λ b h. ap (λ i. signed q b (cond (is_cover (longer w k) q b) (pair (schubert_over (difference_product i m) (swap_at q b (longer w k))) φ) (pos 0))) (sym (length-swap_at q b (longer w k))))
    ∙ covers_sum m (paired m φ) w k q (stable m φ) o e (omega arith)

pub pair_doubles : (m : ℕ) (ws : List (List ℕ)) (φ : List ℕ → ℤ) → pair (doubles m ws) φ ≡ total (paired m φ) ws
pair_doubles m ws φ = pair_each (λ (w : List ℕ). double_schubert w m) ws φ

-- ---- the transition rule for a permutation in m variables x and m variables y

abbrev pub DoubleRule : ℕ → List ℕ → ℕ → List ℕ → Type 0
DoubleRule m w r v = Same (double_schubert w m) (plus (times (difference_in r (letter v r) m) (double_schubert v m)) (doubles m (covers_down r v)))

rule_at : (m q b : ℕ) (w : List ℕ) → IsOneLine w → IsStep w q b → length w < m → DoubleRule m w (suc q) (swap_at q b w)
rule_at m q b w o s n =
    let u : List ℕ = swap_at q b w in
    same_from_pair (double_schubert w m) (plus (times (difference_in (suc q) (letter (swap_at q b w) (suc q)) m) (double_schubert (swap_at q b w) m)) (doubles m (covers_down (suc q) (swap_at q b w)))) (λ φ.
    let order = s.order in
    let inside = s.inside in
    let lu = length-swap_at q b w in
    let ou = one_line_swap q b w (omega arith) inside o in
    let a = pair_double_monk m q (max (length (swap_at q b w)) (suc q) - length (swap_at q b w)) (swap_at q b w) φ ou refl (omega arith) in
    let up = only_up m (paired m φ) w q b (stable m φ) o s (omega arith) in
    let c = pair_plus (times (difference_in (suc q) (letter (swap_at q b w) (suc q)) m) (double_schubert (swap_at q b w) m)) (doubles m (covers_down (suc q) (swap_at q b w))) φ in
    let d = pair_doubles m (covers_down (suc q) (swap_at q b w)) φ in
    omega (arith, ints))

rule_kept : (m q b : ℕ) (w : List ℕ) → IsOneLine w → IsStep w q b → length w < m → DoubleRule m w (suc q) (times_swap (suc q) (suc b) w)
rule_kept m q b w o s n =
    let order = s.order in
    let inside = s.inside in
    let lu = length-swap_at q b w in
    let ou = one_line_swap q b w (omega arith) inside o in
    let f = difference_in (suc q) (letter (swap_at q b w) (suc q)) m in
    subst (DoubleRule m w (suc q)) (sym (kept_swap w q b order inside)) (λ α.
    rule_at m q b w o s n α
    ∙ plus_respects (times f (double_schubert (swap_at q b w) m)) (times f (double_schubert (kept (swap_at q b w)) m)) (doubles m (covers_down (suc q) (swap_at q b w))) (doubles m (covers_down (suc q) (swap_at q b w)))
    (times_respects f f (double_schubert (swap_at q b w) m) (double_schubert (kept (swap_at q b w)) m) (Same_refl f)
    (Same_sym (double_schubert (kept (swap_at q b w)) m) (double_schubert (swap_at q b w) m) (double_kept m (swap_at q b w) ou (omega arith))))
    (Same_refl (doubles m (covers_down (suc q) (swap_at q b w)))) α
    ∙ ap₂ (λ x vs. coefficient (plus (times (difference_in (suc q) x m) (double_schubert (kept (swap_at q b w)) m)) (doubles m vs)) α)
    (sym (letter_kept (swap_at q b w) (suc q) (omega arith))) (sym (covers_down_kept (suc q) (swap_at q b w) ou)))

pub double_transition : (m r s : ℕ) (w : List ℕ) → IsOneLine w → IsTransition w r s → length w < m → DoubleRule m w r (times_swap r s w)
double_transition m r s w o t n =
    let p = step_of w r s o t in
    subst (λ i. DoubleRule m w i (times_swap i s w)) (sym p.2) (subst (λ j. DoubleRule m w (suc p.0) (times_swap (suc p.0) j w)) (sym p.3) (rule_kept m p.0 p.1 w o p.4 n))
