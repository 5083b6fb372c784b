-- Monk's rule for permutations, in every number of variables, with places counted from 1. The pairing of a function φ of exponent lists with a
-- polynomial f (`pair f φ`) is the sum of c·φ(α) over the terms c·x^α of f.
use Rattle.std.proofs.Common.{◌≡◌, ℕ, zero, suc, ◌+◌, ◌-◌, ◌<◌, ◌≤◌, max, List, [], ◌∷◌, ◌++◌, map, length, get_or, set, refl, sym, ◌∙◌, ap, ap₂, subst, arith, cond, ◌==◌, ℤ, pos, ◌+ℤ◌, neg_ℤ, length-append, append_assoc, eqb-true, eq-eqb, rules}
use Rattle.std.specs.List.{swap}
use Rattle.std.proofs.Math.ListN.{get_or-append}
use Rattle.std.proofs.lemmas.Int.{ints}
use Rattle.std.proofs.lemmas.List.{append-nil, set-append_left, get_or_default}
use Rattle.sym_model.specs.Sum.{total, Once}
use Rattle.sym_model.specs.Polynomial.{Poly, Same, plus, negate, times, pair, nothing, restrict}
use Rattle.sym_model.specs.Partition.{after}
use Rattle.sym_model.specs.PlaceOrders.{inversions}
use Rattle.sym_model.specs.Alternant.{staircase}
use Rattle.sym_model.specs.BetaList.{rising_pairs}
use Rattle.sym_model.specs.Permutation.{IsOneLine, kept, times_swap, covers_among, covers_up, covers_down}
use Rattle.sym_model.specs.DividedDifference.{x_to, variable, variable_in}
use Rattle.sym_model.specs.Schubert.{schubert, schubert_over, schubert_in, schuberts_in}
use Rattle.sym_model.proofs.Exponents.{tests_agree}
use Rattle.sym_model.proofs.Sums.{total_among, total_append, total_map, total_select, total_neg}
use Rattle.sym_model.proofs.Polynomials.{pair_plus, pair_negate, pair_each, pair_restrict, pair_determined, same_from_pair, Same_refl, Same_sym, times_respects}
use Rattle.sym_model.proofs.PolynomialLaws.{restrict-times, restricted_test}
use Rattle.schubert_laws.proofs.DifferenceLaws.{variable_after}
use Rattle.schubert_laws.proofs.DifferencesFromOne.{variable_is}
use Rattle.schubert_laws.proofs.FixedTails.{one_line_added, schubert_added, inversions_added, schubert_kept, inversions_kept, one_more_inversion, one_less_rising}
use Rattle.schubert_laws.proofs.PathsFromOne.{below_next}
use Rattle.schubert_laws.proofs.Swaps.{swap_at, length-swap_at, among_swap, once_swap}
use Rattle.schubert_laws.proofs.PlaceSums.{sum_below, sum_below_ext}
use Rattle.schubert_laws.proofs.MonkStep.{covered, value, signed_up, signed_down, signed_same, covered_sym, IsMonk}
use Rattle.schubert_laws.proofs.MonkRule.{no_factors, monk_last, over_swap}
use Rattle.sym_model.proofs.AfterLists.{length_after, after_among, after-append}

sets_are_swap : (w : List ℕ) (i j d : ℕ) → i < length w → j < length w → set (set w i (get_or w j d)) j (get_or w i d) ≡ swap_at i j w
sets_are_swap [] i j d h l = absurd (omega arith)
sets_are_swap (x ∷ w) zero zero d h l = refl
sets_are_swap (x ∷ w) zero (suc j) d h l = ap (λ y. y ∷ set w j x) (get_or_default w j d x (omega arith))
sets_are_swap (x ∷ w) (suc i) zero d h l = ap (λ y. y ∷ set w i x) (get_or_default w i d x (omega arith))
sets_are_swap (x ∷ w) (suc i) (suc j) d h l = ap (λ v. x ∷ v) (sets_are_swap w i j d (omega arith) (omega arith))

pub swap_is : (w : List ℕ) (i j : ℕ) → i < length w → j < length w → swap w i j ≡ swap_at i j w
swap_is [] i j h l = absurd (omega arith)
swap_is (d ∷ w) i j h l = sets_are_swap (d ∷ w) i j d h l

one_append : (w : List ℕ) (b x : ℕ) (z : List ℕ) → b < length w → get_or (w ++ z) b x ∷ set (w ++ z) b x ≡ get_or w b x ∷ (set w b x ++ z)
one_append w b x z h = ap₂ ◌∷◌ (get_or-append w z x b h) (set-append_left w z b x h)

pub swap_at_append : (a b : ℕ) (w z : List ℕ) → a < length w → b < length w → swap_at a b (w ++ z) ≡ swap_at a b w ++ z
swap_at_append a b [] z h l = absurd (omega arith)
swap_at_append zero zero (x ∷ w) z h l = refl
swap_at_append zero (suc b) (x ∷ w) z h l = one_append w b x z (omega arith)
swap_at_append (suc a) zero (x ∷ w) z h l = one_append w a x z (omega arith)
swap_at_append (suc a) (suc b) (x ∷ w) z h l = ap (λ v. x ∷ v) (swap_at_append a b w z (omega arith) (omega arith))

pub one_line_swap : (a b : ℕ) (w : List ℕ) → a < length w → b < length w → IsOneLine w → IsOneLine (swap_at a b w)
one_line_swap a b w h l o = search (rules, among_swap, length-swap_at, once_swap)

pub sum_after : (n a : ℕ) (f : ℕ → ℤ) → sum_below n (λ b. f (a + b)) ≡ total (λ i. f (i - 1)) (after a n)
sum_after zero a f = refl
sum_after (suc n) a f = search (rules, sum_below_ext, (sum_after n (a + 1) f))

pub sum_split : (n q : ℕ) (f : ℕ → ℤ) → q < n
    → sum_below n f ≡ total (λ i. f (i - 1)) (after 0 q) +ℤ (f q +ℤ total (λ i. f (i - 1)) (after (q + 1) (n - (q + 1))))
sum_split n q f h =
    let t : q + suc (n - (q + 1)) ≡ n = omega arith in
    let e : 0 + q ≡ q = omega arith in
    let d : q + 1 - 1 ≡ q = omega arith in
    let a = sum_below_ext n f (λ b. f (0 + b)) (λ b l. let z : b ≡ 0 + b = omega arith in ap f z) in
    let b = sum_after n 0 f in
    let c = ap (λ l. total (λ i. f (i - 1)) l) (ap (after 0) (sym t) ∙ after-append 0 q (suc (n - (q + 1))) ∙ ap (λ s. after 0 q ++ after s (suc (n - (q + 1)))) e) in
    let p = total_append (λ i. f (i - 1)) (after 0 q) ((q + 1) ∷ after (q + 1) (n - (q + 1))) in
    let g = ap f d in
    omega (arith, ints)

-- ---- the terms of Monk's rule for w: a list v, which is w with two letters swapped, has the term S_v if it is a cover of w, and 0 otherwise

-- the permutation w with k + 1 fixed letters added at its end
abbrev pub longer : List ℕ → ℕ → List ℕ
longer w k = w ++ after (length w) (k + 1)

abbrev pub top_of : List ℕ → Poly
top_of w = x_to (staircase (length w))

-- the pairing of φ with S_v in n variables, if v has one inversion more than w; 0 otherwise
abbrev pub cover_value : ℕ → (List ℕ → ℤ) → List ℕ → List ℕ → ℤ
cover_value n φ w v = cond (inversions v == inversions w + 1) (pair (schubert_in v n) φ) (pos 0)

cover_tests : (n : ℕ) (φ : List ℕ → ℤ) (g : Poly) (ψ : List ℕ → ℤ) (w long v x : List ℕ) → Once long → Once v → length v ≡ length long
    → inversions long ≡ inversions w → inversions x ≡ inversions v → pair (schubert_over g v) ψ ≡ pair (schubert_in x n) φ
    → cond (rising_pairs long == suc (rising_pairs v)) (pair (schubert_over g v) ψ) (pos 0) ≡ cover_value n φ w x
cover_tests n φ g ψ w long v x o p l e f q = search (rules, tests_agree, one_more_inversion, eqb-true, eq-eqb, one_less_rising)

pub longer_split : (w : List ℕ) (k m : ℕ) → m ≤ k + 1 → longer w k ≡ (w ++ after (length w) m) ++ after (length (w ++ after (length w) m)) (k + 1 - m)
longer_split w k m h =
    let e : k + 1 ≡ m + (k + 1 - m) = omega arith in
    let l = length-append w (after (length w) m) in
    let a = length_after (length w) m in
    let d : length w + m ≡ length (w ++ after (length w) m) = omega arith in
    ap (λ t. w ++ after (length w) t) e
    ∙ ap (λ t. w ++ t) (after-append (length w) m (k + 1 - m))
    ∙ sym (append_assoc w (after (length w) m) (after (length w + m) (k + 1 - m)))
    ∙ ap (λ t. (w ++ after (length w) m) ++ after t (k + 1 - m)) d

-- adding t fixed letters to u and then swapping the letters at the places a and b of u gives the same list as swapping these letters and then adding
-- the fixed letters
pub swap_added : (u : List ℕ) (t a b : ℕ) → a < length u → b < length u → swap_at a b (u ++ after (length u) t) ≡ swap_at a b u ++ after (length (swap_at a b u)) t
swap_added u t a b h l = swap_at_append a b u (after (length u) t) h l ∙ ap (λ n. swap_at a b u ++ after n t) (sym (length-swap_at a b u))

pub pair_within : (n : ℕ) (φ : List ℕ → ℤ) (a b : ℕ) (long : List ℕ) → pair (schubert_over (top_of long) (swap_at a b long)) (restricted_test n φ) ≡ pair (schubert_in (swap_at a b long) n) φ
pair_within n φ a b long = ap (λ f. pair f (restricted_test n φ)) (over_swap a b long) ∙ sym (pair_restrict n (schubert (swap_at a b long)) φ)

-- let u' be u with t fixed letters added at its end, and let v be u with the letters at a and b swapped and the fixed letters at the end dropped. If
-- u and w have the same number of inversions, the term of Monk's rule for u' and the places a, b is the term of v in the rule for w (`cover_value`)
term_added : (n : ℕ) (φ : List ℕ → ℤ) (w u : List ℕ) (t a b : ℕ) → IsOneLine u → a < length u → b < length u → inversions u ≡ inversions w
    → covered (top_of (u ++ after (length u) t)) (restricted_test n φ) (u ++ after (length u) t) a b ≡ cover_value n φ w (kept (swap u a b))
term_added n φ w u t a b o h l e =
    search (rules, one_line_swap, one_line_added, swap_added, swap_at, swap_is, length-swap_at, cover_tests, restricted_test, inversions_added, inversions_kept, pair_within, pair_determined, schubert_added, schubert_kept)

pub cover_term : (n : ℕ) (φ : List ℕ → ℤ) (w : List ℕ) (k i j : ℕ) → IsOneLine w → 1 ≤ i → i < j → j ≤ length w + k + 1
    → covered (top_of (longer w k)) (restricted_test n φ) (longer w k) (i - 1) (j - 1) ≡ cover_value n φ w (times_swap i j w)
cover_term n φ w k i j o c h l =
    let m : ℕ = j - length w in
    let la = length-append w (after (length w) (j - length w)) in
    let lb = length_after (length w) (j - length w) in
    let s = longer_split w k (j - length w) (omega arith) in
    subst (λ v. covered (top_of v) (restricted_test n φ) v (i - 1) (j - 1) ≡ cover_value n φ w (times_swap i j w)) (sym s)
    (term_added n φ w (w ++ after (length w) (j - length w)) (k + 1 - (j - length w)) (i - 1) (j - 1)
    (one_line_added (j - length w) w o) (omega arith) (omega arith) (inversions_added (j - length w) w o))

-- ---- Monk's rule in n variables

pub whole_longer : (w : List ℕ) (k : ℕ) → longer w k ≡ (w ++ after (length w) k) ++ ((length (w ++ after (length w) k) + 1) ∷ [])
whole_longer w k = search (rules, length-append, length_after, after-append, append_assoc)

pub monk_longer : (w : List ℕ) (k q : ℕ) → IsOneLine w → q < length w + k → IsMonk (top_of (longer w k)) no_factors (longer w k) q
monk_longer w k q o h = search (rules, one_line_added, length-append, length_after, no_factors, whole_longer, monk_last, below_next)

-- the pairing of φ with the sum of S_v over those lists v = f(j) that have one inversion more than w is the sum of `cover_value` over all j
pub pair_covers : (n : ℕ) (φ : List ℕ → ℤ) (w : List ℕ) (f : ℕ → List ℕ) (js : List ℕ)
    → pair (schuberts_in (covers_among w (map f js)) n) φ ≡ total (λ j. cover_value n φ w (f j)) js
pair_covers n φ w f js = search (rules, pair_each, total_select, total_map)

pub pair_left : (n : ℕ) (φ : List ℕ → ℤ) (w : List ℕ) (k q : ℕ) → IsOneLine w
    → pair (times (variable_in (suc q) n) (schubert_in w n)) φ ≡ pair (times (plus (variable_after q) nothing) (schubert (longer w k))) (restricted_test n φ)
pair_left n φ w k q o =
    pair_determined (times (variable_in (suc q) n) (schubert_in w n)) (times (variable_in (suc q) n) (schubert_in (longer w k) n)) φ
    (times_respects (variable_in (suc q) n) (variable_in (suc q) n) (schubert_in w n) (schubert_in (longer w k) n) (Same_refl (variable_in (suc q) n))
    (Same_sym (schubert_in (longer w k) n) (schubert_in w n) (schubert_added (k + 1) w n o)))
    ∙ sym (pair_determined (restrict n (times (variable (suc q)) (schubert (longer w k)))) (times (variable_in (suc q) n) (schubert_in (longer w k) n)) φ (restrict-times n (variable (suc q)) (schubert (longer w k))))
    ∙ pair_restrict n (times (variable (suc q)) (schubert (longer w k))) φ
    ∙ ap (λ x. pair (times x (schubert (longer w k))) (restricted_test n φ)) (variable_is q (suc q) refl ∙ sym (append-nil (variable_after q)))

monk_at : (n q k : ℕ) (w : List ℕ) → IsOneLine w → k ≡ max (length w) (suc q) - length w
    → Same (times (variable_in (suc q) n) (schubert_in w n)) (plus (schuberts_in (covers_up (suc q) w) n) (negate (schuberts_in (covers_down (suc q) w) n)))
monk_at n q k w o e =
    same_from_pair (times (variable_in (suc q) n) (schubert_in w n)) (plus (schuberts_in (covers_up (suc q) w) n) (negate (schuberts_in (covers_down (suc q) w) n))) (λ φ.
    let long : List ℕ = longer w k in
    let len = length-append w (after (length w) (k + 1)) in
    let len2 = length_after (length w) (k + 1) in
    let a = pair_left n φ w k q o in
    let b = monk_longer w k q o (omega arith) (restricted_test n φ) in
    let c = sum_split (length (longer w k)) q (value (top_of (longer w k)) (restricted_test n φ) (longer w k) q) (omega arith) in
    let here = signed_same q q (covered (top_of (longer w k)) (restricted_test n φ) (longer w k) q q) refl in
    let down = total_among (λ i. value (top_of (longer w k)) (restricted_test n φ) (longer w k) q (i - 1)) (λ i. neg_ℤ (cover_value n φ w (times_swap i (suc q) w))) (after 0 q) (λ i m.
    let r = after_among 0 q i m in let x = r.0 in let y = r.1 in
    let z : suc q - 1 ≡ q = omega arith in
    signed_down q (i - 1) (covered (top_of (longer w k)) (restricted_test n φ) (longer w k) q (i - 1)) (omega arith)
    ∙ ap neg_ℤ (covered_sym (top_of (longer w k)) (restricted_test n φ) (longer w k) q (i - 1)
    ∙ ap (covered (top_of (longer w k)) (restricted_test n φ) (longer w k) (i - 1)) (sym z)
    ∙ cover_term n φ w k i (suc q) o (omega arith) (omega arith) (omega arith))) in
    let up = total_among (λ j. value (top_of (longer w k)) (restricted_test n φ) (longer w k) q (j - 1)) (λ j. cover_value n φ w (times_swap (suc q) j w)) (after (q + 1) (length (longer w k) - (q + 1))) (λ j m.
    let r = after_among (q + 1) (length (longer w k) - (q + 1)) j m in let x = r.0 in let y = r.1 in
    let z : suc q - 1 ≡ q = omega arith in
    signed_up q (j - 1) (covered (top_of (longer w k)) (restricted_test n φ) (longer w k) q (j - 1)) (omega arith)
    ∙ ap (λ t. covered (top_of (longer w k)) (restricted_test n φ) (longer w k) t (j - 1)) (sym z)
    ∙ cover_term n φ w k (suc q) j o (omega arith) (omega arith) (omega arith)) in
    let neg = total_neg (λ i. cover_value n φ w (times_swap i (suc q) w)) (after 0 q) in
    let plus_is = pair_plus (schuberts_in (covers_up (suc q) w) n) (negate (schuberts_in (covers_down (suc q) w) n)) φ in
    let neg_is = pair_negate (schuberts_in (covers_down (suc q) w) n) φ in
    let s1 : q + 1 ≡ suc q = omega arith in
    let s2 : length (longer w k) - (q + 1) ≡ max (length w) (suc q) + 1 - suc q = omega arith in
    let s3 : q ≡ suc q - 1 = omega arith in
    let ups = pair_covers n φ w (λ j. times_swap (suc q) j w) (after (suc q) (max (length w) (suc q) + 1 - suc q)) in
    let downs = pair_covers n φ w (λ i. times_swap i (suc q) w) (after 0 (suc q - 1)) in
    let u = ap (λ l. total (λ j. cover_value n φ w (times_swap (suc q) j w)) l) (ap₂ after s1 s2) in
    let d = ap (λ t. total (λ i. cover_value n φ w (times_swap i (suc q) w)) (after 0 t)) s3 in
    omega (arith, ints))

pub monk_in : (w : List ℕ) (r n : ℕ) → IsOneLine w → 1 ≤ r
    → Same (times (variable_in r n) (schubert_in w n)) (plus (schuberts_in (covers_up r w) n) (negate (schuberts_in (covers_down r w) n)))
monk_in w zero n o h = λ α. absurd (omega arith)
monk_in w (suc q) n o h = monk_at n q (max (length w) (suc q) - length w) w o refl
