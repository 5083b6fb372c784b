-- Monk's rule and the transition rule for double Schubert polynomials in every number of variables.
use Rattle.std.proofs.Common.{◌≡◌, ℕ, zero, suc, ◌+◌, ◌-◌, ◌<◌, ◌≤◌, max, List, [], ◌∷◌, ◌++◌, ◌==◌, ◌&&◌, map, length, replicate, refl, sym, ◌∙◌, ap, ap₂, subst, arith, cond, true, None, ℤ, pos, ◌-ℤ◌, length-append, rules}
use Rattle.std.proofs.lemmas.Int.{ints}
use Rattle.std.specs.List.{swap}
use Rattle.std.proofs.lemmas.List.Edits.{length-swap}
use Rattle.std.proofs.lemmas.List.{replicate-append-replicate, take_at, drop_at, length-replicate}
use Rattle.sym_model.specs.Sum.{total, Among}
use Rattle.sym_model.specs.Polynomial.{Same, coefficient, one, plus, negate, times, pair, resize, fits_in}
use Rattle.sym_model.specs.Partition.{after, Falls}
use Rattle.sym_model.specs.PlaceOrders.{inversions}
use Rattle.sym_model.specs.Permutation.{IsOneLine, IsTransition, IsDescent, exchanged, last_descent, letter, with_fixed, kept, times_swap, covers_up, covers_down}
use Rattle.sym_model.specs.DividedDifference.{divided_difference, variable_in}
use Rattle.sym_model.specs.Expansion.{beside}
use Rattle.sym_model.proofs.Sums.{total_among, Among_from_map, Among_from_select}
use Rattle.sym_model.proofs.AfterLists.{length_after, after_among}
use Rattle.sym_model.proofs.Exponents.{length-resize, resize-nil, resize_zeros, fits_in_zeros}
use Rattle.sym_model.proofs.Polynomials.{pair_beside, pair_one, pair_plus, pair_negate, pair_each, pair_determined, same_from_pair, Same_sym, times_respects}
use Rattle.sym_model.proofs.Parts.{Falls-zeros}
use Rattle.schubert_laws.proofs.Transition.{last_descent_is}
use Rattle.schubert_laws.proofs.LowerPermutations.{code_never_falls}
use Rattle.schubert_laws.proofs.FixedTails.{kept_tail, one_line_kept}
use Rattle.schubert_laws.proofs.Paths.{any_descent}
use Rattle.schubert_laws.proofs.Swaps.{swap_at}
use Rattle.schubert_laws.proofs.MonkFromOne.{one_line_swap}
use Rattle.schubert_laws.proofs.TransitionFromOne.{step_of, kept_swap}
use Rattle.sym_model.specs.DoubleSchubert.{difference_in, double_schubert, restrict_both, double_schubert_in, double_schuberts_in}
use Rattle.double_schubert_laws.proofs.DoubleDominant.{double_dominant, unit, pair_difference_in, In_difference_in, In_double, length-unit}
use Rattle.double_schubert_laws.proofs.DiagramProducts.{diagram}
use Rattle.double_schubert_laws.proofs.BothRestrictions.{both, pair_restrict_both, in_any, restrict_both-times}
use Rattle.schubert_laws.proofs.Ranks.{letter_counts}
use Rattle.double_schubert_laws.proofs.DoubleFromOne.{paired, pair_double_monk, letter_small, double_kept, double_transition, doubles, pair_doubles}
use Rattle.std.proofs.Math.Bool.{and-true}

-- ---- the restriction of x_i - y_j from m variables x and m variables y to n variables x and n variables y

pub resize_again : (n m : ℕ) (α : List ℕ) → length α ≤ m → resize n (resize m α) ≡ resize n α
resize_again n m [] h = ap (resize n) (resize-nil m) ∙ resize_zeros n m ∙ sym (resize-nil n)
resize_again zero m (a ∷ α) h = refl
resize_again (suc n) zero (a ∷ α) h = absurd (omega arith)
resize_again (suc n) (suc m) (a ∷ α) h = ap (λ β. a ∷ β) (resize_again n m α (omega arith))

fits_nothing : (n : ℕ) → fits_in n [] ≡ true
fits_nothing zero = refl
fits_nothing (suc n) = refl

pub fits_again : (n m : ℕ) (α : List ℕ) → length α ≤ m → fits_in n (resize m α) ≡ fits_in n α
fits_again n m [] h = ap (fits_in n) (resize-nil m) ∙ fits_in_zeros n m ∙ sym (fits_nothing n)
fits_again zero zero (a ∷ α) h = absurd (omega arith)
fits_again zero (suc m) (a ∷ α) h = ap (λ b. (a == 0) && b) (fits_again zero m α (omega arith))
fits_again (suc n) zero (a ∷ α) h = absurd (omega arith)
fits_again (suc n) (suc m) (a ∷ α) h = fits_again n m α (omega arith)

abbrev power_at : ℕ → List ℕ
power_at r = replicate r 0 ++ (1 ∷ [])

pair_variable : (r n : ℕ) (φ : List ℕ → ℤ) → pair (variable_in (suc r) n) φ ≡ cond (fits_in n (power_at r)) (φ (unit r n)) (pos 0)
pair_variable r n φ = search rules

pair_difference_any : (r s n : ℕ) (φ : List ℕ → ℤ) → pair (difference_in (suc r) (suc s) n) φ
    ≡ cond (fits_in n (power_at r)) (φ (unit r n ++ replicate n 0)) (pos 0) -ℤ cond (fits_in n (power_at s)) (φ (replicate n 0 ++ unit s n)) (pos 0)
pair_difference_any r s n φ =
    let p = pair_plus (beside (variable_in (suc r) n) (one n)) (negate (beside (one n) (variable_in (suc s) n))) φ in
    let g = pair_negate (beside (one n) (variable_in (suc s) n)) φ in
    let a = pair_beside (variable_in (suc r) n) (one n) φ ∙ pair_variable r n (λ α. pair (one n) (λ β. φ (α ++ β)))
    ∙ ap (λ z. cond (fits_in n (power_at r)) z (pos 0)) (pair_one n (λ β. φ (unit r n ++ β))) in
    let b = pair_beside (one n) (variable_in (suc s) n) φ ∙ pair_one n (λ α. pair (variable_in (suc s) n) (λ β. φ (α ++ β))) ∙ pair_variable s n (λ β. φ (replicate n 0 ++ β)) in
    omega (arith, ints)

both_parts : (m n : ℕ) (φ : List ℕ → ℤ) (α β : List ℕ) → length α ≡ m → both m n φ (α ++ β) ≡ cond (fits_in n α && fits_in n β) (φ (resize n α ++ resize n β)) (pos 0)
both_parts m n φ α β e = ap₂ (λ x y. cond (fits_in n x && fits_in n y) (φ (resize n x ++ resize n y)) (pos 0)) (take_at α β m e) (drop_at α β m e)

both_x : (r m n : ℕ) (φ : List ℕ → ℤ) → r < m → both m n φ (unit r m ++ replicate m 0) ≡ cond (fits_in n (power_at r)) (φ (unit r n ++ replicate n 0)) (pos 0)
both_x r m n φ h = search (rules, length-unit, both_parts, unit, length-resize, fits_again, fits_in_zeros, and-true, resize_again, resize_zeros)

both_y : (s m n : ℕ) (φ : List ℕ → ℤ) → s < m → both m n φ (replicate m 0 ++ unit s m) ≡ cond (fits_in n (power_at s)) (φ (replicate n 0 ++ unit s n)) (pos 0)
both_y s m n φ h = search (rules, length-unit, both_parts, unit, length-replicate, fits_in_zeros, fits_again, resize_zeros, resize_again)

difference_fewer : (r s m n : ℕ) → r < m → s < m → Same (restrict_both m n (difference_in (suc r) (suc s) m)) (difference_in (suc r) (suc s) n)
difference_fewer r s m n h l = search (rules, same_from_pair, pair_restrict_both, pair_difference_in, both, both_x, both_y, pair_difference_any)

length_times_swap : (i j : ℕ) (w : List ℕ) → length (times_swap i j w) ≤ max (length w) j
length_times_swap i j w =
    let u : List ℕ = swap (with_fixed j w) (i - 1) (j - 1) in
    let t = kept_tail u in
    let a = ap length t.1 in
    let b = length-append (kept u) (after (0 + length (kept u)) t.0) in
    let c = length_after (0 + length (kept u)) t.0 in
    let d = length-swap (with_fixed j w) (i - 1) (j - 1) in
    let e = length-append w (after (length w) (j - length w)) in
    let f = length_after (length w) (j - length w) in
    omega arith

up_length : (r : ℕ) (w v : List ℕ) → Among v (covers_up r w) → length v ≤ max (length w) r + 1
up_length r w v m =
    let a = Among_from_select (λ (x : List ℕ). inversions x == inversions w + 1) v (map (λ j. times_swap r j w) (after r (max (length w) r + 1 - r))) m in
    let c = Among_from_map (λ j. times_swap r j w) v (after r (max (length w) r + 1 - r)) a.0 in
    let g = after_among r (max (length w) r + 1 - r) c.0 c.1 in
    let g1 = g.1 in
    let l = length_times_swap r c.0 w in
    let e = ap length c.2 in
    omega arith

down_length : (r : ℕ) (w v : List ℕ) → Among v (covers_down r w) → length v ≤ max (length w) r
down_length r w v m =
    let a = Among_from_select (λ (x : List ℕ). inversions x == inversions w + 1) v (map (λ i. times_swap i r w) (after 0 (r - 1))) m in
    let c = Among_from_map (λ i. times_swap i r w) v (after 0 (r - 1)) a.0 in
    let l = length_times_swap c.0 r w in
    let e = ap length c.2 in
    omega arith

-- ---- double Schubert polynomials, and their products with x_i - y_j, in n variables x and n variables y, as restrictions from m variables

in_variables : (m n : ℕ) (w : List ℕ) (φ : List ℕ → ℤ) → length w ≤ m → pair (double_schubert w m) (both m n φ) ≡ pair (double_schubert_in w n) φ
in_variables m n w φ h =
    sym (pair_restrict_both m n (double_schubert w m) φ)
    ∙ pair_determined (restrict_both m n (double_schubert w m)) (double_schubert_in w n) φ (in_any (m - length w) m n w (omega arith))

in_sum : (m n : ℕ) (ws : List (List ℕ)) (φ : List ℕ → ℤ) → ((w : List ℕ) → Among w ws → length w ≤ m) → total (paired m (both m n φ)) ws ≡ pair (double_schuberts_in ws n) φ
in_sum m n ws φ h = search (rules, total_among, paired, both, in_variables, pair_each)

in_product : (r s m n : ℕ) (w : List ℕ) (φ : List ℕ → ℤ) → r < m → s < m → length w ≤ m
    → pair (times (difference_in (suc r) (suc s) n) (double_schubert_in w n)) φ ≡ pair (times (difference_in (suc r) (suc s) m) (double_schubert w m)) (both m n φ)
in_product r s m n w φ h l k =
    pair_determined (times (difference_in (suc r) (suc s) n) (double_schubert_in w n)) (times (restrict_both m n (difference_in (suc r) (suc s) m)) (restrict_both m n (double_schubert w m))) φ
    (times_respects (difference_in (suc r) (suc s) n) (restrict_both m n (difference_in (suc r) (suc s) m)) (double_schubert_in w n) (restrict_both m n (double_schubert w m))
    (Same_sym (restrict_both m n (difference_in (suc r) (suc s) m)) (difference_in (suc r) (suc s) n) (difference_fewer r s m n h l))
    (Same_sym (restrict_both m n (double_schubert w m)) (double_schubert_in w n) (in_any (m - length w) m n w (omega arith))))
    ∙ sym (pair_determined (restrict_both m n (times (difference_in (suc r) (suc s) m) (double_schubert w m))) (times (restrict_both m n (difference_in (suc r) (suc s) m)) (restrict_both m n (double_schubert w m))) φ
    (restrict_both-times m n (m + m) (difference_in (suc r) (suc s) m) (double_schubert w m) (In_difference_in (suc r) (suc s) m) (In_double m w)))
    ∙ pair_restrict_both m n (times (difference_in (suc r) (suc s) m) (double_schubert w m)) φ

monk_in_letter : (q s n : ℕ) (w : List ℕ) → IsOneLine w → letter w (suc q) ≡ suc s
    → Same (times (difference_in (suc q) (suc s) n) (double_schubert_in w n)) (plus (double_schuberts_in (covers_up (suc q) w) n) (negate (double_schuberts_in (covers_down (suc q) w) n)))
monk_in_letter q s n w o e =
    same_from_pair (times (difference_in (suc q) (suc s) n) (double_schubert_in w n)) (plus (double_schuberts_in (covers_up (suc q) w) n) (negate (double_schuberts_in (covers_down (suc q) w) n))) (λ φ.
    let m : ℕ = max (length w) (suc q) + 1 in
    let small = letter_small w (suc q) o (omega arith) in
    let a = in_product q s (max (length w) (suc q) + 1) n w φ (omega arith) (omega arith) (omega arith) in
    let b = ap (λ x. pair (times (difference_in (suc q) x (max (length w) (suc q) + 1)) (double_schubert w (max (length w) (suc q) + 1))) (both (max (length w) (suc q) + 1) n φ)) (sym e) in
    let c = pair_double_monk (max (length w) (suc q) + 1) q (max (length w) (suc q) - length w) w (both (max (length w) (suc q) + 1) n φ) o refl (omega arith) in
    let up = in_sum (max (length w) (suc q) + 1) n (covers_up (suc q) w) φ (λ v i. up_length (suc q) w v i) in
    let down = in_sum (max (length w) (suc q) + 1) n (covers_down (suc q) w) φ (λ v i. let d = down_length (suc q) w v i in omega arith) in
    let p = pair_plus (double_schuberts_in (covers_up (suc q) w) n) (negate (double_schuberts_in (covers_down (suc q) w) n)) φ in
    let g = pair_negate (double_schuberts_in (covers_down (suc q) w) n) φ in
    omega (arith, ints))

-- Monk's rule: for a permutation w, (x_r - y_w(r))·S_w is the sum of S_v over the covers v = w·t_rj with j > r minus that over the covers v = w·t_ir
-- with i < r
pub double_monk_in : (r n : ℕ) (w : List ℕ) → IsOneLine w → 1 ≤ r
    → Same (times (difference_in r (letter w r) n) (double_schubert_in w n)) (plus (double_schuberts_in (covers_up r w) n) (negate (double_schuberts_in (covers_down r w) n)))
double_monk_in zero n w o h = λ α. absurd (omega arith)
double_monk_in (suc q) n w o h =
    let c = letter_counts w (suc q) o (omega arith) in
    let e : letter w (suc q) ≡ suc (letter w (suc q) - 1) = omega arith in
    subst (λ x. Same (times (difference_in (suc q) x n) (double_schubert_in w n)) (plus (double_schuberts_in (covers_up (suc q) w) n) (negate (double_schuberts_in (covers_down (suc q) w) n)))) (sym e)
    (monk_in_letter q (letter w (suc q) - 1) n w o e)

transition_in_letter : (q l n r s : ℕ) (w v : List ℕ) → IsOneLine w → IsTransition w r s → r ≡ suc q → v ≡ times_swap r s w → letter v r ≡ suc l → suc l ≤ length w → length v ≤ length w → r ≤ length w
    → Same (double_schubert_in w n) (plus (times (difference_in (suc q) (suc l) n) (double_schubert_in v n)) (double_schuberts_in (covers_down r v) n))
transition_in_letter q l n r s w v o t e f g h k i =
    same_from_pair (double_schubert_in w n) (plus (times (difference_in (suc q) (suc l) n) (double_schubert_in v n)) (double_schuberts_in (covers_down r v) n)) (λ φ.
    let m : ℕ = length w + 1 in
    let rule = subst (λ x. Same (double_schubert w (length w + 1)) (plus (times (difference_in r (letter x r) (length w + 1)) (double_schubert x (length w + 1))) (doubles (length w + 1) (covers_down r x)))) (sym f) (double_transition (length w + 1) r s w o t (omega arith)) in
    let a = in_variables (length w + 1) n w φ (omega arith) in
    let b = pair_determined (double_schubert w (length w + 1)) (plus (times (difference_in r (letter v r) (length w + 1)) (double_schubert v (length w + 1))) (doubles (length w + 1) (covers_down r v))) (both (length w + 1) n φ) rule in
    let c = pair_plus (times (difference_in r (letter v r) (length w + 1)) (double_schubert v (length w + 1))) (doubles (length w + 1) (covers_down r v)) (both (length w + 1) n φ) in
    let d = ap₂ (λ x y. pair (times (difference_in x y (length w + 1)) (double_schubert v (length w + 1))) (both (length w + 1) n φ)) e g in
    let p = in_product q l (length w + 1) n v φ (omega arith) (omega arith) (omega arith) in
    let u = pair_doubles (length w + 1) (covers_down r v) (both (length w + 1) n φ) ∙ in_sum (length w + 1) n (covers_down r v) φ (λ x j. let y = down_length r v x j in omega arith) in
    let z = pair_plus (times (difference_in (suc q) (suc l) n) (double_schubert_in v n)) (double_schuberts_in (covers_down r v) n) φ in
    omega (arith, ints))

-- the transition rule: let r be the last descent of w, s the last place whose letter is smaller than w(r), and v = w·t_rs. Then S_w is
-- (x_r - y_v(r))·S_v plus the sum of S_u over the covers u = v·t_ir with i < r.
pub double_transition_in : (r s n : ℕ) (w : List ℕ) → IsOneLine w → IsTransition w r s
    → Same (double_schubert_in w n) (plus (times (difference_in r (letter (times_swap r s w) r) n) (double_schubert_in (times_swap r s w) n)) (double_schuberts_in (covers_down r (times_swap r s w)) n))
double_transition_in r s n w o t =
    let p = step_of w r s o t in
    let p2 = p.2 in
    let p3 = p.3 in
    let g = p.4 in
    let order = g.order in
    let inside = g.inside in
    let v : List ℕ = times_swap r s w in
    let e : times_swap r s w ≡ kept (swap_at p.0 p.1 w) = ap₂ (λ i j. times_swap i j w) p.2 p.3 ∙ kept_swap w p.0 p.1 g.order g.inside in
    let ou = one_line_swap p.0 p.1 w (omega arith) inside o in
    let ov = subst IsOneLine (sym e) (one_line_kept (swap_at p.0 p.1 w) ou) in
    let long = length_times_swap r s w in
    let c = letter_counts (times_swap r s w) r ov (omega arith) in
    let small = letter_small (times_swap r s w) r ov (omega arith) in
    let l : letter (times_swap r s w) r ≡ suc (letter (times_swap r s w) r - 1) = omega arith in
    λ α.
    transition_in_letter p.0 (letter (times_swap r s w) r - 1) n r s w (times_swap r s w) o t p.2 refl l (omega arith) (omega arith) (omega arith) α
    ∙ ap₂ (λ x y. coefficient (plus (times (difference_in x y n) (double_schubert_in (times_swap r s w) n)) (double_schuberts_in (covers_down r (times_swap r s w)) n)) α) (sym p.2) (sym l)

pub any_descent_double : (w : List ℕ) (m i : ℕ) → IsDescent w i → Same (divided_difference i (double_schubert w m)) (double_schubert (exchanged i w) m)
any_descent_double w m i d = search (rules, length-swap, any_descent)

pub any_places : (w : List ℕ) (m n : ℕ) → length w ≤ m → Same (restrict_both m n (double_schubert w m)) (double_schubert_in w n)
any_places w m n h = in_any (m - length w) m n w (omega arith)

pub kept_in : (w : List ℕ) (n : ℕ) → IsOneLine w → Same (double_schubert_in (kept w) n) (double_schubert_in w n)
kept_in w n o =
    let k = kept_tail w in
    let e = ap length k.1 ∙ length-append (kept w) (after (0 + length (kept w)) k.0) in
    same_from_pair (double_schubert_in (kept w) n) (double_schubert_in w n) (λ φ.
    sym (in_variables (length w) n (kept w) φ (omega arith))
    ∙ pair_determined (double_schubert (kept w) (length w)) (double_schubert w (length w)) (both (length w) n φ) (double_kept (length w) w o (omega arith))
    ∙ in_variables (length w) n w φ (omega arith))

pub diagram_nothing : (s r k : ℕ) (φ : List ℕ → ℤ) (α : List ℕ) → diagram s r (replicate k 0) φ α ≡ φ α
diagram_nothing s r zero φ α = refl
diagram_nothing s r (suc k) φ α = diagram_nothing s (suc r) k φ α

pub identity_double : (w : List ℕ) (n : ℕ) → IsOneLine w → last_descent w ≡ None → Same (double_schubert_in w n) (one (n + n))
identity_double w n o e =
    let c = code_never_falls w (last_descent_is w None e) in
    same_from_pair (double_schubert_in w n) (one (n + n)) (λ φ.
    let m : ℕ = length w in
    let z = length-replicate {A = ℕ} (length w) 0 in
    pair_restrict_both (length w) n (double_schubert w (length w)) φ
    ∙ double_dominant (length w) w (both (length w) n φ) (omega arith) o.once (subst Falls (sym c) (Falls-zeros (length w)))
    ∙ ap (λ cs. diagram (length w) 0 cs (both (length w) n φ) (replicate (length w + length w) 0)) c
    ∙ diagram_nothing (length w) 0 (length w) (both (length w) n φ) (replicate (length w + length w) 0)
    ∙ ap (both (length w) n φ) (sym (replicate-append-replicate (length w) (length w) 0))
    ∙ both_parts (length w) n φ (replicate (length w) 0) (replicate (length w) 0) z
    ∙ ap₂ (λ b α. cond (b && b) (φ (α ++ α)) (pos 0)) (fits_in_zeros n (length w)) (resize_zeros n (length w))
    ∙ ap φ (replicate-append-replicate n n 0)
    ∙ sym (pair_one (n + n) φ))
