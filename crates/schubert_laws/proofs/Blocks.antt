-- The Schubert polynomial of u × v, the permutation u followed by the letters of v, each increased by the number n of letters of u, is the product of
-- S_u and the Schubert polynomial of 1^n × v. The proof is by the transition rule for u: it also holds for u × v, at the same places. In what follows,
-- `rest` stands for the letters after those of u.
use Rattle.std.proofs.Common.{◌≡◌, ℕ, zero, suc, ◌+◌, ◌-◌, ◌*◌, ◌<◌, ◌≤◌, List, [], ◌∷◌, ◌++◌, ◌==◌, map, length, get_or, refl, sym, ◌∙◌, ap, ap₂, subst, arith, inl, inr, cond, nat_lt, ℤ, Some, None, Option, unwrap_or, Bool, true, false, eqb-true, eq-eqb, length-append, append_assoc, rules}
use Rattle.std.proofs.Math.ListN.{get_or-append}
use Rattle.std.proofs.lemmas.Int.{ints}
use Rattle.std.proofs.lemmas.List.{length-map, map-append, get_or-append_right}
use Rattle.std.proofs.lemmas.Bool.{cases_lt}
use Rattle.sym_model.specs.Sum.{Among, Once}
use Rattle.sym_model.specs.Polynomial.{Poly, Same, one, plus, times, join, pair}
use Rattle.sym_model.specs.Partition.{after}
use Rattle.sym_model.specs.PlaceOrders.{smaller, inversions}
use Rattle.sym_model.specs.Permutation.{IsOneLine, IsLower, kept, last_descent, last_descent_place, letter, times_swap, covers_down}
use Rattle.sym_model.specs.DividedDifference.{variable_in}
use Rattle.sym_model.specs.Schubert.{schubert, schubert_in, schuberts_in}
use Rattle.sym_model.specs.Stanley.{behind, stanley_in}
use Rattle.sym_model.proofs.Sums.{total_among, Among-append_left, Among-append_right, Among_from_append, Among_from_map, Once-append, Once-map, length_within}
use Rattle.sym_model.proofs.AfterLists.{length_after, after_among, among_after, after-append, once_after}
use Rattle.sym_model.proofs.Polynomials.{pair_plus, pair_times, pair_determined, same_from_pair, Same_sym, Same_trans, Same_refl, times_respects, In_restrict}
use Rattle.sym_model.proofs.PolynomialLaws.{times_assoc, one-times}
use Rattle.schubert_laws.specs.TransitionOrder.{rank}
use Rattle.schubert_laws.proofs.Codes.{identity_kept}
use Rattle.schubert_laws.proofs.FixedTails.{once_front, once_apart, one_line_kept, inversions_kept, schubert_kept}
use Rattle.schubert_laws.proofs.LowerPermutations.{kept_whole, letter_kept, last_descent_kept, lowered_cover, smaller_of_none, identity_is_one, transition_exists}
use Rattle.schubert_laws.proofs.Members.{fewer_kept}
use Rattle.schubert_laws.proofs.MonkFromOne.{cover_value, pair_covers, one_line_swap, swap_at_append}
use Rattle.schubert_laws.proofs.Ranks.{rank_lower}
use Rattle.schubert_laws.proofs.Swaps.{swap_at, length-swap_at, among_get}
use Rattle.schubert_laws.proofs.Transition.{IsNearest, IsStep, step_nearest, one_fewer, transition_nearest, transition_at}
use Rattle.schubert_laws.proofs.TransitionFromOne.{step_of, kept_swap}

-- the letters of `rest` are different, and are those after n: they can follow a permutation of n letters
pub record IsBehind (n : ℕ) (rest : List ℕ) : Type 0 where
  pub letters : (a : ℕ) → Among a rest → (n < a) × (a ≤ n + length rest)
  pub once : Once rest

pub one_line_beside : (n : ℕ) (x rest : List ℕ) → IsOneLine x → length x ≡ n → IsBehind n rest → IsOneLine (x ++ rest)
one_line_beside n x rest o l h =
    let la = length-append x rest in
    record {
      letters = λ a i. elim (Among_from_append a x rest i) [
        | inl k ↦ let r = o.letters a k in let r0 = r.0 in let r1 = r.1 in (omega arith, omega arith)
        | inr k ↦ let r = h.letters a k in let r0 = r.0 in let r1 = r.1 in (omega arith, omega arith)
      ];
      once = Once-append x rest o.once h.once (λ a i k. let r = (o.letters a i).1 in let s = (h.letters a k).0 in omega arith);
    }

-- ---- the number of inversions

smaller_beside : (n a : ℕ) (x rest : List ℕ) → a ≤ n → IsBehind n rest → smaller a (x ++ rest) ≡ smaller a x
smaller_beside n a [] rest l h = smaller_of_none a rest (λ b i. let r = (h.letters b i).0 in omega arith)
smaller_beside n a (b ∷ x) rest l h = ap (λ k. cond (nat_lt b a) 1 0 + k) (smaller_beside n a x rest l h)

inversions_beside : (n : ℕ) (x rest : List ℕ) → ((a : ℕ) → Among a x → a ≤ n) → IsBehind n rest → inversions (x ++ rest) ≡ inversions x + inversions rest
inversions_beside n [] rest l h = omega arith
inversions_beside n (a ∷ x) rest l h =
    let s = smaller_beside n a x rest (l a (inl refl)) h in
    let r = inversions_beside n x rest (λ b i. l b (inr i)) h in
    omega arith

inversions_after : (n : ℕ) (x rest : List ℕ) → IsOneLine x → length x ≡ n → IsBehind n rest → inversions (x ++ rest) ≡ inversions x + inversions rest
inversions_after n x rest o l h = inversions_beside n x rest (λ a i. let r = (o.letters a i).1 in omega arith) h

-- ---- the places of the transition rule

nearest_beside : (n : ℕ) (x rest : List ℕ) (q b : ℕ) → IsOneLine x → length x ≡ n → IsBehind n rest → IsNearest x q b → IsNearest (x ++ rest) q b
nearest_beside n x rest q b o l h s =
    let la = length-append x rest in
    let order = s.order in
    let inside = s.inside in
    let falls = s.falls in
    let old = λ (i : ℕ) (k : i < length x). get_or-append x rest 0 i k in
    let oq = old q (omega arith) in
    let ob = old b inside in
    record {
      order = order;
      inside = omega arith;
      falls = omega arith;
      earlier = λ c i j. let e = s.earlier c i j in let oc = old c (omega arith) in omega arith;
      later = λ c i j. elim (cases_lt c (length x)) [
        | inl k ↦ let e = s.later c i k in let oc = old c k in omega arith
        | inr k ↦
            let e = get_or-append_right x rest (length x) c 0 refl k in
            let r = (h.letters (get_or rest (c - length x) 0) (among_get (c - length x) 0 rest (omega arith))).0 in
            let m = (o.letters (get_or x q 0) (among_get q 0 x (omega arith))).1 in
            omega arith
      ];
    }

-- ---- the covers of the transition rule

cover_beside : (N n : ℕ) (φ ψ : List ℕ → ℤ) (u rest : List ℕ) (p q : ℕ) → IsOneLine u → length u ≡ n → IsBehind n rest → p < q → q < n
    → (inversions (swap_at p q u) ≡ inversions u + 1 → pair (schubert_in (swap_at p q u ++ rest) N) φ ≡ pair (schubert_in (swap_at p q u) N) ψ)
    → cover_value N φ (u ++ rest) (times_swap (suc p) (suc q) (u ++ rest)) ≡ cover_value N ψ u (times_swap (suc p) (suc q) u)
cover_beside N n φ ψ u rest p q o l h i j same =
    let y : List ℕ = swap_at p q u in
    let ly = length-swap_at p q u in
    let la = length-append u rest in
    let oy = one_line_swap p q u (omega arith) (omega arith) o in
    let ow = one_line_beside n y rest oy (omega arith) h in
    let e : times_swap (suc p) (suc q) (u ++ rest) ≡ kept (y ++ rest) =
    kept_swap (u ++ rest) p q i (omega arith) ∙ ap kept (swap_at_append p q u rest (omega arith) (omega arith)) in
    let f : times_swap (suc p) (suc q) u ≡ kept y = kept_swap u p q i (omega arith) in
    let a = inversions_kept (y ++ rest) ow in
    let b = inversions_kept y oy in
    let c = inversions_after n y rest oy (omega arith) h in
    let d = inversions_after n u rest o l h in
    ap (cover_value N φ (u ++ rest)) e
    ∙ by (inversions (kept (y ++ rest)) == inversions (u ++ rest) + 1) (inversions (kept y) == inversions u + 1) refl refl
    (λ g. eq-eqb (inversions (kept y)) (inversions u + 1) (let z = eqb-true (inversions (kept (y ++ rest))) (inversions (u ++ rest) + 1) g in omega arith))
    (λ g. eq-eqb (inversions (kept (y ++ rest))) (inversions (u ++ rest) + 1) (let z = eqb-true (inversions (kept y)) (inversions u + 1) g in omega arith))
    (λ g. pair_determined (schubert_in (kept (y ++ rest)) N) (schubert_in (y ++ rest) N) φ (schubert_kept (y ++ rest) N ow)
    ∙ same (let z = eqb-true (inversions (kept y)) (inversions u + 1) g in omega arith)
    ∙ pair_determined (schubert_in y N) (schubert_in (kept y) N) ψ (Same_sym (schubert_in (kept y) N) (schubert_in y N) (schubert_kept y N oy)))
    ∙ sym (ap (cover_value N ψ u) f)
  where
    by : (s t : Bool) → (inversions (kept (swap_at p q u ++ rest)) == inversions (u ++ rest) + 1) ≡ s → (inversions (kept (swap_at p q u)) == inversions u + 1) ≡ t
        → ((inversions (kept (swap_at p q u ++ rest)) == inversions (u ++ rest) + 1) ≡ true → (inversions (kept (swap_at p q u)) == inversions u + 1) ≡ true)
        → ((inversions (kept (swap_at p q u)) == inversions u + 1) ≡ true → (inversions (kept (swap_at p q u ++ rest)) == inversions (u ++ rest) + 1) ≡ true)
        → ((inversions (kept (swap_at p q u)) == inversions u + 1) ≡ true → pair (schubert_in (kept (swap_at p q u ++ rest)) N) φ ≡ pair (schubert_in (kept (swap_at p q u)) N) ψ)
        → cover_value N φ (u ++ rest) (kept (swap_at p q u ++ rest)) ≡ cover_value N ψ u (kept (swap_at p q u))
    by true t es et forth back value = search rules
    by false true es et forth back value = absurd (let z = back et in cc)
    by false false es et forth back value = search rules

-- the Schubert polynomial of x followed by `rest`, in N variables, is the product of S_x and g
abbrev IsTimes : ℕ → List ℕ → Poly → List ℕ → Type 0
IsTimes N rest g x = Same (schubert_in (x ++ rest) N) (times (schubert_in x N) g)

-- for a function φ of exponents: the function ψ with `pair f ψ` ≡ `pair (times f g) φ`
abbrev multiplied_by : Poly → (List ℕ → ℤ) → List ℕ → ℤ
multiplied_by g φ α = pair g (λ β. φ (join α β))

pair_is_times : (N : ℕ) (rest : List ℕ) (g : Poly) (φ : List ℕ → ℤ) (x : List ℕ) → IsTimes N rest g x → pair (schubert_in (x ++ rest) N) φ ≡ pair (schubert_in x N) (multiplied_by g φ)
pair_is_times N rest g φ x e = pair_determined (schubert_in (x ++ rest) N) (times (schubert_in x N) g) φ e ∙ pair_times (schubert_in x N) g φ

covers_beside : (N n : ℕ) (rest : List ℕ) (g : Poly) (φ : List ℕ → ℤ) (u : List ℕ) (q : ℕ) → IsOneLine u → length u ≡ n → IsBehind n rest → q < n
    → ((p : ℕ) → p < q → inversions (swap_at p q u) ≡ inversions u + 1 → IsTimes N rest g (swap_at p q u))
    → pair (schuberts_in (covers_down (suc q) (u ++ rest)) N) φ ≡ pair (schuberts_in (covers_down (suc q) u) N) (multiplied_by g φ)
covers_beside N n rest g φ u q o l h j rec =
    pair_covers N φ (u ++ rest) (λ i. times_swap i (suc q) (u ++ rest)) (after 0 (suc q - 1))
    ∙ total_among (λ i. cover_value N φ (u ++ rest) (times_swap i (suc q) (u ++ rest))) (λ i. cover_value N (multiplied_by g φ) u (times_swap i (suc q) u)) (after 0 (suc q - 1)) (λ i m.
    let r = after_among 0 (suc q - 1) i m in
    let r0 = r.0 in
    let r1 = r.1 in
    let e : suc (i - 1) ≡ i = omega arith in
    subst (λ k. cover_value N φ (u ++ rest) (times_swap k (suc q) (u ++ rest)) ≡ cover_value N (multiplied_by g φ) u (times_swap k (suc q) u)) e
    (cover_beside N n φ (multiplied_by g φ) u rest (i - 1) q o l h (omega arith) j
    (λ c. pair_is_times N rest g φ (swap_at (i - 1) q u) (rec (i - 1) (omega arith) c))))
    ∙ sym (pair_covers N (multiplied_by g φ) u (λ i. times_swap i (suc q) u) (after 0 (suc q - 1)))

-- ---- the step from lower permutations to x

letter_of_kept : (y : List ℕ) (i : ℕ) → letter (kept y) i ≡ letter y i
letter_of_kept [] zero = refl
letter_of_kept (a ∷ y) zero = refl
letter_of_kept y (suc i) = letter_kept y (suc i) (omega arith)

rank_kept : (base : ℕ) (y : List ℕ) → IsOneLine y → rank base (kept y) ≡ rank base y
rank_kept base y o =
    let a = inversions_kept y o in
    let d : last_descent_place (kept y) ≡ last_descent_place y = ap (λ t. unwrap_or t 0) (last_descent_kept y o) in
    let e = letter_of_kept y (last_descent_place (kept y)) ∙ ap (letter y) d in
    ap₂ (λ i p. (i * base + p) * base + letter (kept y) (last_descent_place (kept y))) a d ∙ ap (λ k. (inversions y * base + last_descent_place y) * base + k) e

lower_rank : (n : ℕ) (y x : List ℕ) → IsOneLine y → length y ≡ n → IsLower (kept y) x → rank (suc n) y < rank (suc n) x
lower_rank n y x o l h =
    let f = fewer_kept y in
    let a = rank_lower (suc n) (kept y) x (one_line_kept y o) (omega arith) h in
    let b = rank_kept (suc n) y o in
    omega arith

times_step : (N n : ℕ) (rest : List ℕ) (g : Poly) (x : List ℕ) (q b : ℕ) → IsOneLine x → length x ≡ n → IsBehind n rest → IsStep x q b → last_descent x ≡ Some (suc q)
    → ((y : List ℕ) → IsOneLine y → length y ≡ n → rank (suc n) y < rank (suc n) x → IsTimes N rest g y) → IsTimes N rest g x
times_step N n rest g x q b o l h s d rec =
    same_from_pair (schubert_in (x ++ rest) N) (times (schubert_in x N) g) (λ φ.
    let order = s.order in
    let inside = s.inside in
    let u : List ℕ = swap_at q b x in
    let lu = length-swap_at q b x in
    let ou = one_line_swap q b x (omega arith) inside o in
    let fewer = one_fewer x q b o s in
    let ku = inversions_kept (swap_at q b x) ou in
    let X : Poly = variable_in (suc q) N in
    let ψ : List ℕ → ℤ = multiplied_by g φ in
    let here = rec (swap_at q b x) ou (omega arith) (lower_rank n (swap_at q b x) x ou (omega arith) (inl (omega arith))) in
    let left = subst (λ w. Same (schubert_in (x ++ rest) N) (plus (times (variable_in (suc q) N) (schubert_in w N)) (schuberts_in (covers_down (suc q) w) N)))
    (swap_at_append q b x rest (omega arith) inside) (transition_nearest N (x ++ rest) q b (one_line_beside n x rest o l h) (nearest_beside n x rest q b o l h (step_nearest x q b s))) in
    let a = pair_determined (schubert_in (x ++ rest) N) (plus (times (variable_in (suc q) N) (schubert_in (swap_at q b x ++ rest) N)) (schuberts_in (covers_down (suc q) (swap_at q b x ++ rest)) N)) φ left in
    let a2 = pair_plus (times (variable_in (suc q) N) (schubert_in (swap_at q b x ++ rest) N)) (schuberts_in (covers_down (suc q) (swap_at q b x ++ rest)) N) φ in
    let c = covers_beside N n rest g φ (swap_at q b x) q ou (omega arith) h (omega arith) (λ p i e.
    let oy = one_line_swap p q (swap_at q b x) (omega arith) (omega arith) ou in
    let ly = length-swap_at p q (swap_at q b x) in
    rec (swap_at p q (swap_at q b x)) oy (omega arith) (lower_rank n (swap_at p q (swap_at q b x)) x oy (omega arith) (lowered_cover x p q b o s d i (inversions_kept (swap_at p q (swap_at q b x)) oy ∙ e)))) in
    let f = pair_determined (times (variable_in (suc q) N) (schubert_in (swap_at q b x ++ rest) N)) (times (times (variable_in (suc q) N) (schubert_in (swap_at q b x) N)) g) φ
    (Same_trans (times (variable_in (suc q) N) (schubert_in (swap_at q b x ++ rest) N)) (times (variable_in (suc q) N) (times (schubert_in (swap_at q b x) N) g)) (times (times (variable_in (suc q) N) (schubert_in (swap_at q b x) N)) g)
    (times_respects (variable_in (suc q) N) (variable_in (suc q) N) (schubert_in (swap_at q b x ++ rest) N) (times (schubert_in (swap_at q b x) N) g) (Same_refl (variable_in (suc q) N)) here)
    (Same_sym (times (times (variable_in (suc q) N) (schubert_in (swap_at q b x) N)) g) (times (variable_in (suc q) N) (times (schubert_in (swap_at q b x) N) g)) (times_assoc (variable_in (suc q) N) (schubert_in (swap_at q b x) N) g)))
    ∙ pair_times (times (variable_in (suc q) N) (schubert_in (swap_at q b x) N)) g φ in
    let r = pair_determined (schubert_in x N) (plus (times (variable_in (suc q) N) (schubert_in (swap_at q b x) N)) (schuberts_in (covers_down (suc q) (swap_at q b x)) N)) (multiplied_by g φ) (transition_at N x q b o s) in
    let r2 = pair_plus (times (variable_in (suc q) N) (schubert_in (swap_at q b x) N)) (schuberts_in (covers_down (suc q) (swap_at q b x)) N) (multiplied_by g φ) in
    let t = pair_times (schubert_in x N) g φ in
    omega (arith, ints))

-- ---- the induction

first_letters : (x : List ℕ) → IsOneLine x → last_descent x ≡ None → x ≡ after 0 (length x)
first_letters [] o e = refl
first_letters (a ∷ x) o e =
    let k = kept_whole (a ∷ x) in
    let f = identity_kept (a ∷ x) o (omega arith) e in
    let g : a ∷ x ≡ after 0 (suc k.0) = k.1 ∙ ap (λ v. v ++ after (length v) k.0) f in
    let m = ap length g in
    let n = length_after 0 (suc k.0) in
    let z : suc k.0 ≡ length (a ∷ x) = omega arith in
    g ∙ ap (after 0) z

times_within : (k N n : ℕ) (rest : List ℕ) (x : List ℕ) → rank (suc n) x < k → IsOneLine x → length x ≡ n → IsBehind n rest → IsTimes N rest (schubert_in (after 0 n ++ rest) N) x
times_within zero N n rest x b o l h = λ α. absurd (omega arith)
times_within (suc k) N n rest x b o l h = by (last_descent x) refl (λ y oy ly c. times_within k N n rest y (omega arith) oy ly h)
  where
    by : (d : Option ℕ) → last_descent x ≡ d → ((y : List ℕ) → IsOneLine y → length y ≡ n → rank (suc n) y < rank (suc n) x → IsTimes N rest (schubert_in (after 0 n ++ rest) N) y)
        → IsTimes N rest (schubert_in (after 0 n ++ rest) N) x
    by None e rec =
        let g : Poly = schubert_in (after 0 n ++ rest) N in
        let z : x ≡ after 0 n = first_letters x o e ∙ ap (after 0) l in
        subst (λ w. Same (schubert_in (w ++ rest) N) (times (schubert_in x N) (schubert_in (after 0 n ++ rest) N))) (sym z)
        (Same_sym (times (schubert_in x N) (schubert_in (after 0 n ++ rest) N)) (schubert_in (after 0 n ++ rest) N)
        (Same_trans (times (schubert_in x N) (schubert_in (after 0 n ++ rest) N)) (times (one N) (schubert_in (after 0 n ++ rest) N)) (schubert_in (after 0 n ++ rest) N)
        (times_respects (schubert_in x N) (one N) (schubert_in (after 0 n ++ rest) N) (schubert_in (after 0 n ++ rest) N) (identity_is_one x N o e) (Same_refl (schubert_in (after 0 n ++ rest) N)))
        (one-times N (schubert_in (after 0 n ++ rest) N) (In_restrict N (schubert (after 0 n ++ rest))))))
    by (Some r) e rec =
        let t = transition_exists x r o e in
        let p = step_of x r t.0 o t.1 in
        times_step N n rest (schubert_in (after 0 n ++ rest) N) x p.0 p.1 o l h p.4 (e ∙ ap Some p.2) rec

behind_is : (n : ℕ) (v : List ℕ) → IsOneLine v → IsBehind n (map (λ a. a + n) v)
behind_is n v o =
    let l = length-map v (λ a. a + n) in
    record {
      letters = λ a i. let t = Among_from_map (λ a. a + n) a v i in let r = o.letters t.0 t.1 in let r0 = r.0 in let r1 = r.1 in let e = t.2 in (omega arith, omega arith);
      once = Once-map (λ a. a + n) v (λ x y i j e. omega arith) o.once;
    }

pub block_product : (u v : List ℕ) (n : ℕ) → IsOneLine u → IsOneLine v
    → Same (schubert_in (u ++ map (λ a. a + length u) v) n) (times (schubert_in u n) (schubert_in (behind (length u) v) n))
block_product u v n o p = times_within (suc (rank (suc (length u)) u)) n (length u) (map (λ a. a + length u) v) u (omega arith) o refl (behind_is (length u) v p)

-- ---- Stanley polynomials

pub length-behind : (m : ℕ) (w : List ℕ) → length (behind m w) ≡ m + length w
length-behind m w = let a = length-append (after 0 m) (map (λ a. a + m) w) in let b = length_after 0 m in let c = length-map w (λ a. a + m) in omega arith

pub one_line_after : (m : ℕ) → IsOneLine (after 0 m)
one_line_after m = record { letters = λ a i. let r = after_among 0 m a i in let l = length_after 0 m in let r0 = r.0 in let r1 = r.1 in (omega arith, omega arith); once = once_after 0 m }

pub one_line_behind : (m : ℕ) (w : List ℕ) → IsOneLine w → IsOneLine (behind m w)
one_line_behind m w o = one_line_beside m (after 0 m) (map (λ a. a + m) w) (one_line_after m) (length_after 0 m) (behind_is m w o)

raised_after : (m n k : ℕ) → map (λ a. a + m) (after n k) ≡ after (m + n) k
raised_after m n zero = refl
raised_after m n (suc k) = ap₂ ◌∷◌ (omega arith) (raised_after m (n + 1) k ∙ ap (λ i. after i k) (omega arith))

raised_behind : (m n : ℕ) (rest : List ℕ) → IsBehind n rest → IsBehind (m + n) (map (λ a. a + m) rest)
raised_behind m n rest h =
    let l = length-map rest (λ a. a + m) in
    record {
      letters = λ a i.
          let t = Among_from_map (λ a. a + m) a rest i in
          let r = h.letters t.0 t.1 in
          let r0 = r.0 in
          let r1 = r.1 in
          let e = t.2 in (omega arith, omega arith);
      once = Once-map (λ a. a + m) rest (λ x y i j e. omega arith) h.once;
    }

behind_append : (m : ℕ) (x rest : List ℕ) → behind m (x ++ rest) ≡ behind m x ++ map (λ a. a + m) rest
behind_append m x rest =
    ap (λ w. after 0 m ++ w) (map-append (λ a. a + m) x rest) ∙ sym (append_assoc (after 0 m) (map (λ a. a + m) x) (map (λ a. a + m) rest))

behind_first : (m n : ℕ) → behind m (after 0 n) ≡ after 0 (m + n)
behind_first m n = let e : m + 0 ≡ 0 + m = omega arith in ap (λ w. after 0 m ++ w) (raised_after m 0 n ∙ ap (λ i. after i n) e) ∙ sym (after-append 0 m n)

-- the Stanley polynomial of a permutation of n letters followed by `rest` is the product of its Stanley polynomial and that of 1, .., n followed by `rest`
pub stanley_beside : (n : ℕ) (x rest : List ℕ) (m : ℕ) → IsOneLine x → length x ≡ n → IsBehind n rest
    → Same (stanley_in (x ++ rest) m) (times (stanley_in x m) (stanley_in (after 0 n ++ rest) m))
stanley_beside n x rest m o l h =
    let y : List ℕ = behind m x in
    let ly = length-behind m x in
    let later : List ℕ = map (λ a. a + m) rest in
    let oy = one_line_behind m x o in
    let e : after 0 (m + n) ++ map (λ a. a + m) rest ≡ behind m (after 0 n ++ rest) =
    ap (λ w. w ++ map (λ a. a + m) rest) (sym (behind_first m n)) ∙ sym (behind_append m (after 0 n) rest) in
    subst (λ w. Same (schubert_in w m) (times (stanley_in x m) (stanley_in (after 0 n ++ rest) m))) (sym (behind_append m x rest))
    (subst (λ w. Same (schubert_in (behind m x ++ map (λ a. a + m) rest) m) (times (stanley_in x m) (schubert_in w m))) e
    (times_within (suc (rank (suc (m + n)) (behind m x))) m (m + n) (map (λ a. a + m) rest) (behind m x) (omega arith) oy (omega arith) (raised_behind m n rest h)))

pub stanley_block : (u v : List ℕ) (m : ℕ) → IsOneLine u → IsOneLine v
    → Same (stanley_in (u ++ map (λ a. a + length u) v) m) (times (stanley_in u m) (stanley_in (behind (length u) v) m))
stanley_block u v m o p = stanley_beside (length u) u (map (λ a. a + length u) v) m o refl (behind_is (length u) v p)

-- ---- a permutation whose first letters are 1, .., their number, in some order

once_back : (u v : List ℕ) → Once (u ++ v) → Once v
once_back [] v o = o
once_back (a ∷ u) v o = once_back u v o.1

-- if no letter of u is greater than the number of letters of u, then the permutation u ++ v is a permutation u followed by greater letters
pub block_end : (u v : List ℕ) → IsOneLine (u ++ v) → ((a : ℕ) → Among a u → a ≤ length u) → IsOneLine u × IsBehind (length u) v
block_end u v o h = (
  record { letters = λ a i. ((o.letters a (Among-append_left a u v i)).0, h a i); once = once_front u v o.once },
  record {
    letters = λ a i. let r = (o.letters a (Among-append_right a u v i)).1 in let l = length-append u v in (greater a i, omega arith);
    once = once_back u v o.once;
  },
)
  where
    within : (a : ℕ) → Among a v → a ≤ length u → (b : ℕ) → Among b (a ∷ u) → Among b (after 0 (length u))
    within a i l b (inl e) = let r = (o.letters a (Among-append_right a u v i)).0 in among_after 0 (length u) b (omega arith) (omega arith)
    within a i l b (inr k) = let r = (o.letters b (Among-append_left b u v k)).0 in let s = h b k in among_after 0 (length u) b (omega arith) (omega arith)

    greater : (a : ℕ) → Among a v → length u < a
    greater a i = elim (cases_lt (length u) a) [
      | inl k ↦ k
      | inr k ↦
          let n = length_within (after 0 (length u)) (a ∷ u) (λ m. once_apart u v a o.once m i, once_front u v o.once) (within a i k) in
          let l = length_after 0 (length u) in
          absurd (omega arith)
    ]
