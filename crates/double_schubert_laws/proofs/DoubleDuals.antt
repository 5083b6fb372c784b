-- Dual functions for the products y^β·S_w(x; y): divided differences in x along descents of w down to the identity,
-- and then the coefficient of y^β.
use Rattle.std.proofs.Common.{◌≡◌, ◌⊎◌, ℕ, zero, suc, ◌+◌, ◌-◌, ◌<◌, ◌≤◌, true, ◌&&◌, cond, List, [], ◌∷◌, ◌++◌, map}
use Rattle.std.proofs.Common.{flat_map, length, take, drop, replicate, refl, sym, ap, ap₂, ◌∙◌, subst, inl, inr}
use Rattle.std.proofs.Common.{arith, ℤ, pos, ◌*ℤ◌, neg_ℤ, filter, length-append}
use Rattle.std.proofs.lemmas.Bool.{cases_Bool, and_parts}
use Rattle.std.proofs.lemmas.List.{take-append-drop, length-replicate, length-map}
use lib.IntN.{*ℤ-zero}
use Rattle.sym_model.specs.Sum.{Among}
use Rattle.sym_model.specs.Polynomial.{Poly, Term, pair, same, join, one, negate, all_zero, resize, fits_in}
use Rattle.sym_model.specs.Partition.{size, after, Falls}
use Rattle.sym_model.specs.Alternant.{staircase}
use Rattle.sym_model.specs.BetaList.{rising_pairs}
use Rattle.sym_model.specs.Permutation.{IsOneLine}
use Rattle.sym_model.specs.DividedDifference.{x_to, variable_in}
use Rattle.sym_model.specs.Expansion.{beside}
use Rattle.sym_model.specs.DoubleSchubert.{product_of, difference_in, difference_product, double_schubert}
use Rattle.sym_model.proofs.AfterLists.{length_after}
use Rattle.sym_model.proofs.Sums.{total_none, Among_from_append, Among_from_map, Among_from_each, Among_from_select}
use Rattle.sym_model.proofs.Exponents.{same_true, same_from, same_apart, tests_agree, fits_in_length, size-join}
use Rattle.sym_model.proofs.Exponents.{join_comm, join_zeros}
use Rattle.sym_model.proofs.Parts.{Falls-zeros, size-append, size-zeros}
use Rattle.sym_model.proofs.Polynomials.{pair_ext, pair_zero}
use Rattle.schubert_laws.proofs.Exchanges.{exchange_at, Rises, rises_within, rising_pairs_exchange, exchange_twice}
use Rattle.schubert_laws.proofs.Exchanges.{length-exchange_at}
use Rattle.schubert_laws.proofs.Differences.{along, along_square}
use Rattle.schubert_laws.proofs.LowerPermutations.{NeverFalls, code_never_falls}
use Rattle.double_schubert_laws.proofs.DiagramProducts.{diagram}
use Rattle.double_schubert_laws.proofs.DoubleDominant.{In_double, pair_double_ascent, double_dominant}
use Rattle.schubert_laws.proofs.SchubertDuals.{degree_within, rising_at_most, falls_somewhere, not_falls, not_both}
use Rattle.schubert_laws.proofs.SchubertDuals.{one_line-exchange, never_falls-same, all_zero-size}
use Rattle.double_schubert_laws.proofs.DoubleVariables.{diagram_nothing}
use Rattle.schubert_laws.proofs.MonkStep.{rises_or}
use Rattle.independence_laws.proofs.Degrees.{OfDegree, times-of_degree, one-of_degree}

-- ---- the degree of a double Schubert polynomial

degree-beside : (d e : ℕ) (f g : Poly) → OfDegree d f → OfDegree e g → OfDegree (d + e) (beside f g)
degree-beside d e f g h k t m =
    let s = Among_from_each (λ (s : Term). map (λ (u : Term). (s.0 ++ u.0, s.1 *ℤ u.1)) g) t f m in
    let u = Among_from_map (λ (u : Term). (s.0.0 ++ u.0, s.0.1 *ℤ u.1)) t g s.2 in
    let a = h s.0 s.1 in
    let b = k u.0 u.1 in
    let c = ap (λ (v : Term). size v.0) u.2 ∙ size-append s.0.0 u.0.0 in
    omega arith

pub size-resize_fitting : (n : ℕ) (α : List ℕ) → fits_in n α ≡ true → size (resize n α) ≡ size α
size-resize_fitting zero α h = sym (all_zero-size α h)
size-resize_fitting (suc n) [] h = let e = size-resize_fitting n [] (fits_in_length n [] (omega arith)) in omega arith
size-resize_fitting (suc n) (a ∷ α) h = ap (λ m. a + m) (size-resize_fitting n α h)

degree-variable_in : (i n : ℕ) → OfDegree 1 (variable_in i n)
degree-variable_in i n t m =
    let s = Among_from_map (λ (u : Term). (resize n u.0, u.1)) t (filter (λ (u : Term). fits_in n u.0) (x_to (replicate (i - 1) 0 ++ (1 ∷ [])))) m in
    let q = Among_from_select (λ (u : Term). fits_in n u.0) s.0 (x_to (replicate (i - 1) 0 ++ (1 ∷ []))) s.1 in
    let is : size s.0.0 ≡ 1 = elim q.0 [ inl e ↦ ap (λ (v : Term). size v.0) e ∙ size-append (replicate (i - 1) 0) (1 ∷ []) ∙ (let z = size-zeros (i - 1) in omega arith) | inr k ↦ absurd k ] in
    ap (λ (v : Term). size v.0) s.2 ∙ size-resize_fitting n s.0.0 q.1 ∙ is

degree-negate : (d : ℕ) (f : Poly) → OfDegree d f → OfDegree d (negate f)
degree-negate d f h t m =
    let s = Among_from_map (λ (u : Term). (u.0, neg_ℤ u.1)) t f m in
    ap (λ (v : Term). size v.0) s.2 ∙ h s.0 s.1

degree-difference_in : (i j m : ℕ) → OfDegree 1 (difference_in i j m)
degree-difference_in i j m t n =
    elim (Among_from_append t (beside (variable_in i m) (one m)) (negate (beside (one m) (variable_in j m))) n) [
      | inl k ↦ let d = degree-beside 1 0 (variable_in i m) (one m) (degree-variable_in i m) (one-of_degree m) t k in omega arith
      | inr k ↦ let d = degree-negate (0 + 1) (beside (one m) (variable_in j m)) (degree-beside 0 1 (one m) (variable_in j m) (one-of_degree m) (degree-variable_in j m)) t k in omega arith
    ]

degree-product_of : (n : ℕ) (fs : List Poly) → ((f : Poly) → Among f fs → OfDegree 1 f)
    → OfDegree (length fs) (product_of n fs)
degree-product_of n [] h t m = one-of_degree n t m
degree-product_of n (f ∷ fs) h t m =
    let d = times-of_degree 1 (length fs) f (product_of n fs) (h f (inl refl)) (degree-product_of n fs (λ g i. h g (inr i))) t m in omega arith

abbrev factors_of : ℕ → ℕ → ℕ → ℕ → List Poly
factors_of n m i k = flat_map (λ i. map (λ j. difference_in i j m) (after 0 (n - i))) (after i k)

length-factors : (n m i k : ℕ) → i + k ≡ n → length (factors_of n m i k) ≡ size (staircase k)
length-factors n m i zero h = refl
length-factors n m i (suc k) h =
    let e = length-append (map (λ j. difference_in (i + 1) j m) (after 0 (n - (i + 1)))) (factors_of n m (i + 1) k) in
    let f = length-map (after 0 (n - (i + 1))) (λ j. difference_in (i + 1) j m) in
    let g = length_after 0 (n - (i + 1)) in
    let r = length-factors n m (i + 1) k (omega arith) in
    omega arith

degree-difference_product : (n m : ℕ) → OfDegree (size (staircase n)) (difference_product n m)
degree-difference_product n m =
    subst (λ d. OfDegree d (difference_product n m)) (length-factors n m 0 n (omega arith))
    (degree-product_of (m + m) (factors_of n m 0 n) (λ f i.
    let s = Among_from_each (λ i. map (λ j. difference_in i j m) (after 0 (n - i))) f (after 0 n) i in
    let u = Among_from_map (λ j. difference_in s.0 j m) f (after 0 (n - s.0)) s.2 in
    subst (OfDegree 1) (sym u.2) (degree-difference_in s.0 u.0 m)))

double-positive : (m : ℕ) (w : List ℕ) (k : ℕ) → IsOneLine w → Rises k (exchange_at k w) → (t : Term)
    → Among t (double_schubert w m) → 0 < size t.0
double-positive m w k o r t i =
    let d = degree_within (suc (rising_pairs w)) (difference_product (length w) m) (size (staircase (length w))) (degree-difference_product (length w) m) w (omega arith) o.once t i in
    let more = rising_pairs_exchange k (exchange_at k w) r in
    let back = ap rising_pairs (exchange_twice k w) in
    let most = rising_at_most (exchange_at k w) in
    let long = ap (λ n. size (staircase n)) (length-exchange_at k w) in
    omega arith

-- ---- a change of the exponents after place n

abbrev pub changed_after : ℕ → (List ℕ → List ℕ) → List ℕ → List ℕ
changed_after zero s α = s α
changed_after (suc n) s [] = []
changed_after (suc n) s (a ∷ α) = a ∷ changed_after n s α

along-changed : (k n : ℕ) (s : List ℕ → List ℕ) (φ : List ℕ → ℤ) (α : List ℕ) → suc k < n
    → along k (λ β. φ (changed_after n s β)) α ≡ along k φ (changed_after n s α)
along-changed k zero s φ α h = absurd (omega arith)
along-changed zero (suc zero) s φ α h = absurd (omega arith)
along-changed zero (suc (suc n)) s φ [] h = refl
along-changed zero (suc (suc n)) s φ (a ∷ []) h = refl
along-changed zero (suc (suc n)) s φ (a ∷ b ∷ α) h = refl
along-changed (suc k) (suc n) s φ [] h = refl
along-changed (suc k) (suc n) s φ (a ∷ α) h = along-changed k n s (λ β. φ (a ∷ β)) α (omega arith)

take-changed : (n : ℕ) (s : List ℕ → List ℕ) (α : List ℕ) → take n (changed_after n s α) ≡ take n α
take-changed zero s α = refl
take-changed (suc n) s [] = refl
take-changed (suc n) s (a ∷ α) = ap (λ β. a ∷ β) (take-changed n s α)

drop-changed : (n : ℕ) (s : List ℕ → List ℕ) (α : List ℕ) → n ≤ length α → drop n (changed_after n s α) ≡ s (drop n α)
drop-changed zero s α h = refl
drop-changed (suc n) s [] h = absurd (omega arith)
drop-changed (suc n) s (a ∷ α) h = drop-changed n s α (omega arith)

pub join-changed : (n : ℕ) (γ δ : List ℕ) → n ≤ length δ → join (replicate n 0 ++ γ) δ ≡ changed_after n (join γ) δ
join-changed zero γ δ h = refl
join-changed (suc n) γ [] h = absurd (omega arith)
join-changed (suc n) γ (a ∷ δ) h = ap₂ (λ b β. b ∷ β) (omega arith) (join-changed n γ δ (omega arith))

-- ---- the dual functions

abbrev both_are : ℕ → List ℕ → List ℕ → ℤ
both_are n β δ = cond (all_zero (take n δ) && same (drop n δ) β) (pos 1) (pos 0)

-- a function that is 1 on y^β·S_w, and 0 on y^γ·S_v for any other pair (v, γ) with |γ| ≥ |β|
abbrev pub HasDoubleDual : ℕ → List ℕ → List ℕ → Type 0
HasDoubleDual n β w =
    (φ : List ℕ → ℤ) × ((v γ : List ℕ) → IsOneLine v → length v ≡ n → length γ ≡ n → size β ≤ size γ
    → pair (double_schubert v n) (λ δ. φ (changed_after n (join γ) δ)) ≡ cond (same v w && same γ β) (pos 1) (pos 0))

sizes_split : (n : ℕ) (α : List ℕ) → size (take n α) + size (drop n α) ≡ size α
sizes_split n α = sym (size-append (take n α) (drop n α)) ∙ ap size (take-append-drop n α)

take_zeros : (n m : ℕ) → all_zero (take n (replicate m 0)) ≡ true
take_zeros zero m = refl
take_zeros (suc n) zero = refl
take_zeros (suc n) (suc m) = take_zeros n m

drop_zeros : (n m k : ℕ) → k ≡ n + m → drop n (replicate {A = ℕ} k 0) ≡ replicate m 0
drop_zeros zero m k e = ap (λ i. replicate {A = ℕ} i 0) (omega arith)
drop_zeros (suc n) m zero e = absurd (omega arith)
drop_zeros (suc n) m (suc k) e = drop_zeros n m k (omega arith)

identity_dual : (n : ℕ) (β w : List ℕ) → length β ≡ n → IsOneLine w → length w ≡ n → NeverFalls w
    → HasDoubleDual n β w
identity_dual n β w lb o l never = (both_are n β, λ v γ p q lg h. by v γ p q lg h (falls_somewhere v))
  where
    by : (v γ : List ℕ) → IsOneLine v → length v ≡ n → length γ ≡ n → size β ≤ size γ
        → ((k : ℕ) × Rises k (exchange_at k v)) ⊎ NeverFalls v
        → pair (double_schubert v n) (λ δ. both_are n β (changed_after n (join γ) δ)) ≡ cond (same v w && same γ β) (pos 1) (pos 0)
    by v γ p q lg h (inl found) =
        total_none (λ (t : Term). t.1 *ℤ both_are n β (changed_after n (join γ) t.0)) (double_schubert v n) each
        ∙ sym (ap (λ b. cond (b && same γ β) (pos 1) (pos 0)) (same_apart v w (λ e. not_falls found.0 w never (subst (λ u. Rises found.0 (exchange_at found.0 u)) e found.1))))
      where
        each : (t : Term) → Among t (double_schubert v n) → t.1 *ℤ both_are n β (changed_after n (join γ) t.0) ≡ pos 0
        each t m =
            elim (cases_Bool (all_zero (take n (changed_after n (join γ) t.0)) && same (drop n (changed_after n (join γ) t.0)) β)) [
              | inl e ↦
                  let u = and_parts (all_zero (take n (changed_after n (join γ) t.0))) (same (drop n (changed_after n (join γ) t.0)) β) e in
                  let long : length t.0 ≡ n + n = In_double n v t m in
                  let front = all_zero-size (take n t.0) (subst (λ α. all_zero α ≡ true) (take-changed n (join γ) t.0) u.0) in
                  let back = ap size (sym (drop-changed n (join γ) t.0 (omega arith)) ∙ same_true (drop n (changed_after n (join γ) t.0)) β u.1) in
                  let j = size-join γ (drop n t.0) in
                  let s = sizes_split n t.0 in
                  let some = double-positive n v found.0 p found.1 t m in
                  absurd (omega arith)
              | inr e ↦ ap (λ b. t.1 *ℤ cond b (pos 1) (pos 0)) e ∙ *ℤ-zero t.1
            ]
    by v γ p q lg h (inr still) =
        let c = code_never_falls v still in
        double_dominant n v (λ δ. both_are n β (changed_after n (join γ) δ)) (omega arith) p.once (subst Falls (sym c) (Falls-zeros (length v)))
        ∙ ap (λ cs. diagram n 0 cs (λ δ. both_are n β (changed_after n (join γ) δ)) (replicate (n + n) 0)) c
        ∙ diagram_nothing n 0 (length v) (λ δ. both_are n β (changed_after n (join γ) δ)) (replicate (n + n) 0)
        ∙ ap₂ (λ a b. cond (a && b) (pos 1) (pos 0))
        (ap all_zero (take-changed n (join γ) (replicate (n + n) 0)) ∙ take_zeros n (n + n) ∙ sym (same_from v w (never_falls-same v w p o (q ∙ sym l) still never)))
        (ap (λ α. same α β) (drop-changed n (join γ) (replicate (n + n) 0) (let r = length-replicate {A = ℕ} (n + n) 0 in omega arith) ∙ ap (join γ) (drop_zeros n n (n + n) refl) ∙ join_comm γ (replicate n 0) ∙ join_zeros n γ (omega (arith, lg))))

step_dual : (n : ℕ) (β w : List ℕ) (k : ℕ) → length w ≡ n → Rises k (exchange_at k w)
    → HasDoubleDual n β (exchange_at k w) → HasDoubleDual n β w
step_dual n β w k l r dual = (
  along k dual.0,
  λ v γ p q lg h. pair_ext (double_schubert v n) (λ δ. along k dual.0 (changed_after n (join γ) δ)) (along k (λ δ. dual.0 (changed_after n (join γ) δ)))
      (λ δ. sym (along-changed k n (join γ) dual.0 δ within))
      ∙ by v γ p q lg h (rises_or k v (omega (arith, within)) p.once),
)
  where
    within : suc k < n
    within = let a = rises_within k (exchange_at k w) r in let b = length-exchange_at k w in omega arith

    by : (v γ : List ℕ) → IsOneLine v → length v ≡ n → length γ ≡ n → size β ≤ size γ
        → Rises k v ⊎ Rises k (exchange_at k v)
        → pair (double_schubert v n) (along k (λ δ. dual.0 (changed_after n (join γ) δ))) ≡ cond (same v w && same γ β) (pos 1) (pos 0)
    by v γ p q lg h (inl up) =
        pair_double_ascent n v k (along k (λ δ. dual.0 (changed_after n (join γ) δ))) up
        ∙ pair_ext (double_schubert (exchange_at k v) n) (along k (along k (λ δ. dual.0 (changed_after n (join γ) δ)))) (λ α. pos 0) (along_square k (λ δ. dual.0 (changed_after n (join γ) δ)))
        ∙ pair_zero (double_schubert (exchange_at k v) n)
        ∙ sym (ap (λ b. cond (b && same γ β) (pos 1) (pos 0)) (same_apart v w (λ e. not_both k w (subst (Rises k) e up) r)))
    by v γ p q lg h (inr down) =
        ap (λ u. pair (double_schubert u n) (along k (λ δ. dual.0 (changed_after n (join γ) δ)))) (sym (exchange_twice k v))
        ∙ sym (pair_double_ascent n (exchange_at k v) k (λ δ. dual.0 (changed_after n (join γ) δ)) down)
        ∙ dual.1 (exchange_at k v) γ (one_line-exchange k v p) (length-exchange_at k v ∙ q) lg h
        ∙ ap (λ b. cond (b && same γ β) (pos 1) (pos 0)) (tests_agree (same (exchange_at k v) (exchange_at k w)) (same v w)
        (λ e. same_from v w (sym (exchange_twice k v) ∙ (ap (exchange_at k) (same_true (exchange_at k v) (exchange_at k w) e) ∙ exchange_twice k w)))
        (λ e. same_from (exchange_at k v) (exchange_at k w) (ap (exchange_at k) (same_true v w e))))

pub dual_within : (f n : ℕ) (β w : List ℕ) → size (staircase (length w)) < f + rising_pairs w → length β ≡ n
    → IsOneLine w → length w ≡ n → HasDoubleDual n β w
dual_within zero n β w h lb o l = absurd (let m = rising_at_most w in omega arith)
dual_within (suc f) n β w h lb o l = by (falls_somewhere w) (dual_within f n β)
  where
    by : ((k : ℕ) × Rises k (exchange_at k w)) ⊎ NeverFalls w
        → ((v : List ℕ) → size (staircase (length v)) < f + rising_pairs v → length β ≡ n → IsOneLine v → length v ≡ n → HasDoubleDual n β v) → HasDoubleDual n β w
    by (inl found) rec =
        let k : ℕ = found.0 in
        let more = rising_pairs_exchange k (exchange_at k w) found.1 in
        let back = ap rising_pairs (exchange_twice k w) in
        let long = ap (λ m. size (staircase m)) (length-exchange_at k w) in
        step_dual n β w k l found.1 (rec (exchange_at k w) (omega arith) lb (one_line-exchange k w o) (length-exchange_at k w ∙ l))
    by (inr never) rec = identity_dual n β w lb o l never
