-- The entries that are added to a sum of terms f_w·S_w when (x_r - y_c)·f_w·S_w is computed (`factor_lists` of specs/ByPermutations). An *entry* is a
-- permutation v with a polynomial in y by which the double Schubert polynomial S_v is multiplied. The *value* of a list of entries, for a function φ,
-- is the sum of c·φ(v, e) over the entries and over the terms c·y^e of their polynomials.
--     difference_none, difference_both    the product of a polynomial in y and y_a - y_c
--     each_next, each_all                 the same polynomial in y added at each permutation of a list, one after another
--     lists_value, all_value              the value of the entries for one term, and for all terms
--     lists_growth, all_growth            the sum of the absolute values of the coefficients of these entries
--     lists_waiting, all_waiting          the bounds on letters, inversions and degrees of these entries
use Rattle.std.proofs.Common.{◌≡◌, ℕ, suc, ◌+◌, ◌-◌, ◌*◌, ◌^◌, ◌<◌, ◌≤◌, ◌==◌, max, List, [], ◌∷◌, ◌++◌, length, take, drop, get_or, refl, sym, ap, ap₂, ◌∙◌, subst, inl, inr, arith, append_assoc, append-nil, ℤ, pos, negsuc, ◌+ℤ◌, ◌-ℤ◌, ◌*ℤ◌, map, flat_map}
use Rattle.std.specs.Prelude.{neg_ℤ}
use Rattle.std.proofs.lemmas.Bool.{eqb-true}
use Rattle.std.proofs.lemmas.Int.{ints}
use Rattle.sym_model.specs.DividedDifference.{raised}
use Rattle.sym_model.specs.Partition.{size, after}
use Rattle.sym_model.specs.Permutation.{IsOneLine, letter, times_swap, covers_up, covers_down}
use Rattle.sym_model.specs.PlaceOrders.{inversions}
use Rattle.sym_model.specs.Sum.{total, Among}
use Rattle.sym_model.proofs.Integers.{product-neg_one}
use Rattle.sym_model.proofs.Lists.{take-read, split-read}
use Rattle.sym_model.proofs.NumberSums.{sum_by-append}
use Rattle.sym_model.proofs.Polynomials.{pair_ext, pair_add, pair_total}
use Rattle.sym_model.proofs.Ring.{product-one, negation-product}
use Rattle.sym_model.proofs.Sums.{total_append, total_ext, total_among, Among_from_append, Among_from_select, Among_from_each, total_neg}
use Rattle.schubert_laws.proofs.Members.{cover_inversions}
use Rattle.linear_combinations.specs.Gains.{over, mass, weighed, scaled, each_with, replaced, Gains}
use Rattle.linear_combinations.proofs.Gains.{gains_both, replaced_over}
use Rattle.linear_combinations.proofs.Masses.{labels_replaced, mass_replaced}
use Rattle.linear_combinations.proofs.Weighed.{weighed_all}
use Rattle.sparse_polys.proofs.Raising.{size-raised}
use Rattle.transition_walk.specs.Waiting.{WithList, IsWaiting, AreWaiting, Joins, WaitingOverflows, each_waits, value_of, growth}
use Rattle.transition_walk.proofs.Covers.{count_covers, up_within, down_within}
use Rattle.transition_walk.proofs.JoinedLists.{joins_both, overflows_both, each_append, each_value, each_among}
use Rattle.double_schubert_laws.specs.Factors.{over_factor}
use Rattle.double_schubert.specs.ByPermutations.{InY, at_pairs, one_each, plus_terms, minus_terms, difference_terms, factor_lists}
use native.Mathlib.Nat.{mul-le-mul_left}
use Rattle.std.proofs.lemmas.Grind.{flat_map-append}

-- if a = c, adding k times the product of y^e and y_a - y_c, which is 0, leaves `sum` unchanged
pub difference_none : (a c : ℕ) (e : List ℕ) (k : ℤ) (sum : InY) → a ≡ c → Gains sum (scaled k (difference_terms a c e)) sum
difference_none a c e k sum same =
    subst (λ j. Gains sum (scaled k (difference_terms a j e)) sum) same
    (record {
      sums = λ φ.
          let p = product-one k in
          let q = product-neg_one k in
          let r = ap (λ z. z *ℤ φ (raised a e)) p in
          let s = ap (λ z. z *ℤ φ (raised a e)) q in
          let n = negation-product k (φ (raised a e)) in
          omega (arith, ints);
    })

pub difference_both : (a c : ℕ) (e more less : List ℕ) (k : ℤ) (sum mid new : InY) → more ≡ raised a e → less ≡ raised c e
    → Gains sum ((more, k) ∷ []) mid → Gains mid (each_with (neg_ℤ k) (less ∷ [])) new → Gains sum (scaled k (difference_terms a c e)) new
difference_both a c e more less k sum mid new m l first second =
    subst (λ g. Gains sum g new)
    (ap₂ (λ x z. (x, z) ∷ (less, neg_ℤ k) ∷ []) m (sym (product-one k)) ∙ ap₂ (λ x z. (raised a e, k *ℤ pos 1) ∷ (x, z) ∷ []) l (sym (product-neg_one k)))
    (gains_both sum ((more, k) ∷ []) mid (each_with (neg_ℤ k) (less ∷ [])) new first second)

pub each_next : (list : InY) (xs : List (List ℕ)) (i : ℕ) (x : List ℕ) → i < length xs → x ≡ get_or xs i x
    → each_waits list (take i xs) ++ (record { perm = x; factor = list }) ∷ [] ≡ each_waits list (take (i + 1) xs)
each_next list xs i x inside is = sym (each_append list (take i xs) (x ∷ [])) ∙ ap (each_waits list) (take-read xs i x inside is)

pub each_all : (list : InY) (xs : List (List ℕ)) (i : ℕ) (x : List ℕ) → i < length xs → x ≡ get_or xs i x
    → (each_waits list (take i xs) ++ (record { perm = x; factor = list }) ∷ []) ++ each_waits list (drop (suc i) xs) ≡ each_waits list xs
each_all list xs i x inside is =
    append_assoc (each_waits list (take i xs)) ((record { perm = x; factor = list }) ∷ []) (each_waits list (drop (suc i) xs))
    ∙ sym (each_append list (take i xs) (x ∷ drop (suc i) xs))
    ∙ ap (each_waits list) (split-read xs i x inside is)

over_plus : (φ : List ℕ → ℤ) (f : InY) → over φ (replaced plus_terms f) ≡ over φ f
over_plus φ f = replaced_over plus_terms φ f ∙ pair_ext f (λ e. pos 1 *ℤ φ e +ℤ pos 0) φ (λ e. omega (arith, ints))

over_minus : (φ : List ℕ → ℤ) (f : InY) → over φ (replaced minus_terms f) ≡ over (λ e. neg_ℤ (φ e)) f
over_minus φ f = replaced_over minus_terms φ f ∙ pair_ext f (λ e. negsuc 0 *ℤ φ e +ℤ pos 0) (λ e. neg_ℤ (φ e)) (λ e. omega (arith, ints))

over_difference : (a c : ℕ) (φ : List ℕ → ℤ) (f : InY) → over φ (replaced (difference_terms a c) f) ≡ over (λ e. φ (raised a e) -ℤ φ (raised c e)) f
over_difference a c φ f =
    replaced_over (difference_terms a c) φ f
    ∙ pair_ext f (λ e. pos 1 *ℤ φ (raised a e) +ℤ (negsuc 0 *ℤ φ (raised c e) +ℤ pos 0)) (λ e. φ (raised a e) -ℤ φ (raised c e)) (λ e. omega (arith, ints))

pub lists_value : (r c : ℕ) (φ : List ℕ × List ℕ → ℤ) (term : WithList (List ℕ))
    → value_of (at_pairs φ) (factor_lists r c term) ≡ over (at_pairs (over_factor r c φ) term.perm) term.factor
lists_value r c φ term =
    let w : List ℕ = term.perm in
    let f : InY = term.factor in
    let up = covers_up r term.perm in
    let down = covers_down r term.perm in
    let last : List (WithList (List ℕ)) = (record { perm = term.perm; factor = replaced (difference_terms (letter term.perm r) c) term.factor }) ∷ [] in
    let a = total_append (λ (x : WithList (List ℕ)). over (at_pairs φ x.perm) x.factor) (each_waits (replaced plus_terms f) up) (each_waits (replaced minus_terms f) down ++ last) in
    let b = total_append (λ (x : WithList (List ℕ)). over (at_pairs φ x.perm) x.factor) (each_waits (replaced minus_terms f) down) last in
    let d =
    each_value (at_pairs φ) (replaced plus_terms f) up
    ∙ total_ext (λ x. over (at_pairs φ x) (replaced plus_terms f)) (λ x. over (at_pairs φ x) f) (λ x. over_plus (at_pairs φ x) f) up
    ∙ sym (pair_total f (λ x e. φ (x, e)) up) in
    let g =
    each_value (at_pairs φ) (replaced minus_terms f) down
    ∙ total_ext (λ x. over (at_pairs φ x) (replaced minus_terms f)) (λ x. over (λ e. neg_ℤ (φ (x, e))) f) (λ x. over_minus (at_pairs φ x) f) down
    ∙ sym (pair_total f (λ x e. neg_ℤ (φ (x, e))) down) in
    let h = over_difference (letter w r) c (at_pairs φ w) f in
    let i = pair_add f (λ e. total (λ x. φ (x, e)) up) (λ e. total (λ x. neg_ℤ (φ (x, e))) down +ℤ (φ (w, raised (letter w r) e) -ℤ φ (w, raised c e))) in
    let j = pair_add f (λ e. total (λ x. neg_ℤ (φ (x, e))) down) (λ e. φ (w, raised (letter w r) e) -ℤ φ (w, raised c e)) in
    let k =
    pair_ext f (λ e. total (λ x. φ (x, e)) up +ℤ (total (λ x. neg_ℤ (φ (x, e))) down +ℤ (φ (w, raised (letter w r) e) -ℤ φ (w, raised c e))))
    (λ e. over_factor r c φ (w, e))
    (λ e. let n = total_neg (λ x. φ (x, e)) down in omega (arith, ints)) in
    omega (arith, ints)

pub all_value : (r c : ℕ) (φ : List ℕ × List ℕ → ℤ) (terms : List (WithList (List ℕ)))
    → value_of (at_pairs φ) (flat_map (factor_lists r c) terms) ≡ value_of (at_pairs (over_factor r c φ)) terms
all_value r c φ [] = refl
all_value r c φ (term ∷ terms) =
    total_append (λ (x : WithList (List ℕ)). over (at_pairs φ x.perm) x.factor) (factor_lists r c term) (flat_map (factor_lists r c) terms)
    ∙ ap₂ (λ x y. x +ℤ y) (lists_value r c φ term) (all_value r c φ terms)

growth_each : (list : InY) (xs : List (List ℕ)) → growth one_each (each_waits list xs) ≡ mass list * length xs
growth_each list [] = omega arith
growth_each list (x ∷ xs) =
    let h = growth_each list xs in
    let a = weighed_all 1 list in
    omega arith

mass_plus : (f : InY) → mass (replaced plus_terms f) ≤ mass f * 1
mass_plus f = mass_replaced plus_terms 1 f (λ t m. omega arith)

mass_minus : (f : InY) → mass (replaced minus_terms f) ≤ mass f * 1
mass_minus f = mass_replaced minus_terms 1 f (λ t m. omega arith)

mass_difference : (a c : ℕ) (f : InY) → mass (replaced (difference_terms a c) f) ≤ mass f * 2
mass_difference a c f = mass_replaced (difference_terms a c) 2 f (λ t m. omega arith)

pub lists_growth : (r c n : ℕ) (term : WithList (List ℕ)) → 1 ≤ r → r ≤ n → length term.perm ≤ n
    → growth one_each (factor_lists r c term) ≤ weighed (one_each term.perm) term.factor * (n + 2)
lists_growth r c n term first last few =
    let f : InY = term.factor in
    let up = covers_up r term.perm in
    let down = covers_down r term.perm in
    let lasts : List (WithList (List ℕ)) = (record { perm = term.perm; factor = replaced (difference_terms (letter term.perm r) c) term.factor }) ∷ [] in
    let a = sum_by-append (λ (x : WithList (List ℕ)). weighed (one_each x.perm) x.factor) (each_waits (replaced plus_terms f) up) (each_waits (replaced minus_terms f) down ++ lasts) in
    let b = sum_by-append (λ (x : WithList (List ℕ)). weighed (one_each x.perm) x.factor) (each_waits (replaced minus_terms f) down) lasts in
    let d = growth_each (replaced plus_terms f) up in
    let e = growth_each (replaced minus_terms f) down in
    let g = weighed_all 1 (replaced (difference_terms (letter term.perm r) c) f) in
    let w = weighed_all 1 f in
    let i = count_covers r term.perm first in
    let j =
    by (mass f) (length up) (length down) n (mass (replaced plus_terms f)) (mass (replaced minus_terms f)) (mass (replaced (difference_terms (letter term.perm r) c) f)) (weighed (λ e. 1) f)
    (mass_plus f) (mass_minus f) (mass_difference (letter term.perm r) c f) (omega arith) w in
    omega arith
  where
    by : (m u v n p q s one : ℕ) → p ≤ m * 1 → q ≤ m * 1 → s ≤ m * 2 → u + v ≤ n → one ≡ m * 1 → p * u + (q * v + s * 1) ≤ one * (n + 2)
    by m u v n p q s one a b d e o =
        let f = mul-le-mul_left u a in
        let g = mul-le-mul_left v b in
        let h = mul-le-mul_left m e in
        let i : u * (m * 1) ≡ m * u = omega arith in
        let j : v * (m * 1) ≡ m * v = omega arith in
        let k : u * p ≡ p * u = omega arith in
        let l : v * q ≡ q * v = omega arith in
        let t : m * (u + v) ≡ m * u + m * v = omega arith in
        let x = ap (λ z. z * (n + 2)) o in
        let y : m * 1 * (n + 2) ≡ m * n + m * 2 = omega arith in
        omega arith

pub all_growth : (r c n : ℕ) (terms : List (WithList (List ℕ))) → 1 ≤ r → r ≤ n → ((x : WithList (List ℕ)) → Among x terms → length x.perm ≤ n)
    → growth one_each (flat_map (factor_lists r c) terms) ≤ growth one_each terms * (n + 2)
all_growth r c n [] first last few = omega arith
all_growth r c n (term ∷ terms) first last few =
    let a = sum_by-append (λ (x : WithList (List ℕ)). weighed (one_each x.perm) x.factor) (factor_lists r c term) (flat_map (factor_lists r c) terms) in
    let b = lists_growth r c n term first last (few term (inl refl)) in
    let d = all_growth r c n terms first last (λ x m. few x (inr m)) in
    let e : (weighed (one_each term.perm) term.factor + growth one_each terms) * (n + 2)
    ≡ weighed (one_each term.perm) term.factor * (n + 2) + growth one_each terms * (n + 2) = omega arith in
    omega arith

pub growth_part : (r c : ℕ) (done rest all : List (WithList (List ℕ))) (term : WithList (List ℕ)) → done ++ term ∷ rest ≡ all
    → growth one_each (flat_map (factor_lists r c) done ++ factor_lists r c term) ≤ growth one_each (flat_map (factor_lists r c) all)
growth_part r c done rest all term is =
    let a = ap (λ (l : List (WithList (List ℕ))). growth one_each (flat_map (factor_lists r c) l)) is in
    let b = ap (growth one_each) (flat_map-append (factor_lists r c) done (term ∷ rest)) in
    let d = sum_by-append (λ (x : WithList (List ℕ)). weighed (one_each x.perm) x.factor) (flat_map (factor_lists r c) done) (factor_lists r c term ++ flat_map (factor_lists r c) rest) in
    let e = sum_by-append (λ (x : WithList (List ℕ)). weighed (one_each x.perm) x.factor) (factor_lists r c term) (flat_map (factor_lists r c) rest) in
    let f = sum_by-append (λ (x : WithList (List ℕ)). weighed (one_each x.perm) x.factor) (flat_map (factor_lists r c) done) (factor_lists r c term) in
    omega arith

cover_up_inversions : (r : ℕ) (w x : List ℕ) → Among x (covers_up r w) → inversions x ≡ inversions w + 1
cover_up_inversions r w x m =
    let a = Among_from_select (λ (v : List ℕ). inversions v == inversions w + 1) x (map (λ j. times_swap r j w) (after r (max (length w) r + 1 - r))) m in
    eqb-true (inversions x) (inversions w + 1) a.1

pub lists_waiting : (r c n top : ℕ) (term : WithList (List ℕ)) → 1 ≤ r → r ≤ n → IsWaiting size n top term → AreWaiting size (n + 1) (top + 2) (factor_lists r c term)
lists_waiting r c n top term first last is x m =
    let few = is.few in
    let inside = is.inside in
    elim (Among_from_append x (each_waits (replaced plus_terms term.factor) (covers_up r term.perm)) (each_waits (replaced minus_terms term.factor) (covers_down r term.perm)
    ++ (record { perm = term.perm; factor = replaced (difference_terms (letter term.perm r) c) term.factor }) ∷ []) m) [
      | inl l ↦
          each_among (IsWaiting size (n + 1) (top + 2)) (replaced plus_terms term.factor) (covers_up r term.perm)
          (λ y k.
          let i = cover_up_inversions r term.perm y k in
          record {
            few = up_within r (n + 1) term.perm y first (omega arith) k;
            inside = omega arith;
            labels = labels_replaced plus_terms (λ e. size e + inversions y ≤ top + 2) term.factor
                (λ t j u h. elim h [ inl e ↦ (let z = ap (λ (v : List ℕ × ℤ). size v.0) e in let q = is.labels t j in omega arith) | inr n ↦ absurd n ]);
          }) x l
      | inr l ↦ elim (Among_from_append x (each_waits (replaced minus_terms term.factor) (covers_down r term.perm))
          ((record { perm = term.perm; factor = replaced (difference_terms (letter term.perm r) c) term.factor }) ∷ []) l) [
            | inl d ↦
                each_among (IsWaiting size (n + 1) (top + 2)) (replaced minus_terms term.factor) (covers_down r term.perm)
                (λ y k.
                let i = cover_inversions r term.perm y k in
                record {
                  few = down_within r (n + 1) term.perm y (omega arith) k;
                  inside = omega arith;
                  labels = labels_replaced minus_terms (λ e. size e + inversions y ≤ top + 2) term.factor
                      (λ t j u h. elim h [ inl e ↦ (let z = ap (λ (v : List ℕ × ℤ). size v.0) e in let q = is.labels t j in omega arith) | inr n ↦ absurd n ]);
                }) x d
            | inr d ↦ elim d [
              | inl e ↦
                  subst (IsWaiting size (n + 1) (top + 2)) (sym e)
                  (record {
                    few = omega arith;
                    inside = omega arith;
                    labels = labels_replaced (difference_terms (letter term.perm r) c) (λ e. size e + inversions term.perm ≤ top + 2) term.factor
                        (λ t j u h.
                        let q = is.labels t j in
                        elim h [
                          | inl e ↦ (let z = ap (λ (v : List ℕ × ℤ). size v.0) e in let s = size-raised (letter term.perm r) t.0 in omega arith)
                          | inr h ↦ elim h [
                            | inl e ↦ (let z = ap (λ (v : List ℕ × ℤ). size v.0) e in let s = size-raised c t.0 in omega arith)
                            | inr n ↦ absurd n
                          ]
                        ]);
                  })
              | inr n ↦ absurd n
            ]
          ]
    ]

pub all_waiting : (r c n top : ℕ) (terms : List (WithList (List ℕ))) → 1 ≤ r → r ≤ n → AreWaiting size n top terms
    → AreWaiting size (n + 1) (top + 2) (flat_map (factor_lists r c) terms)
all_waiting r c n top terms first last are x m =
    let f = Among_from_each (factor_lists r c) x terms m in
    lists_waiting r c n top f.0 first last (are f.0 f.1) x f.2

pub lists_as : (r c letter_is : ℕ) (term : WithList (List ℕ)) (up down : List (List ℕ)) → up ≡ covers_up r term.perm → down ≡ covers_down r term.perm → letter_is ≡ letter term.perm r
    → each_waits (replaced plus_terms term.factor) up
    ++ (each_waits (replaced minus_terms term.factor) down ++ (record { perm = term.perm; factor = replaced (difference_terms letter_is c) term.factor }) ∷ [])
    ≡ factor_lists r c term
lists_as r c letter_is term up down u d l =
    ap (λ (xs : List (List ℕ)). each_waits (replaced plus_terms term.factor) xs
    ++ (each_waits (replaced minus_terms term.factor) down ++ (record { perm = term.perm; factor = replaced (difference_terms letter_is c) term.factor }) ∷ [])) u
    ∙ ap (λ (xs : List (List ℕ)). each_waits (replaced plus_terms term.factor) (covers_up r term.perm)
    ++ (each_waits (replaced minus_terms term.factor) xs ++ (record { perm = term.perm; factor = replaced (difference_terms letter_is c) term.factor }) ∷ [])) d
    ∙ ap (λ (a : ℕ). each_waits (replaced plus_terms term.factor) (covers_up r term.perm)
    ++ (each_waits (replaced minus_terms term.factor) (covers_down r term.perm) ++ (record { perm = term.perm; factor = replaced (difference_terms a c) term.factor }) ∷ [])) l

-- let `cur` be the sum of the entries that `factor_lists` has for the terms `done`. If the entries for one more term are added to `cur`, the result
-- is the sum of the entries for `done` followed by this term
module _ (r c : ℕ) (done : List (WithList (List ℕ))) (term : WithList (List ℕ)) (cur : List (WithList (List ℕ))) (so_far : Joins [] (flat_map (factor_lists r c) done) cur) where
  pub term_joins : (new : List (WithList (List ℕ))) → Joins cur (factor_lists r c term) new → Joins [] (flat_map (factor_lists r c) (done ++ term ∷ [])) new
  term_joins new more =
      subst (λ l. Joins [] l new)
      (ap (λ l. flat_map (factor_lists r c) done ++ l) (sym (append-nil (factor_lists r c term))) ∙ sym (flat_map-append (factor_lists r c) done (term ∷ [])))
      (joins_both [] (flat_map (factor_lists r c) done) cur (factor_lists r c term) new so_far more)

  pub term_overflows : (rest all : List (WithList (List ℕ))) (n top : ℕ) → done ++ term ∷ rest ≡ all → 1 ≤ r → r ≤ n → AreWaiting size n top all
      → WaitingOverflows cur (factor_lists r c term) → 2 ^ 127 ≤ growth one_each all * (n + 2)
  term_overflows rest all n top is first last are o =
      let both = overflows_both [] (flat_map (factor_lists r c) done) cur (factor_lists r c term) so_far o in
      let a = both.large one_each (omega arith) in
      let b = growth_part r c done rest all term is in
      let d = all_growth r c n all first last (λ x m. (are x m).few) in
      omega arith

-- the value of `new`, the sum of the entries that `factor_lists` has for all terms, and the bounds on its coefficients, letters and degrees
module _ (r c : ℕ) (terms new : List (WithList (List ℕ))) (all : Joins [] (flat_map (factor_lists r c) terms) new) where
  pub whole_value : (φ ψ : List ℕ × List ℕ → ℤ) → ((x : WithList (List ℕ)) → Among x terms → IsOneLine x.perm)
      → ((label : List ℕ × List ℕ) → IsOneLine label.0 → ψ label ≡ over_factor r c φ label)
      → value_of (at_pairs φ) new ≡ value_of (at_pairs ψ) terms
  whole_value φ ψ lines law =
      let a = all.value (at_pairs φ) in
      let b = all_value r c φ terms in
      let d =
      total_among (λ (x : WithList (List ℕ)). over (at_pairs ψ x.perm) x.factor) (λ (x : WithList (List ℕ)). over (at_pairs (over_factor r c φ) x.perm) x.factor) terms
      (λ x m. pair_ext x.factor (at_pairs ψ x.perm) (at_pairs (over_factor r c φ) x.perm) (λ e. law (x.perm, e) (lines x m))) in
      omega (arith, ints)

  pub whole_growth : (n top : ℕ) → 1 ≤ r → r ≤ n → AreWaiting size n top terms → growth one_each new ≤ growth one_each terms * (n + 2)
  whole_growth n top first last are =
      let a = all.grows one_each in
      let b = all_growth r c n terms first last (λ x m. (are x m).few) in
      omega arith

  pub whole_waiting : (n top : ℕ) → 1 ≤ r → r ≤ n → AreWaiting size n top terms → AreWaiting size (n + 1) (top + 2) new
  whole_waiting n top first last are =
      all.waiting size (n + 1) (top + 2) (λ x m. absurd m) (all_waiting r c n top terms first last are)
