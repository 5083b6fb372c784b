-- Fusion products: the terms of a product are reflected into the alcove after each factor (Kac and Walton). The beta list of a partition with at most
-- k rows is λ + (k - 1, .., 1, 0); the partition is in the alcove if the first entry of this list minus the last is less than n. A reflection
-- subtracts n from the first entry, adds n to the last, and sorts the list, with the sign of sorting. The alternant a_b is det(x_i^(b_j)).
--     window_value          the coefficient at a label if an alternant a_b is reflected into the alcove, computed from the sum of b and from the
--                           remainders of its entries
--     window_unique         if the terms of a_b are reflected, the sum of their coefficients at the label is `window_value`
--     reflected_early       reflecting a partition before it is multiplied by a factor does not change the reflected product
--     fusion_step           reflecting after each factor gives the result of reflecting the whole product once
use Rattle.std.proofs.Common.{◌≡◌, ◌⊎◌, ℕ, zero, suc, ◌+◌, ◌%◌, ◌<◌, ◌≤◌, ◌==◌, Bool, true, false, cond, List, [], ◌∷◌, ◌++◌, map, length, drop, refl, sym, ◌∙◌, ap, ap₂, subst, inl, inr, arith, ℤ, pos, neg_ℤ, ◌*ℤ◌, Option, Some, None, rules}
use Rattle.std.proofs.lemmas.Bool.{cases_eq, eq-eqb, eqb-true, le-leb, or_cases}
use Rattle.std.proofs.lemmas.List.{length-map, map-append}
use Rattle.std.proofs.Math.Nat.{mod-mod, mod-add-mod}
use Rattle.std.proofs.Math.IntN.{*ℤ-zero, +ℤ_idr}
use Rattle.sym_model.specs.Polynomial.{Term, Same, same, join, pair, negate, scale}
use Rattle.sym_model.specs.Partition.{IsPartition, part, size, rows, ArePartitions}
use Rattle.sym_model.specs.Bases.{has}
use Rattle.sym_model.specs.Schur.{schur}
use Rattle.sym_model.specs.Alternant.{alternant}
use Rattle.sym_model.specs.BetaList.{beta, from_beta, has_equal_entries, sorted_falling, sorting_sign}
use Rattle.sym_model.specs.AlcoveReduction.{spread, reflected_into_alcove, as_partition, alcove_reduction}
use Rattle.sym_model.specs.WholeTerms.{WholeTerms}
use Rattle.sym_model.specs.Products.{classical_product}
use Rattle.sym_model.specs.Reductions.{reflected_term, reflected_terms}
use Rattle.sym_model.proofs.Ring.{product_assoc}
use Rattle.sym_model.proofs.Sums.{total_ext}
use Rattle.sym_model.proofs.Exponents.{same_or_not, same_apart, size-join, length-join_same}
use Rattle.sym_model.proofs.Polynomials.{at_only, coefficient_pair, pair_ext, pair_in, pair_each, pair_scale, pair_times, pair_negate, pair_determined}
use Rattle.beta_list_laws.specs.StrictFall.{FallsStrictly}
use Rattle.beta_list_laws.proofs.NeighbourExchanges.{KeptByExchanges, sort_back, sorted-exchange, size-exchange, length-exchange, equal-exchange, equal-sorted, size-sorted, sorted-falling, sorting_sign-exchange}
use Rattle.beta_list_laws.proofs.SortedLists.{sorted_strict}
use Rattle.beta_list_laws.proofs.BetaLists.{beta_strict, length-beta, beta-from_beta}
use Rattle.alternant_laws.proofs.Alternants.{alternant_exchange, opposite_is_zero}
use Rattle.alternant_laws.proofs.SortedAlternants.{alternant-equal, alternant-sorted}
use Rattle.beta_list_laws.specs.AlcoveEnd.{remainders, IsAlcoveEnd, past, up}
use Rattle.beta_list_laws.proofs.Lowest.{strict_falls}
use Rattle.beta_list_laws.proofs.Windows.{sorted-map-sorted, LieIn, narrow_lie, window_back, alcove_only, length-end}
use Rattle.beta_list_laws.proofs.AlcoveEnds.{equal_map, remainders_of_ups, matches_up, same_remainders_has, Reduced, alcove_reduced, end_found, equal_inside, ups_differ}
use Rattle.beta_list_laws.proofs.ReducedSums.{alcove_value, alcove_share, reflected_sum}
use Rattle.product_laws.specs.FactorSteps.{fused}
use Rattle.product_laws.proofs.Straightened.{IsShape, on_strict, pair-value, at_strict, shape_of_strict}
use Rattle.product_laws.proofs.ManyFactors.{sums-schur, added, join-beta, pair_shapes, two_value, step_value}
use Rattle.alternant_laws.proofs.FailingColumns.{at_sum}
use Rattle.strip_laws.proofs.Reflections.{last_of}

-- each entry of the list replaced by the number of the window [t, t + n) with the same remainder modulo n
abbrev pub ups : ℕ → ℕ → List ℕ → List ℕ
ups n t b = map (up n t) b

up_of_remainder : (n t x : ℕ) → up n t (x % n) ≡ up n t x
up_of_remainder n zero x = mod-mod x n
up_of_remainder n (suc t) x = ap (past n t) (up_of_remainder n t x)

pub ups_of_remainders : (n t : ℕ) (b : List ℕ) → ups n t (remainders n b) ≡ ups n t b
ups_of_remainders n t [] = refl
ups_of_remainders n t (x ∷ b) = ap₂ ◌∷◌ (up_of_remainder n t x) (ups_of_remainders n t b)

end_sorted : (n t : ℕ) (b c : List ℕ) → 1 ≤ n → IsAlcoveEnd n b c → LieIn n t c → sorted_falling (ups n t b) ≡ c
end_sorted n t b c h end lies =
    ap sorted_falling (sym (ups_of_remainders n t b))
    ∙ sym (sorted-map-sorted (up n t) (remainders n b))
    ∙ ap (λ l. sorted_falling (map (up n t) l)) (sym end.alike)
    ∙ sorted-map-sorted (up n t) (remainders n c)
    ∙ ap sorted_falling (window_back n t c h lies)
    ∙ sorted-falling c (strict_falls c end.strict)

-- the last entry of a strictly decreasing list, which is its least one; 0 if the list is empty
abbrev bottom : List ℕ → ℕ
bottom [] = 0
bottom (a ∷ b) = last_of a b

lies_from_bottom : (n : ℕ) (c : List ℕ) → FallsStrictly c → spread c < n → LieIn n (bottom c) c
lies_from_bottom n [] f l = tt
lies_from_bottom n (a ∷ b) f l = narrow_lie n a b f l

-- ---- the coefficient at a label if an alternant a_b is reflected into the alcove (`window_value`)

abbrev pub value : Bool → Bool → Bool → ℤ → ℤ
value equal sum there sign = cond equal (pos 0) (cond sum (cond there sign (pos 0)) (pos 0))

pub value-negated : (equal sum there : Bool) (sign : ℤ) → value equal sum there (neg_ℤ sign) ≡ neg_ℤ (value equal sum there sign)
value-negated true sum there sign = refl
value-negated false true true sign = refl
value-negated false true false sign = refl
value-negated false false there sign = refl

-- the sign of sorting u, if u has no equal entries, has the sum `sum` and, when sorted, is the beta list of the label; otherwise 0
abbrev sorted_value : List ℕ → List ℕ → ℕ → ℤ
sorted_value label u sum = value (has_equal_entries u) (size u == sum) (same (from_beta (sorted_falling u)) label) (sorting_sign u)

abbrev pub window_value : ℕ → ℕ → List ℕ → List ℕ → ℤ
window_value n t label b = sorted_value label (ups n t b) (size b)

sorted_value-exchange : (label left : List ℕ) (x y : ℕ) (right : List ℕ) (sum : ℕ) → sorted_value label (left ++ (x ∷ y ∷ right)) sum ≡ neg_ℤ (sorted_value label (left ++ (y ∷ x ∷ right)) sum)
sorted_value-exchange label left x y right sum =
    search (rules, cases_eq, neg_ℤ, equal_inside, equal-exchange, size-exchange, sorted-exchange, sorting_sign-exchange, value-negated)

window_value-exchange : (n t : ℕ) (label left : List ℕ) (x y : ℕ) (right : List ℕ) → window_value n t label (left ++ (x ∷ y ∷ right)) ≡ neg_ℤ (window_value n t label (left ++ (y ∷ x ∷ right)))
window_value-exchange n t label left x y right = search (rules, map-append, sorted_value-exchange, neg_ℤ, size-exchange)

window_value-periodic : (n t : ℕ) (label b c : List ℕ) → remainders n b ≡ remainders n c → size b ≡ size c → window_value n t label b ≡ window_value n t label c
window_value-periodic n t label b c e s =
    ap₂ (sorted_value label) (sym (ups_of_remainders n t b) ∙ ap (ups n t) e ∙ ups_of_remainders n t c) s

window_value-equal : (n t : ℕ) (label b : List ℕ) → has_equal_entries (ups n t b) ≡ true → window_value n t label b ≡ pos 0
window_value-equal n t label b e = ap (λ v. value v (size (ups n t b) == size b) (same (from_beta (sorted_falling (ups n t b))) label) (sorting_sign (ups n t b))) e

-- ---- strictly decreasing exponents b: `window_value` is the coefficient of the label in the reflection of a_b into the alcove

-- the least entry of the beta list of the label, at which the window of n numbers begins
abbrev pub start_of : ℕ → List ℕ → ℕ
start_of k label = bottom (beta k label)

equal_ups : (n t : ℕ) (b : List ℕ) → has_equal_entries (remainders n b) ≡ true → has_equal_entries (ups n t b) ≡ true
equal_ups n t b e = ap has_equal_entries (sym (ups_of_remainders n t b)) ∙ equal_map (up n t) (remainders n b) e

window_value-strict : (k n : ℕ) (label b : List ℕ) → 1 ≤ n → length b ≡ k → FallsStrictly b
    → window_value n (start_of k label) label b ≡ alcove_value label (as_partition (reflected_into_alcove n b))
window_value-strict k n label b h l f = by (reflected_into_alcove n b) (alcove_reduced n b h f)
  where
    t : ℕ
    t = start_of k label

    by : (answer : Option (List ℕ × ℤ)) → Reduced n b answer → window_value n (start_of k label) label b ≡ alcove_value label (as_partition answer)
    by None r = window_value-equal n (start_of k label) label b (equal_ups n (start_of k label) b r)
    by (Some a) (distinct, end, s, lies, sign) = here (same_or_not (from_beta a.0) label)
      where
        here : (from_beta a.0 ≡ label) ⊎ (from_beta a.0 ≡ label → ⊥) → window_value n (start_of k label) label b ≡ cond (same (from_beta a.0) label) a.1 (pos 0)
        here (inl e) =
            let long : length a.0 ≡ k = length-end n b a.0 end ∙ l in
            let is : beta k label ≡ a.0 = ap (beta k) (sym e) ∙ ap (λ m. beta m (from_beta a.0)) (sym long) ∙ beta-from_beta a.0 end.strict in
            let own : LieIn n (start_of k label) a.0 = subst (λ c. LieIn n (bottom c) a.0) (sym is) (lies_from_bottom n a.0 end.strict end.narrow) in
            let sorts = end_sorted n (start_of k label) b a.0 h end own in
            let sum : size (ups n (start_of k label) b) ≡ size b = sym (size-sorted (ups n (start_of k label) b)) ∙ ap size sorts ∙ end.sum in
            let members = same_remainders_has n b a.0 end.alike in
            let values : ups n s b ≡ ups n (start_of k label) b = sym (matches_up n s b a.0 h lies members) ∙ matches_up n (start_of k label) b a.0 h own members in
            ap (λ v. value v (size (ups n (start_of k label) b) == size b) (same (from_beta (sorted_falling (ups n (start_of k label) b))) label) (sorting_sign (ups n (start_of k label) b))) (ups_differ n (start_of k label) b h distinct)
            ∙ ap (λ v. value false v (same (from_beta (sorted_falling (ups n (start_of k label) b))) label) (sorting_sign (ups n (start_of k label) b))) (eq-eqb _ _ sum)
            ∙ ap (λ v. value false true (same (from_beta v) label) (sorting_sign (ups n (start_of k label) b))) sorts
            ∙ ap (λ v. value false true (same (from_beta a.0) label) v) (ap sorting_sign (sym values) ∙ sym sign)
        here (inr other) =
            none (has_equal_entries (ups n (start_of k label) b)) (size (ups n (start_of k label) b) == size b) refl (same_or_not (from_beta (sorted_falling (ups n (start_of k label) b))) label)
            ∙ sym (ap (λ v. cond v a.1 (pos 0)) (same_apart (from_beta a.0) label other))
          where
            none : (equal sum : Bool) → (size (ups n (start_of k label) b) == size b) ≡ sum
                → (from_beta (sorted_falling (ups n (start_of k label) b)) ≡ label) ⊎ (from_beta (sorted_falling (ups n (start_of k label) b)) ≡ label → ⊥)
                → value equal sum (same (from_beta (sorted_falling (ups n (start_of k label) b))) label) (sorting_sign (ups n (start_of k label) b)) ≡ pos 0
            none true sum e c = refl
            none false false e c = refl
            none false true e (inl there) =
                absurd (other (ap from_beta (alcove_only n b a.0 (sorted_falling (ups n (start_of k label) b)) h end (end_found n (start_of k label) b h distinct (eqb-true _ _ e))) ∙ there))
            none false true e (inr n') = ap (λ v. cond v (sorting_sign (ups n (start_of k label) b)) (pos 0)) (same_apart (from_beta (sorted_falling (ups n (start_of k label) b))) label n')

window_unique : (k n : ℕ) (label b : List ℕ) → 1 ≤ n → length b ≡ k → pair (alternant b) (on_strict (alcove_share k n label)) ≡ window_value n (start_of k label) label b
window_unique k n label b h = sort_back P b kept sorted
  where
    P : List ℕ → Type 0
    P s = length s ≡ k → pair (alternant s) (on_strict (alcove_share k n label)) ≡ window_value n (start_of k label) label s

    kept : KeptByExchanges P
    kept left x y right p l =
        pair_determined (alternant (left ++ (y ∷ x ∷ right))) (negate (alternant (left ++ (x ∷ y ∷ right)))) (on_strict (alcove_share k n label)) (alternant_exchange left [] right y x)
        ∙ pair_negate (alternant (left ++ (x ∷ y ∷ right))) (on_strict (alcove_share k n label))
        ∙ ap neg_ℤ (p (length-exchange left x y right ∙ l))
        ∙ sym (window_value-exchange n (start_of k label) label left y x right)

    at_strict_list : (s : List ℕ) → length s ≡ k → FallsStrictly s → pair (alternant s) (on_strict (alcove_share k n label)) ≡ window_value n (start_of k label) label s
    at_strict_list s l f =
        let few : rows (from_beta s) ≤ k = (shape_of_strict k s l f).few in
        pair-value s (alcove_share k n label) f
        ∙ ap (λ v. alcove_value label (cond {A = Option (List ℕ × ℤ)} v (as_partition (reflected_into_alcove n (beta k (from_beta s)))) None)) (le-leb (rows (from_beta s)) k few)
        ∙ ap (λ c. alcove_value label (as_partition (reflected_into_alcove n c))) (ap (λ m. beta m (from_beta s)) (sym l) ∙ beta-from_beta s f)
        ∙ sym (window_value-strict k n label s h l f)

    sorted : P (sorted_falling b)
    sorted l = by (has_equal_entries (sorted_falling b)) refl
      where
        by : (v : Bool) → has_equal_entries (sorted_falling b) ≡ v → pair (alternant (sorted_falling b)) (on_strict (alcove_share k n label)) ≡ window_value n (start_of k label) label (sorted_falling b)
        by true e =
            alternant-equal (sorted_falling b) (on_strict (alcove_share k n label)) e
            ∙ sym (window_value-equal n (start_of k label) label (sorted_falling b) (equal_map (up n (start_of k label)) (sorted_falling b) e))
        by false e = at_strict_list (sorted_falling b) l (sorted_strict b (sym (equal-sorted b) ∙ e))

-- the coefficient at `label` of the list that results if the terms of a_b·s_next are reflected into the alcove
abbrev multiplied_value : ℕ → ℕ → List ℕ → List ℕ → List ℕ → ℤ
multiplied_value k n next label b = pair (alternant b) (added k next (on_strict (alcove_share k n label)))

multiplied_windows : (k n : ℕ) (next label b : List ℕ) → 1 ≤ n → IsPartition next → length b ≡ k
    → multiplied_value k n next label b ≡ pair (schur next k) (λ α. window_value n (start_of k label) label (join b α))
multiplied_windows k n next label b h q l =
    let s = sums-schur k next q in
    sym (pair_times (alternant b) (schur next k) (on_strict (alcove_share k n label)))
    ∙ s.sums b (on_strict (alcove_share k n label)) l
    ∙ pair_in k (schur next k) (λ α. pair (alternant (join b α)) (on_strict (alcove_share k n label))) (λ α. window_value n (start_of k label) label (join b α)) s.within
    (λ α m. window_unique k n label (join b α) h (length-join_same k b α l m))

pub remainders-join : (n : ℕ) (b c α : List ℕ) → remainders n b ≡ remainders n c → remainders n (join b α) ≡ remainders n (join c α)
remainders-join n [] [] α e = refl
remainders-join n [] (y ∷ c) α e = absurd (let l = ap length e in omega arith)
remainders-join n (x ∷ b) [] α e = absurd (let l = ap length e in omega arith)
remainders-join n (x ∷ b) (y ∷ c) [] e = e
remainders-join n (x ∷ b) (y ∷ c) (a ∷ α) e =
    let first : x % n ≡ y % n = ap (λ l. part l 1) e in
    ap₂ ◌∷◌
    (sym (mod-add-mod x n a) ∙ ap (λ r. (r + a) % n) first ∙ mod-add-mod y n a)
    (remainders-join n b c α (ap (drop 1) e))

multiplied-periodic : (k n : ℕ) (next label b c : List ℕ) → 1 ≤ n → IsPartition next → length b ≡ k → length c ≡ k → remainders n b ≡ remainders n c → size b ≡ size c
    → multiplied_value k n next label b ≡ multiplied_value k n next label c
multiplied-periodic k n next label b c h q l m e s =
    multiplied_windows k n next label b h q l
    ∙ pair_ext (schur next k) (λ α. window_value n (start_of k label) label (join b α)) (λ α. window_value n (start_of k label) label (join c α))
    (λ α. window_value-periodic n (start_of k label) label (join b α) (join c α) (remainders-join n b c α e) (let x = size-join b α in let y = size-join c α in omega arith))
    ∙ sym (multiplied_windows k n next label c h q m)

-- ---- lists b in which two entries leave the same remainder modulo n: `multiplied_value` is 0

place_of : (n r : ℕ) (b : List ℕ) → has r (remainders n b) ≡ true → (middle : List ℕ) × (y : ℕ) × (right : List ℕ) × (b ≡ middle ++ (y ∷ right)) × (y % n ≡ r)
place_of n r [] e = absurd (cc)
place_of n r (c ∷ b) e = by (or_cases (c % n == r) (has r (remainders n b)) e) (λ t. place_of n r b t)
  where
    by : ((c % n == r) ≡ true) ⊎ (has r (remainders n b) ≡ true)
        → (has r (remainders n b) ≡ true → (middle : List ℕ) × (y : ℕ) × (right : List ℕ) × (b ≡ middle ++ (y ∷ right)) × (y % n ≡ r))
        → (middle : List ℕ) × (y : ℕ) × (right : List ℕ) × (c ∷ b ≡ middle ++ (y ∷ right)) × (y % n ≡ r)
    by (inl t) later = ([], c, b, refl, eqb-true (c % n) r t)
    by (inr t) later = let p = later t in (c ∷ p.0, p.1, p.2, ap (λ l. c ∷ l) p.3, p.4)

-- two entries x and y of the list b leave the same remainder modulo n
pub record Repeats (n : ℕ) (b : List ℕ) : Type 0 where
  pub left : List ℕ
  pub x : ℕ
  pub middle : List ℕ
  pub y : ℕ
  pub right : List ℕ
  pub is : b ≡ left ++ (x ∷ (middle ++ (y ∷ right)))
  pub alike : x % n ≡ y % n

pub repeated : (n : ℕ) (b : List ℕ) → has_equal_entries (remainders n b) ≡ true → Repeats n b
repeated n [] e = absurd (cc)
repeated n (c ∷ b) e = by (or_cases (has (c % n) (remainders n b)) (has_equal_entries (remainders n b)) e) (λ t. repeated n b t)
  where
    by : (has (c % n) (remainders n b) ≡ true) ⊎ (has_equal_entries (remainders n b) ≡ true) → (has_equal_entries (remainders n b) ≡ true → Repeats n b) → Repeats n (c ∷ b)
    by (inl t) later =
        let p = place_of n (c % n) b t in
        record { left = []; x = c; middle = p.0; y = p.1; right = p.2; is = ap (λ l. c ∷ l) p.3; alike = sym p.4 }
    by (inr t) later =
        let r = later t in
        record { left = c ∷ r.left; x = r.x; middle = r.middle; y = r.y; right = r.right; is = ap (λ l. c ∷ l) r.is; alike = r.alike }

pub exchanged_remainders : (n : ℕ) (left middle right : List ℕ) (x y : ℕ) → x % n ≡ y % n
    → remainders n (left ++ (x ∷ (middle ++ (y ∷ right)))) ≡ remainders n (left ++ (y ∷ (middle ++ (x ∷ right))))
exchanged_remainders n [] middle right x y e = ap₂ ◌∷◌ e (tail middle)
  where
    tail : (middle : List ℕ) → remainders n (middle ++ (y ∷ right)) ≡ remainders n (middle ++ (x ∷ right))
    tail [] = ap (λ r. r ∷ remainders n right) (sym e)
    tail (c ∷ middle) = ap (λ l. (c % n) ∷ l) (tail middle)
exchanged_remainders n (c ∷ left) middle right x y e = ap (λ l. (c % n) ∷ l) (exchanged_remainders n left middle right x y e)

size_with : (left right : List ℕ) (x : ℕ) → size (left ++ (x ∷ right)) ≡ x + size (left ++ right)
size_with [] right x = refl
size_with (c ∷ left) right x = let e = size_with left right x in omega arith

pub exchanged_size : (left middle right : List ℕ) (x y : ℕ) → size (left ++ (x ∷ (middle ++ (y ∷ right)))) ≡ size (left ++ (y ∷ (middle ++ (x ∷ right))))
exchanged_size [] middle right x y = let a = size_with middle right y in let b = size_with middle right x in omega arith
exchanged_size (c ∷ left) middle right x y = let e = exchanged_size left middle right x y in omega arith

pub exchanged_length : (left middle right : List ℕ) (x y : ℕ) → length (left ++ (x ∷ (middle ++ (y ∷ right)))) ≡ length (left ++ (y ∷ (middle ++ (x ∷ right))))
exchanged_length [] [] right x y = refl
exchanged_length [] (c ∷ middle) right x y = ap suc (exchanged_length [] middle right x y)
exchanged_length (c ∷ left) middle right x y = ap suc (exchanged_length left middle right x y)

multiplied-repeated : (k n : ℕ) (next label b : List ℕ) → 1 ≤ n → IsPartition next → length b ≡ k → has_equal_entries (remainders n b) ≡ true → multiplied_value k n next label b ≡ pos 0
multiplied-repeated k n next label b h q l e =
    let r = repeated n b e in
    let first = r.left ++ (r.x ∷ (r.middle ++ (r.y ∷ r.right))) in
    let second = r.left ++ (r.y ∷ (r.middle ++ (r.x ∷ r.right))) in
    let long : length first ≡ k = sym (ap length r.is) ∙ l in
    let same_value : multiplied_value k n next label first ≡ multiplied_value k n next label second =
    multiplied-periodic k n next label first second h q long (sym (exchanged_length r.left r.middle r.right r.x r.y) ∙ long)
    (exchanged_remainders n r.left r.middle r.right r.x r.y r.alike) (exchanged_size r.left r.middle r.right r.x r.y) in
    let turned : multiplied_value k n next label first ≡ neg_ℤ (multiplied_value k n next label second) =
    pair_determined (alternant first) (negate (alternant second)) (added k next (on_strict (alcove_share k n label))) (alternant_exchange r.left r.middle r.right r.x r.y)
    ∙ pair_negate (alternant second) (added k next (on_strict (alcove_share k n label))) in
    ap (multiplied_value k n next label) r.is
    ∙ opposite_is_zero (multiplied_value k n next label first) (turned ∙ ap neg_ℤ (sym same_value))

-- ---- reflecting a label before it is multiplied by `next` does not change the reflected product

-- the sign of a reduction into the alcove times the value of χ at its partition; 0 if the reduction is 0
abbrev pub at_reduced : (List ℕ → ℤ) → Option (List ℕ × ℤ) → ℤ
at_reduced χ None = pos 0
at_reduced χ (Some a) = a.1 *ℤ χ a.0

-- the reduction into the alcove is 0, or its partition has at most k rows
abbrev IsAnswer : ℕ → Option (List ℕ × ℤ) → Type 0
IsAnswer k None = Unit {0}
IsAnswer k (Some a) = IsShape k a.0

record IsReducedEarly (k n : ℕ) (next label : List ℕ) (x : ℤ) (answer : Option (List ℕ × ℤ)) : Type 0 where
  shape : IsAnswer k answer
  equal : x ≡ at_reduced (at_sum k (added k next (on_strict (alcove_share k n label)))) answer

reflected_list : (k n : ℕ) (next label b : List ℕ) → 1 ≤ n → IsPartition next → length b ≡ k → FallsStrictly b
    → IsReducedEarly k n next label (multiplied_value k n next label b) (as_partition (reflected_into_alcove n b))
reflected_list k n next label b h q l f = by (reflected_into_alcove n b) (alcove_reduced n b h f)
  where
    by : (answer : Option (List ℕ × ℤ)) → Reduced n b answer → IsReducedEarly k n next label (multiplied_value k n next label b) (as_partition answer)
    by None r = record { shape = tt; equal = multiplied-repeated k n next label b h q l r }
    by (Some a) (distinct, end, t, lies, sign) =
        let u = ups n t b in
        let long : length a.0 ≡ k = length-end n b a.0 end ∙ l in
        let sorts : sorted_falling u ≡ a.0 = end_sorted n t b a.0 h end lies in
        let sum : size u ≡ size b = sym (size-sorted u) ∙ ap size sorts ∙ end.sum in
        record {
          shape = shape_of_strict k a.0 long end.strict;
          equal =
              multiplied-periodic k n next label b u h q l (length-map b (up n t) ∙ l) (sym (remainders_of_ups n t b h)) (sym sum)
              ∙ alternant-sorted u (added k next (on_strict (alcove_share k n label))) (ups_differ n t b h distinct)
              ∙ ap (λ c. sorting_sign u *ℤ multiplied_value k n next label c) sorts
              ∙ ap (λ z. z *ℤ multiplied_value k n next label a.0) (sym sign)
              ∙ ap (λ z. a.1 *ℤ z) (sym (at_strict k a.0 (added k next (on_strict (alcove_share k n label))) long end.strict));
        }

reflected_early : (k n : ℕ) (next label parts : List ℕ) → 1 ≤ n → IsPartition next → IsShape k parts
    → IsReducedEarly k n next label (at_sum k (added k next (on_strict (alcove_share k n label))) parts) (alcove_reduction k n parts)
reflected_early k n next label parts h q p =
    let r = reflected_list k n next label (beta k parts) h q (length-beta k parts) (beta_strict k parts p.partition.falls) in
    subst (λ v. IsReducedEarly k n next label (at_sum k (added k next (on_strict (alcove_share k n label))) parts) (cond {A = Option (List ℕ × ℤ)} v (as_partition (reflected_into_alcove n (beta k parts))) None))
    (sym (le-leb (rows parts) k p.few))
    (subst (λ z. IsReducedEarly k n next label z (as_partition (reflected_into_alcove n (beta k parts))))
    (sym (ap (λ b. pair (alternant b) (added k next (on_strict (alcove_share k n label)))) (join-beta k parts p))) r)

pair-reflected : (k n : ℕ) (terms : WholeTerms) (χ : List ℕ → ℤ) → pair (reflected_terms k n terms) χ ≡ pair terms (λ parts. at_reduced χ (alcove_reduction k n parts))
pair-reflected k n terms χ =
    pair_each (λ (t : Term). reflected_term t.1 (alcove_reduction k n t.0)) terms χ
    ∙ total_ext (λ (t : Term). pair (reflected_term t.1 (alcove_reduction k n t.0)) χ) (λ (t : Term). t.1 *ℤ at_reduced χ (alcove_reduction k n t.0)) (λ t. one_term t.1 (alcove_reduction k n t.0)) terms
  where
    one_term : (c : ℤ) (r : Option (List ℕ × ℤ)) → pair (reflected_term c r) χ ≡ c *ℤ at_reduced χ r
    one_term c None = sym (*ℤ-zero c)
    one_term c (Some a) = +ℤ_idr ((c *ℤ a.1) *ℤ χ a.0) ∙ product_assoc c a.1 (χ a.0)

at_answers : (k : ℕ) (χ ψ : List ℕ → ℤ) (answer : Option (List ℕ × ℤ)) → IsAnswer k answer → ((parts : List ℕ) → IsShape k parts → χ parts ≡ ψ parts) → at_reduced χ answer ≡ at_reduced ψ answer
at_answers k χ ψ None s e = refl
at_answers k χ ψ (Some a) s e = ap (λ z. a.1 *ℤ z) (e a.0 s)

pub fusion_step : (k n : ℕ) (front : List (List ℕ)) (next : List ℕ) (terms : WholeTerms) → 1 ≤ n → ArePartitions front → IsPartition next
    → Same terms (reflected_terms k n (classical_product k front))
    → Same (fused k n next terms) (reflected_terms k n (classical_product k (front ++ (next ∷ []))))
fusion_step k n front next terms h p q is label =
    coefficient_pair (fused k n next terms) label
    ∙ pair_each (λ (t : Term). scale t.1 (reflected_terms k n (classical_product k (t.0 ∷ next ∷ [])))) terms (at_only label)
    ∙ total_ext (λ (t : Term). pair (scale t.1 (reflected_terms k n (classical_product k (t.0 ∷ next ∷ [])))) (at_only label)) (λ (t : Term). t.1 *ℤ reduced t.0)
    (λ t. pair_scale t.1 (reflected_terms k n (classical_product k (t.0 ∷ next ∷ []))) (at_only label)
    ∙ ap (λ z. t.1 *ℤ z) (sym (coefficient_pair (reflected_terms k n (classical_product k (t.0 ∷ next ∷ []))) label) ∙ reflected_sum k n (classical_product k (t.0 ∷ next ∷ [])) label)) terms
    ∙ pair_determined terms (reflected_terms k n (classical_product k front)) reduced is
    ∙ pair-reflected k n (classical_product k front) reduced
    ∙ pair_shapes k front (λ parts. at_reduced reduced (alcove_reduction k n parts)) (at_sum k (added k next (on_strict (alcove_share k n label)))) early
    ∙ sym (step_value k front next (alcove_share k n label) p q)
    ∙ sym (reflected_sum k n (classical_product k (front ++ (next ∷ []))) label)
  where
    reduced : List ℕ → ℤ
    reduced parts = pair (classical_product k (parts ∷ next ∷ [])) (alcove_share k n label)

    early : (parts : List ℕ) → IsShape k parts → at_reduced reduced (alcove_reduction k n parts) ≡ at_sum k (added k next (on_strict (alcove_share k n label))) parts
    early parts s =
        let r = reflected_early k n next label parts h q s in
        at_answers k reduced (at_sum k (added k next (on_strict (alcove_share k n label)))) (alcove_reduction k n parts) r.shape
        (λ x t. two_value k x next (alcove_share k n label) t q)
        ∙ sym r.equal
