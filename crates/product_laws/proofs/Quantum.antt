-- Quantum products: the product of partitions in which each label is reduced after each factor. A label, a partition with at most k rows, is reduced
-- by removing rim hooks of n cells; each removal gives a factor q and a sign. The alternant a_b is det(x_i^(b_j)).
--     ends_value        the coefficient at a label and a power of q if an alternant a_b is reduced, computed from the sum of b and from the
--                       remainders of its entries
--     ends_unique       if the terms of a_b are reduced, the sum of their coefficients at the label and the power is `ends_value`
--     lowered_early     reducing a partition before it is multiplied by a factor does not change the reduced product
--     quantum_step      reducing after each factor gives the result of reducing the whole product once
use Rattle.std.proofs.Common.{◌≡◌, ◌⊎◌, ℕ, zero, suc, ◌+◌, ◌-◌, ◌*◌, ◌%◌, ◌<◌, ◌≤◌, ◌==◌, ◌&&◌, nat_le, Bool, true, false, cond, List, [], ◌∷◌, ◌++◌, map, length, refl, sym, ◌∙◌, ap, ap₂, subst, inl, inr, arith, ℤ, pos, neg_ℤ, ◌+ℤ◌, ◌*ℤ◌, Some, None, rules}
use Rattle.std.proofs.lemmas.Bool.{cases_eq, eq-eqb, or_cases, or_parts, ne_eqb}
use Rattle.std.proofs.lemmas.Bool.Decides.{nat_tests}
use Rattle.std.proofs.lemmas.List.{length-map, map-append}
use Rattle.std.proofs.Math.Nat.{mod-le, mod-lt, mod-mod, mul-le-mul_left}
use Rattle.std.proofs.Math.IntN.{*ℤ-zero, +ℤ_idl}
use Rattle.sym_model.specs.Sum.{total}
use Rattle.sym_model.specs.Partition.{Falls, IsPartition, columns, size, ArePartitions}
use Rattle.sym_model.specs.Polynomial.{Term, Same, same, join, coefficient, pair, negate}
use Rattle.sym_model.specs.Bases.{has}
use Rattle.sym_model.specs.Schur.{schur}
use Rattle.sym_model.specs.Alternant.{alternant, staircase}
use Rattle.sym_model.specs.PlaceOrders.{minus_one_to}
use Rattle.sym_model.specs.BetaList.{beta, from_beta, has_equal_entries, sorted_falling, rising_pairs, sorting_sign}
use Rattle.sym_model.proofs.Signs.{minus_one_to_add}
use Rattle.sym_model.proofs.Ring.{product_assoc, product-negation}
use Rattle.sym_model.proofs.Sums.{total_ext, total_zero, total_scale, total_map, total_each}
use Rattle.sym_model.proofs.Exponents.{size-join, length-join_same}
use Rattle.sym_model.proofs.Polynomials.{pair_ext, pair_in, pair_factor, pair_zero, pair_times, pair_negate, pair_determined}
use Rattle.beta_list_laws.specs.StrictFall.{FallsStrictly}
use Rattle.beta_list_laws.proofs.NeighbourExchanges.{KeptByExchanges, sort_reach, sort_back, sorted_falls, sorted-exchange, size-exchange, length-exchange, equal-exchange, equal-sorted, size-sorted, length-sorted, sorting_sign-exchange}
use Rattle.beta_list_laws.proofs.SortedLists.{sorted_strict}
use Rattle.beta_list_laws.proofs.BetaLists.{length-beta, beta-from_beta, rest_within, part-from_beta, size-from_beta, size-beta}
use Rattle.alternant_laws.proofs.Alternants.{alternant_exchange, opposite_is_zero}
use Rattle.alternant_laws.proofs.SortedAlternants.{alternant-equal, alternant-sorted}
use Rattle.beta_list_laws.specs.AlcoveEnd.{remainders}
use Rattle.beta_list_laws.specs.LowestList.{alike, lowest, end_of, end_sign, power_of, reduction_by_remainders}
use Rattle.beta_list_laws.proofs.Windows.{has_alike, lacks_alike}
use Rattle.beta_list_laws.proofs.Ends.{goes_to_end, goes_cells, narrow, wide}
use Rattle.beta_list_laws.proofs.AlcoveEnds.{equal_map, equal_inside}
use Rattle.beta_list_laws.proofs.ReducedSums.{reduced_value, reduced_share, reduced_sum}
use Rattle.sym_model.specs.WholeTerms.{WholeTerms, WholeTermsOf, coefficient_by, same_power}
use Rattle.sym_model.specs.Reductions.{Reduction, reduced_terms}
use Rattle.sym_model.specs.Products.{classical_product}
use Rattle.beta_list_laws.specs.ReductionLists.{reductions_of}
use Rattle.product_laws.specs.FactorSteps.{reduced_product, quantized}
use Rattle.product_laws.proofs.Straightened.{IsShape, on_strict, pair-value, at_strict, shape_of_strict}
use Rattle.product_laws.proofs.ManyFactors.{sums-schur, added, join-beta, pair_shapes, two_value, step_value}
use Rattle.product_laws.proofs.Fusion.{repeated, remainders-join, exchanged_remainders, exchanged_size, exchanged_length, value, value-negated}
use Rattle.sym_model.specs.Bounded.{AreBelow}
use Rattle.alternant_laws.proofs.FailingColumns.{at_sum}
use Rattle.sym_model.specs.ReductionSteps.{with_power}
use Rattle.sym_model.proofs.Integers.{times_chosen}

-- ---- if no two entries of b leave the same remainder modulo n, the list `lowest n b` consists of the remainders

lowest-distinct : (n : ℕ) (b : List ℕ) → has_equal_entries (remainders n b) ≡ false → lowest n b ≡ remainders n b
lowest-distinct n [] d = refl
lowest-distinct n (x ∷ b) d =
    let p = or_parts (has (x % n) (remainders n b)) (has_equal_entries (remainders n b)) d in
    ap₂ ◌∷◌ (none (alike n x b) refl p.0) (lowest-distinct n b p.1)
  where
    none : (m : ℕ) → alike n x b ≡ m → has (x % n) (remainders n b) ≡ false → x % n + alike n x b * n ≡ x % n
    none zero e h = ap (λ m. x % n + m * n) e ∙ omega arith
    none (suc m) e h = let a = has_alike n x b (omega arith) in absurd (cc)

below_kept : (n : ℕ) → KeptByExchanges (AreBelow n)
below_kept n [] a b r h = (h.1.0, (h.0, h.1.1))
below_kept n (c ∷ l) a b r h = (h.0, below_kept n l a b r h.1)

remainders_below : (n : ℕ) (b : List ℕ) → 1 ≤ n → AreBelow n (remainders n b)
remainders_below n [] h = tt
remainders_below n (x ∷ b) h = (mod-lt x h, remainders_below n b h)

narrow_columns : (k n : ℕ) (l : List ℕ) → 1 ≤ n → length l ≡ k → FallsStrictly l → AreBelow n l → k + columns (from_beta l) ≤ n
narrow_columns k n [] h e f u = omega arith
narrow_columns k n (a ∷ l) h e f u = search (rules, rest_within, part-from_beta)

-- the reduction of `parts` is the partition whose beta list consists of the remainders modulo n of the beta list of `parts`, sorted; power·n is the
-- number of cells that are removed
record IsDistinctEnd (k n : ℕ) (parts : List ℕ) : Type 0 where
  power : ℕ
  sum : size (beta k parts) ≡ size (remainders n (beta k parts)) + power * n
  is : reduction_by_remainders k n parts ≡ Some (from_beta (sorted_falling (remainders n (beta k parts))), minus_one_to (power * (k + 1)) *ℤ sorting_sign (remainders n (beta k parts)), power)

distinct_end : (k n : ℕ) (parts : List ℕ) → 1 ≤ n → IsShape k parts → has_equal_entries (remainders n (beta k parts)) ≡ false → IsDistinctEnd k n parts
distinct_end k n parts h p d =
    let b = beta k parts in
    let r = remainders n b in
    let low : lowest n b ≡ r = lowest-distinct n b d in
    let end_is : end_of k n parts ≡ from_beta (sorted_falling r) = ap (λ l. from_beta (sorted_falling l)) low in
    let strict = sorted_strict r d in
    let long : length (sorted_falling r) ≡ k = length-sorted r ∙ (length-map b (λ x. x % n) ∙ length-beta k parts) in
    let below = sort_reach (AreBelow n) r (below_kept n) (remainders_below n b h) in
    let few : k + columns (end_of k n parts) ≤ n = subst (λ e. k + columns e ≤ n) (sym end_is) (narrow_columns k n (sorted_falling r) h long strict below) in
    let cells = goes_cells k n parts (end_of k n parts) (end_sign k n parts) (power_of k n parts) (goes_to_end k n parts h p.partition p.few) in
    let own = size-beta k parts p.partition p.few in
    let end_size = size-from_beta (sorted_falling r) strict in
    let rho : size (staircase (length (sorted_falling r))) ≡ size (staircase k) = ap (λ m. size (staircase m)) long in
    let ends : size (end_of k n parts) ≡ size (from_beta (sorted_falling r)) = ap size end_is in
    let sorted_size = size-sorted r in
    let sign : end_sign k n parts ≡ minus_one_to (power_of k n parts * (k + 1)) *ℤ sorting_sign r =
    ap (λ l. minus_one_to (power_of k n parts * (k + 1) + rising_pairs l)) low ∙ minus_one_to_add (power_of k n parts * (k + 1)) (rising_pairs r) in
    record {
      power = power_of k n parts;
      sum = omega arith;
      is =
          narrow k n parts few
          ∙ ap₂ (λ e s. Some (e, s, power_of k n parts)) end_is sign;
    }

-- ---- lists in which two entries leave the same remainder modulo n: the reduction is 0

-- some entry of the list is at least m
abbrev HasAtLeast : ℕ → List ℕ → Type 0
HasAtLeast m [] = ⊥
HasAtLeast m (x ∷ b) = (m ≤ x) ⊎ HasAtLeast m b

high_lowest : (n : ℕ) (b : List ℕ) → 1 ≤ n → has_equal_entries (remainders n b) ≡ true → HasAtLeast n (lowest n b)
high_lowest n [] h e = absurd (cc)
high_lowest n (x ∷ b) h e = by (or_cases (has (x % n) (remainders n b)) (has_equal_entries (remainders n b)) e) (λ t. high_lowest n b h t)
  where
    first : (m : ℕ) → alike n x b ≡ m → has (x % n) (remainders n b) ≡ true → n ≤ x % n + alike n x b * n
    first zero a t = let l = lacks_alike n x b a in absurd (cc)
    first (suc m) a t = subst (λ v. n ≤ x % n + v * n) (sym a) (omega arith)

    by : (has (x % n) (remainders n b) ≡ true) ⊎ (has_equal_entries (remainders n b) ≡ true) → (has_equal_entries (remainders n b) ≡ true → HasAtLeast n (lowest n b)) → HasAtLeast n (lowest n (x ∷ b))
    by (inl t) later = inl (first (alike n x b) refl t)
    by (inr t) later = inr (later t)

high_kept : (m : ℕ) → KeptByExchanges (HasAtLeast m)
high_kept m [] a b r (inl x) = inr (inl x)
high_kept m [] a b r (inr (inl x)) = inl x
high_kept m [] a b r (inr (inr x)) = inr (inr x)
high_kept m (c ∷ l) a b r (inl x) = inl x
high_kept m (c ∷ l) a b r (inr x) = inr (high_kept m l a b r x)

high_first : (m a : ℕ) (l : List ℕ) → Falls (a ∷ l) → HasAtLeast m (a ∷ l) → m ≤ a
high_first m a l f (inl x) = x
high_first m a [] f (inr x) = absurd x
high_first m a (c ∷ l) f (inr x) = let r = high_first m c l f.1 x in let g : c ≤ a = f.0 in omega arith

wide_end : (k n : ℕ) (l : List ℕ) → length l ≡ k → Falls l → HasAtLeast n l → n < k + columns (from_beta l)
wide_end k n [] e f x = absurd x
wide_end k n (a ∷ l) e f x = search (rules, high_first, part-from_beta)

pub length-lowest : (n : ℕ) (b : List ℕ) → length (lowest n b) ≡ length b
length-lowest n [] = refl
length-lowest n (x ∷ b) = ap suc (length-lowest n b)

repeated_end : (k n : ℕ) (parts : List ℕ) → 1 ≤ n → IsShape k parts → has_equal_entries (remainders n (beta k parts)) ≡ true → reduction_by_remainders k n parts ≡ None
repeated_end k n parts h p e =
    let b = beta k parts in
    wide k n parts (wide_end k n (sorted_falling (lowest n b)) (length-sorted (lowest n b) ∙ (length-lowest n b ∙ length-beta k parts))
    (sorted_falls (lowest n b)) (sort_reach (HasAtLeast n) (lowest n b) (high_kept n) (high_lowest n b h e)))

-- ---- the coefficient at a label and a power of q if an alternant a_b is reduced (`ends_value`)

-- (-1)^(power·(k + 1)) times the sign of sorting u, if u has no equal entries and, when sorted, is the beta list of the label, and if s is the sum of
-- u plus power·n; otherwise 0
abbrev sorted_value : ℕ → ℕ → ℕ → List ℕ → List ℕ → ℕ → ℤ
sorted_value k n power label u s =
    value (has_equal_entries u) (s == size u + power * n) (same (from_beta (sorted_falling u)) label) (minus_one_to (power * (k + 1)) *ℤ sorting_sign u)

abbrev ends_value : ℕ → ℕ → ℕ → List ℕ → List ℕ → ℤ
ends_value k n power label b = sorted_value k n power label (remainders n b) (size b)

sorted_value-exchange : (k n power : ℕ) (label left : List ℕ) (x y : ℕ) (right : List ℕ) (s : ℕ)
    → sorted_value k n power label (left ++ (x ∷ y ∷ right)) s ≡ neg_ℤ (sorted_value k n power label (left ++ (y ∷ x ∷ right)) s)
sorted_value-exchange k n power label left x y right s =
    search (rules, cases_eq, neg_ℤ, value, equal_inside, equal-exchange, size-exchange, sorted-exchange, sorting_sign-exchange, product-negation, value-negated)

ends_value-exchange : (k n power : ℕ) (label left : List ℕ) (x y : ℕ) (right : List ℕ) → ends_value k n power label (left ++ (x ∷ y ∷ right)) ≡ neg_ℤ (ends_value k n power label (left ++ (y ∷ x ∷ right)))
ends_value-exchange k n power label left x y right = search (rules, map-append, sorted_value-exchange, neg_ℤ, size-exchange)

ends_value-equal : (k n power : ℕ) (label b : List ℕ) → has_equal_entries (remainders n b) ≡ true → ends_value k n power label b ≡ pos 0
ends_value-equal k n power label b e =
    ap (λ v. value v (size b == size (remainders n b) + power * n) (same (from_beta (sorted_falling (remainders n b))) label) (minus_one_to (power * (k + 1)) *ℤ sorting_sign (remainders n b))) e

powers_differ : (n p q : ℕ) → 1 ≤ n → p * n ≡ q * n → p ≡ q
powers_differ n p q h e = search rules

ends_value-shape : (k n power : ℕ) (label parts : List ℕ) → 1 ≤ n → IsShape k parts → ends_value k n power label (beta k parts) ≡ reduced_share k n (power, label) parts
ends_value-shape k n power label parts h p = by (has_equal_entries (remainders n (beta k parts))) refl
  where
    b : List ℕ
    b = beta k parts

    r : List ℕ
    r = remainders n (beta k parts)

    by : (t : Bool) → has_equal_entries (remainders n (beta k parts)) ≡ t → ends_value k n power label (beta k parts) ≡ reduced_share k n (power, label) parts
    by true e = ends_value-equal k n power label b e ∙ sym (ap (reduced_value (power, label)) (repeated_end k n parts h p e))
    by false e =
        let d = distinct_end k n parts h p e in
        ap (λ v. value v (size b == size r + power * n) (same (from_beta (sorted_falling r)) label) (minus_one_to (power * (k + 1)) *ℤ sorting_sign r)) e
        ∙ alike_powers d.power d.sum (cases_eq d.power power)
        ∙ sym (ap (reduced_value (power, label)) d.is)
      where
        alike_powers : (q : ℕ) → size (beta k parts) ≡ size (remainders n (beta k parts)) + q * n → (q ≡ power) ⊎ (q ≡ power → ⊥)
            → value false (size (beta k parts) == size (remainders n (beta k parts)) + power * n) (same (from_beta (sorted_falling (remainders n (beta k parts)))) label) (minus_one_to (power * (k + 1)) *ℤ sorting_sign (remainders n (beta k parts)))
            ≡ cond ((q == power) && same (from_beta (sorted_falling (remainders n (beta k parts)))) label) (minus_one_to (q * (k + 1)) *ℤ sorting_sign (remainders n (beta k parts))) (pos 0)
        alike_powers q s (inl i) =
            ap (λ v. value false v (same (from_beta (sorted_falling r)) label) (minus_one_to (power * (k + 1)) *ℤ sorting_sign r)) (eq-eqb (size b) (size r + power * n) (s ∙ ap (λ m. size r + m * n) i))
            ∙ sym (ap₂ (λ v m. cond (v && same (from_beta (sorted_falling r)) label) (minus_one_to (m * (k + 1)) *ℤ sorting_sign r) (pos 0)) (eq-eqb q power i) i)
        alike_powers q s (inr m) =
            ap (λ v. value false v (same (from_beta (sorted_falling r)) label) (minus_one_to (power * (k + 1)) *ℤ sorting_sign r))
            (ne_eqb (size b) (size r + power * n) (λ e'. m (powers_differ n q power h (omega arith))))
            ∙ sym (ap (λ v. cond (v && same (from_beta (sorted_falling r)) label) (minus_one_to (q * (k + 1)) *ℤ sorting_sign r) (pos 0)) (ne_eqb q power m))

ends_unique : (k n power : ℕ) (label b : List ℕ) → 1 ≤ n → length b ≡ k → pair (alternant b) (on_strict (reduced_share k n (power, label))) ≡ ends_value k n power label b
ends_unique k n power label b h = sort_back P b kept sorted
  where
    P : List ℕ → Type 0
    P s = length s ≡ k → pair (alternant s) (on_strict (reduced_share k n (power, label))) ≡ ends_value k n power label s

    kept : KeptByExchanges P
    kept left x y right p l =
        pair_determined (alternant (left ++ (y ∷ x ∷ right))) (negate (alternant (left ++ (x ∷ y ∷ right)))) (on_strict (reduced_share k n (power, label))) (alternant_exchange left [] right y x)
        ∙ pair_negate (alternant (left ++ (x ∷ y ∷ right))) (on_strict (reduced_share k n (power, label)))
        ∙ ap neg_ℤ (p (length-exchange left x y right ∙ l))
        ∙ sym (ends_value-exchange k n power label left y x right)

    at_strict_list : (s : List ℕ) → length s ≡ k → FallsStrictly s → pair (alternant s) (on_strict (reduced_share k n (power, label))) ≡ ends_value k n power label s
    at_strict_list s l f =
        pair-value s (reduced_share k n (power, label)) f
        ∙ sym (ends_value-shape k n power label (from_beta s) h (shape_of_strict k s l f))
        ∙ ap (ends_value k n power label) (ap (λ m. beta m (from_beta s)) (sym l) ∙ beta-from_beta s f)

    sorted : P (sorted_falling b)
    sorted l = by (has_equal_entries (sorted_falling b)) refl
      where
        by : (v : Bool) → has_equal_entries (sorted_falling b) ≡ v → pair (alternant (sorted_falling b)) (on_strict (reduced_share k n (power, label))) ≡ ends_value k n power label (sorted_falling b)
        by true e =
            alternant-equal (sorted_falling b) (on_strict (reduced_share k n (power, label))) e
            ∙ sym (ends_value-equal k n power label (sorted_falling b) (equal_map (λ z. z % n) (sorted_falling b) e))
        by false e = at_strict_list (sorted_falling b) l (sorted_strict b (sym (equal-sorted b) ∙ e))

-- the coefficient at `label` and q^power of the list that results if the terms of a_b·s_next are reduced by rim hooks of n cells
abbrev multiplied_value : ℕ → ℕ → List ℕ → ℕ → List ℕ → List ℕ → ℤ
multiplied_value k n next power label b = pair (alternant b) (added k next (on_strict (reduced_share k n (power, label))))

multiplied_ends : (k n : ℕ) (next : List ℕ) (power : ℕ) (label b : List ℕ) → 1 ≤ n → IsPartition next → length b ≡ k
    → multiplied_value k n next power label b ≡ pair (schur next k) (λ α. ends_value k n power label (join b α))
multiplied_ends k n next power label b h q l =
    let s = sums-schur k next q in
    sym (pair_times (alternant b) (schur next k) (on_strict (reduced_share k n (power, label))))
    ∙ s.sums b (on_strict (reduced_share k n (power, label))) l
    ∙ pair_in k (schur next k) (λ α. pair (alternant (join b α)) (on_strict (reduced_share k n (power, label)))) (λ α. ends_value k n power label (join b α)) s.within
    (λ α m. ends_unique k n power label (join b α) h (length-join_same k b α l m))

multiplied-periodic : (k n : ℕ) (next : List ℕ) (power : ℕ) (label b c : List ℕ) → 1 ≤ n → IsPartition next → length b ≡ k → length c ≡ k → remainders n b ≡ remainders n c → size b ≡ size c
    → multiplied_value k n next power label b ≡ multiplied_value k n next power label c
multiplied-periodic k n next power label b c h q l m e s =
    multiplied_ends k n next power label b h q l
    ∙ pair_ext (schur next k) (λ α. ends_value k n power label (join b α)) (λ α. ends_value k n power label (join c α))
    (λ α. ap₂ (sorted_value k n power label) (remainders-join n b c α e) (let x = size-join b α in let y = size-join c α in omega arith))
    ∙ sym (multiplied_ends k n next power label c h q m)

multiplied-repeated : (k n : ℕ) (next : List ℕ) (power : ℕ) (label b : List ℕ) → 1 ≤ n → IsPartition next → length b ≡ k → has_equal_entries (remainders n b) ≡ true → multiplied_value k n next power label b ≡ pos 0
multiplied-repeated k n next power label b h q l e =
    let r = repeated n b e in
    let first = r.left ++ (r.x ∷ (r.middle ++ (r.y ∷ r.right))) in
    let second = r.left ++ (r.y ∷ (r.middle ++ (r.x ∷ r.right))) in
    let long : length first ≡ k = sym (ap length r.is) ∙ l in
    let same_value : multiplied_value k n next power label first ≡ multiplied_value k n next power label second =
    multiplied-periodic k n next power label first second h q long (sym (exchanged_length r.left r.middle r.right r.x r.y) ∙ long)
    (exchanged_remainders n r.left r.middle r.right r.x r.y r.alike) (exchanged_size r.left r.middle r.right r.x r.y) in
    let turned : multiplied_value k n next power label first ≡ neg_ℤ (multiplied_value k n next power label second) =
    pair_determined (alternant first) (negate (alternant second)) (added k next (on_strict (reduced_share k n (power, label)))) (alternant_exchange r.left r.middle r.right r.x r.y)
    ∙ pair_negate (alternant second) (added k next (on_strict (reduced_share k n (power, label)))) in
    ap (multiplied_value k n next power label) r.is
    ∙ opposite_is_zero (multiplied_value k n next power label first) (turned ∙ ap neg_ℤ (sym same_value))

-- ---- replacing the entries of b by their remainders modulo n changes the sign and the power of q in `multiplied_value`

scaled_value : (c : ℤ) (equal sum there : Bool) (x : ℤ) → value equal sum there (c *ℤ x) ≡ c *ℤ value equal sum there x
scaled_value c true sum there x = sym (*ℤ-zero c)
scaled_value c false true true x = refl
scaled_value c false true false x = sym (*ℤ-zero c)
scaled_value c false false there x = sym (*ℤ-zero c)

remainders_again : (n : ℕ) (b : List ℕ) → remainders n (remainders n b) ≡ remainders n b
remainders_again n [] = refl
remainders_again n (x ∷ b) = ap₂ ◌∷◌ (mod-mod x n) (remainders_again n b)

remainders_low : (n : ℕ) (b : List ℕ) → size (remainders n b) ≤ size b
remainders_low n [] = omega arith
remainders_low n (x ∷ b) = let e = mod-le x n in let r = remainders_low n b in omega arith

shifted_test : (a b c d m : ℕ) → a ≡ b + m → c ≡ d + m → (a == c) ≡ (b == d)
shifted_test a b c d m e f = grind (arith, nat_tests)

joined_remainders : (n : ℕ) (b α : List ℕ) → remainders n (join b α) ≡ remainders n (join (remainders n b) α)
joined_remainders n b α = remainders-join n b (remainders n b) α (sym (remainders_again n b))

lowered_value : (k n q power : ℕ) (label b α : List ℕ) → size b ≡ size (remainders n b) + q * n
    → ends_value k n (q + power) label (join b α) ≡ minus_one_to (q * (k + 1)) *ℤ ends_value k n power label (join (remainders n b) α)
lowered_value k n q power label b α s =
    ap (λ u. sorted_value k n (q + power) label u (size (join b α))) (joined_remainders n b α)
    ∙ ap (λ v. value (has_equal_entries R) v (same (from_beta (sorted_falling R)) label) (minus_one_to ((q + power) * (k + 1)) *ℤ sorting_sign R))
    (shifted_test (size (join b α)) (size (join (remainders n b) α)) (size R + (q + power) * n) (size R + power * n) (q * n) (let x = size-join b α in let y = size-join (remainders n b) α in omega arith) (omega arith))
    ∙ ap (λ z. value (has_equal_entries R) (size (join (remainders n b) α) == size R + power * n) (same (from_beta (sorted_falling R)) label) z)
    (ap (λ z. z *ℤ sorting_sign R) (ap minus_one_to (let e : (q + power) * (k + 1) ≡ q * (k + 1) + power * (k + 1) = omega arith in e) ∙ minus_one_to_add (q * (k + 1)) (power * (k + 1)))
    ∙ product_assoc (minus_one_to (q * (k + 1))) (minus_one_to (power * (k + 1))) (sorting_sign R))
    ∙ scaled_value (minus_one_to (q * (k + 1))) (has_equal_entries R) (size (join (remainders n b) α) == size R + power * n) (same (from_beta (sorted_falling R)) label) (minus_one_to (power * (k + 1)) *ℤ sorting_sign R)
  where
    R : List ℕ
    R = remainders n (join (remainders n b) α)

no_value : (equal there : Bool) (x : ℤ) → value equal false there x ≡ pos 0
no_value true there x = refl
no_value false there x = refl

past_value : (k n q power : ℕ) (label b α : List ℕ) → 1 ≤ n → power < q → size b ≡ size (remainders n b) + q * n → ends_value k n power label (join b α) ≡ pos 0
past_value k n q power label b α h l s = search (rules, value, ne_eqb, remainders_low, joined_remainders, size-join, mul-le-mul_left, no_value)

multiplied-lowered : (k n : ℕ) (next : List ℕ) (q power : ℕ) (label b : List ℕ) → 1 ≤ n → IsPartition next → length b ≡ k → has_equal_entries (remainders n b) ≡ false → size b ≡ size (remainders n b) + q * n
    → multiplied_value k n next (q + power) label b ≡ (minus_one_to (q * (k + 1)) *ℤ sorting_sign (remainders n b)) *ℤ multiplied_value k n next power label (sorted_falling (remainders n b))
multiplied-lowered k n next q power label b h p l d s =
    multiplied_ends k n next (q + power) label b h p l
    ∙ pair_ext (schur next k) (λ α. ends_value k n (q + power) label (join b α)) (λ α. minus_one_to (q * (k + 1)) *ℤ ends_value k n power label (join (remainders n b) α)) (λ α. lowered_value k n q power label b α s)
    ∙ pair_factor (minus_one_to (q * (k + 1))) (schur next k) (λ α. ends_value k n power label (join (remainders n b) α))
    ∙ ap (λ z. minus_one_to (q * (k + 1)) *ℤ z)
    (sym (multiplied_ends k n next power label (remainders n b) h p (length-map b (λ x. x % n) ∙ l))
    ∙ alternant-sorted (remainders n b) (added k next (on_strict (reduced_share k n (power, label)))) d)
    ∙ sym (product_assoc (minus_one_to (q * (k + 1))) (sorting_sign (remainders n b)) (multiplied_value k n next power label (sorted_falling (remainders n b))))

multiplied-past : (k n : ℕ) (next : List ℕ) (q power : ℕ) (label b : List ℕ) → 1 ≤ n → IsPartition next → length b ≡ k → power < q → size b ≡ size (remainders n b) + q * n
    → multiplied_value k n next power label b ≡ pos 0
multiplied-past k n next q power label b h p l less s =
    multiplied_ends k n next power label b h p l
    ∙ pair_ext (schur next k) (λ α. ends_value k n power label (join b α)) (λ α. pos 0) (λ α. past_value k n q power label b α h less s)
    ∙ pair_zero (schur next k)

-- ---- reducing a label before it is multiplied by `next` does not change the reduced product

-- f(power - q) if q is at most `power`, and 0 otherwise
abbrev within : ℕ → ℕ → (ℕ → ℤ) → ℤ
within power q f = cond (nat_le q power) (f (power - q)) (pos 0)

-- `at_power power f r`: if the reduction r is a partition ν with a sign and with a power q ≤ `power`, the sign times f(power - q, ν); otherwise 0
abbrev at_power : ℕ → (ℕ → List ℕ → ℤ) → Reduction → ℤ
at_power power f None = pos 0
at_power power f (Some a) = a.1 *ℤ within power a.2 (λ p. f p a.0)

-- the coefficient at `label` and q^power of the classical product of `parts` and `next`, reduced by rim hooks of n cells
abbrev two_reduced : ℕ → ℕ → List ℕ → List ℕ → ℕ → List ℕ → ℤ
two_reduced k n next label power parts = pair (classical_product k (parts ∷ next ∷ [])) (reduced_share k n (power, label))

lowered_early : (k n : ℕ) (next : List ℕ) (power : ℕ) (label parts : List ℕ) → 1 ≤ n → IsPartition next → IsShape k parts
    → at_power power (two_reduced k n next label) (reduction_by_remainders k n parts) ≡ multiplied_value k n next power label (beta k parts)
lowered_early k n next power label parts h q p = by (has_equal_entries (remainders n (beta k parts))) refl
  where
    b : List ℕ
    b = beta k parts

    r : List ℕ
    r = remainders n (beta k parts)

    long : length (sorted_falling (remainders n (beta k parts))) ≡ k
    long = length-sorted (remainders n (beta k parts)) ∙ (length-map (beta k parts) (λ x. x % n) ∙ length-beta k parts)

    by : (t : Bool) → has_equal_entries (remainders n (beta k parts)) ≡ t → at_power power (two_reduced k n next label) (reduction_by_remainders k n parts) ≡ multiplied_value k n next power label (beta k parts)
    by true e = ap (at_power power (two_reduced k n next label)) (repeated_end k n parts h p e) ∙ sym (multiplied-repeated k n next power label b h q (length-beta k parts) e)
    by false e = let d = distinct_end k n parts h p e in ap (at_power power (two_reduced k n next label)) d.is ∙ left d.power d.sum (nat_le d.power power) refl
      where
        strict : FallsStrictly (sorted_falling (remainders n (beta k parts)))
        strict = sorted_strict (remainders n (beta k parts)) e

        left : (m : ℕ) → size (beta k parts) ≡ size (remainders n (beta k parts)) + m * n → (t : Bool) → nat_le m power ≡ t
            → (minus_one_to (m * (k + 1)) *ℤ sorting_sign (remainders n (beta k parts))) *ℤ cond t (two_reduced k n next label (power - m) (from_beta (sorted_falling (remainders n (beta k parts))))) (pos 0)
            ≡ multiplied_value k n next power label (beta k parts)
        left m s true l =
            let few : m + (power - m) ≡ power = grind (arith, nat_tests) in
            ap (λ z. (minus_one_to (m * (k + 1)) *ℤ sorting_sign r) *ℤ z)
            (two_value k (from_beta (sorted_falling r)) next (reduced_share k n (power - m, label)) (shape_of_strict k (sorted_falling r) long strict) q
            ∙ at_strict k (sorted_falling r) (added k next (on_strict (reduced_share k n (power - m, label)))) long strict)
            ∙ sym (multiplied-lowered k n next m (power - m) label b h q (length-beta k parts) e s)
            ∙ ap (λ v. multiplied_value k n next v label b) few
        left m s false l =
            let past : power < m = grind (arith, nat_tests) in
            *ℤ-zero (minus_one_to (m * (k + 1)) *ℤ sorting_sign r)
            ∙ sym (multiplied-past k n next m power label b h q (length-beta k parts) past s)

-- the terms with each label (power, partition) written as one list, which has the power in front
abbrev coded : WholeTermsOf (ℕ × List ℕ) → WholeTerms
coded terms = map (λ (t : (ℕ × List ℕ) × ℤ). (t.0.0 ∷ t.0.1, t.1)) terms

abbrev uncoded : (ℕ → List ℕ → ℤ) → List ℕ → ℤ
uncoded f [] = pos 0
uncoded f (p ∷ label) = f p label

powers_determined : (f : ℕ → List ℕ → ℤ) (xs ys : WholeTermsOf (ℕ × List ℕ))
    → ((label : ℕ × List ℕ) → coefficient_by same_power xs label ≡ coefficient_by same_power ys label)
    → total (λ (t : (ℕ × List ℕ) × ℤ). t.1 *ℤ f t.0.0 t.0.1) xs ≡ total (λ (t : (ℕ × List ℕ) × ℤ). t.1 *ℤ f t.0.0 t.0.1) ys
powers_determined f xs ys e =
    sym (total_map (λ (t : Term). t.1 *ℤ uncoded f t.0) (λ (t : (ℕ × List ℕ) × ℤ). (t.0.0 ∷ t.0.1, t.1)) xs)
    ∙ pair_determined (coded xs) (coded ys) (uncoded f) alike_coded
    ∙ total_map (λ (t : Term). t.1 *ℤ uncoded f t.0) (λ (t : (ℕ × List ℕ) × ℤ). (t.0.0 ∷ t.0.1, t.1)) ys
  where
    none : (zs : WholeTermsOf (ℕ × List ℕ)) → coefficient (coded zs) [] ≡ pos 0
    none zs = total_map (λ (t : Term). cond (same t.0 []) t.1 (pos 0)) (λ (t : (ℕ × List ℕ) × ℤ). (t.0.0 ∷ t.0.1, t.1)) zs ∙ total_zero zs

    one_label : (p : ℕ) (label : List ℕ) (zs : WholeTermsOf (ℕ × List ℕ)) → coefficient (coded zs) (p ∷ label) ≡ coefficient_by same_power zs (p, label)
    one_label p label zs = total_map (λ (t : Term). cond (same t.0 (p ∷ label)) t.1 (pos 0)) (λ (t : (ℕ × List ℕ) × ℤ). (t.0.0 ∷ t.0.1, t.1)) zs

    alike_coded : Same (coded xs) (coded ys)
    alike_coded [] = none xs ∙ sym (none ys)
    alike_coded (p ∷ label) = one_label p label xs ∙ e (p, label) ∙ sym (one_label p label ys)

coefficient-raised : (q : ℕ) (c : ℤ) (terms : WholeTermsOf (ℕ × List ℕ)) (power : ℕ) (label : List ℕ)
    → coefficient_by same_power (with_power q c terms) (power, label) ≡ c *ℤ within power q (λ p. coefficient_by same_power terms (p, label))
coefficient-raised q c terms power label =
    total_map (λ (t : (ℕ × List ℕ) × ℤ). cond (same_power t.0 (power, label)) t.1 (pos 0)) (λ (t : (ℕ × List ℕ) × ℤ). ((q + t.0.0, t.0.1), c *ℤ t.1)) terms
    ∙ by (nat_le q power) refl
  where
    by : (v : Bool) → nat_le q power ≡ v
        → total (λ (t : (ℕ × List ℕ) × ℤ). cond ((q + t.0.0 == power) && same t.0.1 label) (c *ℤ t.1) (pos 0)) terms ≡ c *ℤ cond v (coefficient_by same_power terms (power - q, label)) (pos 0)
    by true l =
        total_ext (λ (t : (ℕ × List ℕ) × ℤ). cond ((q + t.0.0 == power) && same t.0.1 label) (c *ℤ t.1) (pos 0)) (λ (t : (ℕ × List ℕ) × ℤ). c *ℤ cond ((t.0.0 == power - q) && same t.0.1 label) t.1 (pos 0))
        (λ t. ap (λ v. cond (v && same t.0.1 label) (c *ℤ t.1) (pos 0)) (moved t.0.0 l) ∙ times_chosen ((t.0.0 == power - q) && same t.0.1 label) c t.1) terms
        ∙ total_scale c (λ (t : (ℕ × List ℕ) × ℤ). cond ((t.0.0 == power - q) && same t.0.1 label) t.1 (pos 0)) terms
      where
        moved : (p : ℕ) → nat_le q power ≡ true → (q + p == power) ≡ (p == power - q)
        moved p l' = grind (arith, nat_tests)
    by false l =
        total_ext (λ (t : (ℕ × List ℕ) × ℤ). cond ((q + t.0.0 == power) && same t.0.1 label) (c *ℤ t.1) (pos 0)) (λ (t : (ℕ × List ℕ) × ℤ). pos 0)
        (λ t. ap (λ v. cond (v && same t.0.1 label) (c *ℤ t.1) (pos 0)) (apart t.0.0 l)) terms
        ∙ total_zero terms
        ∙ sym (*ℤ-zero c)
      where
        apart : (p : ℕ) → nat_le q power ≡ false → (q + p == power) ≡ false
        apart p l' = grind (arith, nat_tests)

reduced_pairing : (k n power : ℕ) (f : ℕ → List ℕ → ℤ) (terms : WholeTerms)
    → total (λ (t : (ℕ × List ℕ) × ℤ). t.1 *ℤ within power t.0.0 (λ p. f p t.0.1)) (reduced_terms terms (reductions_of k n terms))
    ≡ pair terms (λ parts. at_power power f (reduction_by_remainders k n parts))
reduced_pairing k n power f [] = refl
reduced_pairing k n power f (t ∷ terms) = by (reduction_by_remainders k n t.0) (reduced_pairing k n power f terms)
  where
    rest : ℤ
    rest = pair terms (λ parts. at_power power f (reduction_by_remainders k n parts))

    by : (r : Reduction) → total (λ (u : (ℕ × List ℕ) × ℤ). u.1 *ℤ within power u.0.0 (λ p. f p u.0.1)) (reduced_terms terms (reductions_of k n terms)) ≡ pair terms (λ parts. at_power power f (reduction_by_remainders k n parts))
        → total (λ (u : (ℕ × List ℕ) × ℤ). u.1 *ℤ within power u.0.0 (λ p. f p u.0.1)) (reduced_terms (t ∷ terms) (r ∷ reductions_of k n terms))
        ≡ t.1 *ℤ at_power power f r +ℤ pair terms (λ parts. at_power power f (reduction_by_remainders k n parts))
    by None e = e ∙ sym (ap (λ z. z +ℤ rest) (*ℤ-zero t.1) ∙ +ℤ_idl rest)
    by (Some a) e = ap₂ ◌+ℤ◌ (product_assoc t.1 a.1 (within power a.2 (λ p. f p a.0))) e

pub quantum_step : (k n : ℕ) (front : List (List ℕ)) (next : List ℕ) (terms : WholeTermsOf (ℕ × List ℕ)) → 1 ≤ n → ArePartitions front → IsPartition next
    → ((label : ℕ × List ℕ) → coefficient_by same_power terms label ≡ coefficient_by same_power (reduced_product k n front) label)
    → (label : ℕ × List ℕ) → coefficient_by same_power (quantized k n next terms) label ≡ coefficient_by same_power (reduced_product k n (front ++ (next ∷ []))) label
quantum_step k n front next terms h p q is (power, label) =
    total_each (λ (t : (ℕ × List ℕ) × ℤ). cond (same_power t.0 (power, label)) t.1 (pos 0)) (λ (t : (ℕ × List ℕ) × ℤ). with_power t.0.0 t.1 (reduced_product k n (t.0.1 ∷ next ∷ []))) terms
    ∙ total_ext (λ (t : (ℕ × List ℕ) × ℤ). coefficient_by same_power (with_power t.0.0 t.1 (reduced_product k n (t.0.1 ∷ next ∷ []))) (power, label)) (λ (t : (ℕ × List ℕ) × ℤ). t.1 *ℤ within power t.0.0 (λ m. two_reduced k n next label m t.0.1))
    (λ t. coefficient-raised t.0.0 t.1 (reduced_product k n (t.0.1 ∷ next ∷ [])) power label
    ∙ ap (λ z. t.1 *ℤ cond (nat_le t.0.0 power) z (pos 0)) (reduced_sum k n (classical_product k (t.0.1 ∷ next ∷ [])) (power - t.0.0, label))) terms
    ∙ powers_determined (λ m parts. within power m (λ left. two_reduced k n next label left parts)) terms (reduced_product k n front) is
    ∙ reduced_pairing k n power (two_reduced k n next label) (classical_product k front)
    ∙ pair_shapes k front (λ parts. at_power power (two_reduced k n next label) (reduction_by_remainders k n parts)) (at_sum k (added k next (on_strict (reduced_share k n (power, label)))))
    (λ parts s. lowered_early k n next power label parts h q s
    ∙ sym (ap (λ b. pair (alternant b) (added k next (on_strict (reduced_share k n (power, label))))) (join-beta k parts s)))
    ∙ sym (step_value k front next (reduced_share k n (power, label)) p q)
    ∙ sym (reduced_sum k n (classical_product k (front ++ (next ∷ []))) (power, label))
