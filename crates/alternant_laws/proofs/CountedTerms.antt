-- The Schur coefficients of s_start·s_(outer/inner) count the good tableaux: the tableaux T of outer/inner such that start plus the content of the
-- last j columns of T is a partition for each j. So a sum of Schur polynomials with these counts as coefficients is equal to s_start·s_(outer/inner)
-- in every number of variables; the empty `start` gives the skew Schur polynomial.
use Rattle.std.proofs.Common.{ℤ, ◌≡◌, ℕ, ◌+◌, ◌<◌, ◌≤◌, ◌⊎◌, Bool, true, false, cond, List, [], ◌∷◌, map, length, nat_le, sym, ◌∙◌, ap, subst, inl, inr, arith, pos, ◌*ℤ◌, Option, Some, None, filter, flat_map}
use Rattle.std.proofs.lemmas.Int.{ints}
use Rattle.std.proofs.lemmas.Bool.{cases_lt, cases_Bool, both_ways, lt-leb}
use Rattle.sym_model.specs.Sum.{total, Among}
use Rattle.sym_model.specs.Partition.{Falls, IsPartition, rows, without_last_zeros}
use Rattle.sym_model.specs.Polynomial.{Poly, Term, Same, same, coefficient, nothing, join, resize, times, pair, fits_in, restrict}
use Rattle.sym_model.specs.Schur.{contains, tableaux, content, letters_of, skew_schur, schur}
use Rattle.sym_model.specs.GoodTableau.{is_good, good_tableaux, good_readings, product_count, skew_count}
use Rattle.sym_model.specs.Alternant.{alternant, staircase, schur_coefficient}
use Rattle.sym_model.specs.LabelLimits.{is_partition}
use Rattle.sym_model.specs.Expansion.{Terms, Fraction}
use Rattle.sym_model.specs.WholeTerms.{WholeTerms, numerators, combined}
use Rattle.sym_model.specs.PastLimit.{variables_or}
use Rattle.sym_model.proofs.Ring.{one-product}
use Rattle.sym_model.proofs.Sums.{total_ext, total_among, total_none, total_map, length-select}
use Rattle.sym_model.proofs.Exponents.{same_apart, length-resize, length-join}
use Rattle.sym_model.proofs.Polynomials.{pair_times_each, at_only, coefficient_pair, pair_each, pair_times, pair_zero, pair_restrict, pair_determined, same_from_pair, times_respects, Same_refl, Same_sym, Same_trans, restrict_respects}
use Rattle.sym_model.proofs.PolynomialLaws.{restrict-times}
use Rattle.sym_model.proofs.SortedParts.{IsPartition-none, IsPartition-without_last_zeros}
use Rattle.sym_model.proofs.Orders.{is_partition-tells, is_partition-from}
use Rattle.sym_model.proofs.WholeTerms.{pair_of_combined, combined_respects, represents-whole}
use Rattle.sym_model.proofs.Parts.{length-without_last_zeros}
use Rattle.sym_model.specs.Products.{ExpandsInSchurs, IsProductCoefficientOf, schur_product}
use Rattle.tableau_laws.proofs.GoodReadings.{good_falls, total_good_contents}
use Rattle.tableau_laws.proofs.FewerLetters.{restrict-skew_schur}
use Rattle.tableau_laws.proofs.ColumnCounts.{contains_nothing, falling-resize}
use Rattle.alternant_laws.proofs.Exchanges.{length_content}
use Rattle.alternant_laws.specs.GoodSums.{start_plus_content, good_schurs, ListsCounts}
use Rattle.alternant_laws.proofs.FallingAlternants.{join_padded, without_last_zeros-resize, falls_from_test, coefficient_at_partition}
use Rattle.alternant_laws.proofs.GoodAlternants.{good_sums}
use Rattle.alternant_laws.proofs.BoundedLetters.{too_many_rows}
use Rattle.alternant_laws.proofs.SchurProducts.{bialternant, schur_few_variables, product-good_schurs, skew-good_schurs}

coefficient_times_nothing : (f : Poly) (α : List ℕ) → coefficient (times f nothing) α ≡ pos 0
coefficient_times_nothing f α = coefficient_pair (times f nothing) α ∙ pair_times f nothing (at_only α) ∙ pair_zero f

pub schur_coefficient_of_schur : (k : ℕ) (parts ν : List ℕ) → IsPartition parts → IsPartition ν → rows ν ≤ k → schur_coefficient k ν (schur parts k) ≡ cond (same parts ν) (pos 1) (pos 0)
schur_coefficient_of_schur k parts ν p q h = by (cases_lt k (rows parts))
  where
    by : (k < rows parts) ⊎ (rows parts ≤ k) → schur_coefficient k ν (schur parts k) ≡ cond (same parts ν) (pos 1) (pos 0)
    by (inl l) =
        times_respects (alternant (staircase k)) (alternant (staircase k)) (schur parts k) nothing (Same_refl (alternant (staircase k))) (schur_few_variables k parts p l) (join ν (staircase k))
        ∙ coefficient_times_nothing (alternant (staircase k)) (join ν (staircase k))
        ∙ sym (ap (λ (b : Bool). cond b (pos 1) (pos 0)) (same_apart parts ν (λ e. let d = ap length e in absurd (omega arith))))
    by (inr l) =
        bialternant k parts p l (join ν (staircase k))
        ∙ ap (λ β. coefficient (alternant β) (join ν (staircase k))) (sym (join_padded k parts l))
        ∙ coefficient_at_partition k (resize k parts) ν (length-resize k parts) (falling-resize k parts p.falls) q h (falling-resize k ν q.falls)
        ∙ ap (λ κ. cond (same κ ν) (pos 1) (pos 0)) (without_last_zeros-resize k parts p.positive l)

-- a list of terms with the coefficient 1: for each good tableau T of outer/inner with entries up to n, the term with the label start + content(T)
abbrev pub good_terms : ℕ → List ℕ → List ℕ → List ℕ → WholeTerms
good_terms n start outer inner = map (λ (T : List (List ℕ)). (start_plus_content n start T, pos 1)) (good_tableaux n start outer inner)

good_is_partition : (n : ℕ) (start outer inner : List ℕ) (T : List (List ℕ)) → Falls outer → Among T (good_tableaux n start outer inner) → IsPartition (start_plus_content n start T)
good_is_partition n start outer inner T f m = IsPartition-without_last_zeros (join start (content n (letters_of T))) (falls_from_test (join start (content n (letters_of T))) (good_falls n start outer inner T f m))

coefficient_good_terms : (n : ℕ) (start outer inner ν : List ℕ) → coefficient (good_terms n start outer inner) ν ≡ total (λ (T : List (List ℕ)). cond (same (start_plus_content n start T) ν) (pos 1) (pos 0)) (good_tableaux n start outer inner)
coefficient_good_terms n start outer inner ν = total_map (λ (t : Term). cond (same t.0 ν) t.1 (pos 0)) (λ (T : List (List ℕ)). (start_plus_content n start T, pos 1)) (good_tableaux n start outer inner)

restrict_each : {A : Type 0} (n : ℕ) (h g : A → Poly) (xs : List A) → ((x : A) → Same (restrict n (h x)) (g x)) → Same (restrict n (flat_map h xs)) (flat_map g xs)
restrict_each {A} n h g xs e =
    same_from_pair (restrict n (flat_map h xs)) (flat_map g xs) (λ φ.
    pair_restrict n (flat_map h xs) φ
    ∙ pair_each h xs (λ α. cond (fits_in n α) (φ (resize n α)) (pos 0))
    ∙ total_ext (λ (x : A). pair (h x) (λ α. cond (fits_in n α) (φ (resize n α)) (pos 0))) (λ (x : A). pair (g x) φ) (λ x. sym (pair_restrict n (h x) φ) ∙ pair_determined (restrict n (h x)) (g x) φ (e x)) xs
    ∙ sym (pair_each g xs φ))

pub product_of_labels : (n m : ℕ) (start outer inner : List ℕ) → n ≤ m → IsPartition start → IsPartition outer → IsPartition inner
    → Same (flat_map (λ (T : List (List ℕ)). schur (start_plus_content m start T) n) (good_tableaux m start outer inner)) (times (schur start n) (skew_schur outer inner n))
product_of_labels n m start outer inner h p o i =
    Same_sym (times (schur start n) (skew_schur outer inner n)) (flat_map (λ (T : List (List ℕ)). schur (start_plus_content m start T) n) (good_tableaux m start outer inner))
    (Same_trans (times (schur start n) (skew_schur outer inner n)) (times (restrict n (schur start m)) (restrict n (skew_schur outer inner m))) (flat_map (λ (T : List (List ℕ)). schur (start_plus_content m start T) n) (good_tableaux m start outer inner))
    (times_respects (schur start n) (restrict n (schur start m)) (skew_schur outer inner n) (restrict n (skew_schur outer inner m))
    (Same_sym (restrict n (schur start m)) (schur start n) (restrict-skew_schur start [] n m h IsPartition-none))
    (Same_sym (restrict n (skew_schur outer inner m)) (skew_schur outer inner n) (restrict-skew_schur outer inner n m h i)))
    (Same_trans (times (restrict n (schur start m)) (restrict n (skew_schur outer inner m))) (restrict n (times (schur start m) (skew_schur outer inner m))) (flat_map (λ (T : List (List ℕ)). schur (start_plus_content m start T) n) (good_tableaux m start outer inner))
    (Same_sym (restrict n (times (schur start m) (skew_schur outer inner m))) (times (restrict n (schur start m)) (restrict n (skew_schur outer inner m))) (restrict-times n (schur start m) (skew_schur outer inner m)))
    (Same_trans (restrict n (times (schur start m) (skew_schur outer inner m))) (restrict n (good_schurs m start outer inner)) (flat_map (λ (T : List (List ℕ)). schur (start_plus_content m start T) n) (good_tableaux m start outer inner))
    (restrict_respects n (times (schur start m) (skew_schur outer inner m)) (good_schurs m start outer inner) (product-good_schurs m start outer inner p o i))
    (restrict_each n (λ (T : List (List ℕ)). schur (start_plus_content m start T) m) (λ (T : List (List ℕ)). schur (start_plus_content m start T) n) (good_tableaux m start outer inner)
    (λ T. restrict-skew_schur (start_plus_content m start T) [] n m h IsPartition-none)))))

pub combined_good_terms : (n m : ℕ) (start outer inner : List ℕ) → n ≤ m → IsPartition start → IsPartition outer → IsPartition inner
    → Same (combined (λ label. schur label n) (good_terms m start outer inner)) (times (schur start n) (skew_schur outer inner n))
combined_good_terms n m start outer inner h p o i =
    Same_trans (combined (λ label. schur label n) (good_terms m start outer inner)) (flat_map (λ (T : List (List ℕ)). schur (start_plus_content m start T) n) (good_tableaux m start outer inner)) (times (schur start n) (skew_schur outer inner n))
    (same_from_pair (combined (λ label. schur label n) (good_terms m start outer inner)) (flat_map (λ (T : List (List ℕ)). schur (start_plus_content m start T) n) (good_tableaux m start outer inner)) (λ φ.
    pair_of_combined (λ label. schur label n) (good_terms m start outer inner) φ
    ∙ total_map (λ (t : Term). t.1 *ℤ pair (schur t.0 n) φ) (λ (T : List (List ℕ)). (start_plus_content m start T, pos 1)) (good_tableaux m start outer inner)
    ∙ total_ext (λ (T : List (List ℕ)). pos 1 *ℤ pair (schur (start_plus_content m start T) n) φ) (λ (T : List (List ℕ)). pair (schur (start_plus_content m start T) n) φ) (λ T. one-product (pair (schur (start_plus_content m start T) n) φ)) (good_tableaux m start outer inner)
    ∙ sym (pair_each (λ (T : List (List ℕ)). schur (start_plus_content m start T) n) (good_tableaux m start outer inner) φ)))
    (product_of_labels n m start outer inner h p o i)

-- if ν has at most n rows, and n ≤ m, the Schur coefficient at ν of s_start·s_(outer/inner) in n variables is the number of good tableaux T with
-- entries up to m for which start + content(T) = ν
pub coefficient_counts : (n m : ℕ) (start outer inner ν : List ℕ) → n ≤ m → IsPartition start → IsPartition outer → IsPartition inner → IsPartition ν → rows ν ≤ n
    → schur_coefficient n ν (times (schur start n) (skew_schur outer inner n)) ≡ coefficient (good_terms m start outer inner) ν
coefficient_counts n m start outer inner ν h p o i q l =
    times_respects (alternant (staircase n)) (alternant (staircase n)) (times (schur start n) (skew_schur outer inner n)) (flat_map (λ (T : List (List ℕ)). schur (start_plus_content m start T) n) (good_tableaux m start outer inner))
    (Same_refl (alternant (staircase n))) (Same_sym (flat_map (λ (T : List (List ℕ)). schur (start_plus_content m start T) n) (good_tableaux m start outer inner)) (times (schur start n) (skew_schur outer inner n)) (product_of_labels n m start outer inner h p o i)) (join ν (staircase n))
    ∙ coefficient_pair (times (alternant (staircase n)) (flat_map (λ (T : List (List ℕ)). schur (start_plus_content m start T) n) (good_tableaux m start outer inner))) (join ν (staircase n))
    ∙ pair_times_each (alternant (staircase n)) (λ (T : List (List ℕ)). schur (start_plus_content m start T) n) (good_tableaux m start outer inner) (at_only (join ν (staircase n)))
    ∙ total_among (λ (T : List (List ℕ)). pair (times (alternant (staircase n)) (schur (start_plus_content m start T) n)) (at_only (join ν (staircase n)))) (λ (T : List (List ℕ)). cond (same (start_plus_content m start T) ν) (pos 1) (pos 0)) (good_tableaux m start outer inner)
    (λ T k. sym (coefficient_pair (times (alternant (staircase n)) (schur (start_plus_content m start T) n)) (join ν (staircase n)))
    ∙ schur_coefficient_of_schur n (start_plus_content m start T) ν (good_is_partition m start outer inner T o.falls k) q l)
    ∙ sym (coefficient_good_terms m start outer inner ν)

-- if ν has at most n rows, and n ≤ m, the number of good tableaux T with start + content(T) = ν is the same for entries up to m and for entries up to
-- n
pub stable_counts : (n m : ℕ) (start outer inner ν : List ℕ) → n ≤ m → IsPartition start → IsPartition outer → IsPartition inner → IsPartition ν → rows ν ≤ n
    → coefficient (good_terms m start outer inner) ν ≡ coefficient (good_terms n start outer inner) ν
stable_counts n m start outer inner ν h p o i q l =
    sym (coefficient_counts n m start outer inner ν h p o i q l) ∙ coefficient_counts n n start outer inner ν (omega arith) p o i q l

-- if ν has more rows than start and outer together, and start has at most m rows, no good tableau T with entries up to m has start + content(T) = ν
pub no_long_labels : (m : ℕ) (start outer inner ν : List ℕ) → IsPartition start → IsPartition outer → IsPartition inner → contains outer inner ≡ true → rows start ≤ m → rows start + rows outer < rows ν
    → coefficient (good_terms m start outer inner) ν ≡ pos 0
no_long_labels m start outer inner ν p o i holds h l =
    coefficient_good_terms m start outer inner ν
    ∙ good_sums m (λ κ. cond (same (without_last_zeros κ) ν) (pos 1) (pos 0)) start outer inner p h o.falls i.falls holds
    ∙ too_many_rows m start outer inner ν l

-- ---- `product_count` and `skew_count` at ν are the coefficients of ν in the list of terms `good_terms`

product_count-terms : (n : ℕ) (left right ν : List ℕ) → IsPartition right → pos (product_count n left right ν) ≡ coefficient (good_terms n left right []) ν
product_count-terms n left right ν q =
    length-select (λ w. same (without_last_zeros (join left (content n w))) ν) (good_readings n left right [])
    ∙ total_good_contents n left right [] (λ κ. cond (same (without_last_zeros (join left κ)) ν) (pos 1) (pos 0)) q.falls (contains_nothing right)
    ∙ sym (coefficient_good_terms n left right [] ν)

skew_count-terms : (outer inner κ : List ℕ) → IsPartition outer → contains outer inner ≡ true → pos (skew_count outer inner κ) ≡ coefficient (good_terms (rows outer) [] outer inner) κ
skew_count-terms outer inner κ o holds =
    length-select (λ w. same (without_last_zeros (content (rows outer) w)) κ) (good_readings (rows outer) [] outer inner)
    ∙ total_good_contents (rows outer) [] outer inner (λ ν. cond (same (without_last_zeros ν) κ) (pos 1) (pos 0)) o.falls holds
    ∙ sym (coefficient_good_terms (rows outer) [] outer inner κ)

pub product_coefficients : (n : ℕ) (left right ν : List ℕ) → IsPartition left → IsPartition right → IsPartition ν → rows ν ≤ n
    → schur_coefficient n ν (times (schur left n) (schur right n)) ≡ pos (product_count n left right ν)
product_coefficients n left right ν p q r l =
    coefficient_counts n n left right [] ν (omega arith) p q IsPartition-none r l ∙ sym (product_count-terms n left right ν q)

pub product_counts_stable : (n m : ℕ) (left right ν : List ℕ) → n ≤ m → IsPartition left → IsPartition right → IsPartition ν → rows ν ≤ n
    → product_count m left right ν ≡ product_count n left right ν
product_counts_stable n m left right ν h p q r l =
    let e = product_count-terms m left right ν q ∙ stable_counts n m left right [] ν h p q IsPartition-none r l ∙ sym (product_count-terms n left right ν q) in
    omega (arith, ints)

-- s_() is 1, so its product with a skew Schur polynomial is that skew Schur polynomial
pub nothing_times : (n : ℕ) (outer inner : List ℕ) → IsPartition outer → IsPartition inner → Same (times (schur [] n) (skew_schur outer inner n)) (skew_schur outer inner n)
nothing_times n outer inner o i =
    Same_trans (times (schur [] n) (skew_schur outer inner n)) (good_schurs n [] outer inner) (skew_schur outer inner n) (product-good_schurs n [] outer inner IsPartition-none o i)
    (Same_sym (skew_schur outer inner n) (good_schurs n [] outer inner) (skew-good_schurs n outer inner o i))

skew_terms : (n : ℕ) (outer inner κ : List ℕ) → IsPartition outer → IsPartition inner → contains outer inner ≡ true → IsPartition κ → rows κ ≤ n
    → coefficient (good_terms n [] outer inner) κ ≡ pos (skew_count outer inner κ)
skew_terms n outer inner κ o i holds p l =
    sym (stable_counts n (n + rows outer) [] outer inner κ (omega arith) IsPartition-none o i p l)
    ∙ by (cases_lt (rows outer) (rows κ))
    ∙ sym (skew_count-terms outer inner κ o holds)
  where
    by : (rows outer < rows κ) ⊎ (rows κ ≤ rows outer) → coefficient (good_terms (n + rows outer) [] outer inner) κ ≡ coefficient (good_terms (rows outer) [] outer inner) κ
    by (inl h) =
        no_long_labels (n + rows outer) [] outer inner κ IsPartition-none o i holds (omega arith) (omega arith)
        ∙ sym (no_long_labels (rows outer) [] outer inner κ IsPartition-none o i holds (omega arith) (omega arith))
    by (inr h) = stable_counts (rows outer) (n + rows outer) [] outer inner κ (omega arith) IsPartition-none o i p h

pub skew_coefficients : (n : ℕ) (outer inner κ : List ℕ) → IsPartition outer → IsPartition inner → contains outer inner ≡ true → IsPartition κ → rows κ ≤ n
    → schur_coefficient n κ (skew_schur outer inner n) ≡ pos (skew_count outer inner κ)
skew_coefficients n outer inner κ o i holds p l =
    times_respects (alternant (staircase n)) (alternant (staircase n)) (skew_schur outer inner n) (times (schur [] n) (skew_schur outer inner n)) (Same_refl (alternant (staircase n)))
    (Same_sym (times (schur [] n) (skew_schur outer inner n)) (skew_schur outer inner n) (nothing_times n outer inner o i)) (join κ (staircase n))
    ∙ coefficient_counts n n [] outer inner κ (omega arith) IsPartition-none o i p l
    ∙ skew_terms n outer inner κ o i holds p l

-- ---- lists of terms that have counts of good tableaux as their coefficients

pub no_label : (terms : Terms (List ℕ)) (ν : List ℕ) → ((t : List ℕ × Fraction) → Among t terms → t.0 ≡ ν → ⊥) → coefficient (numerators terms) ν ≡ pos 0
no_label terms ν h =
    total_map (λ (t : Term). cond (same t.0 ν) t.1 (pos 0)) (λ (t : List ℕ × Fraction). (t.0, t.1.0)) terms
    ∙ total_none (λ (t : List ℕ × Fraction). cond (same t.0 ν) t.1.0 (pos 0)) terms (λ t m. ap (λ (b : Bool). cond b t.1.0 (pos 0)) (same_apart t.0 ν (h t m)))

-- let the labels of `terms` be partitions with at most k rows, and let the coefficient of `terms` at each such partition ν be the number of good
-- tableaux T with start + content(T) = ν. If start + content(T) has at most k rows for each good tableau T, then `terms` has the same coefficients as
-- `good_terms`, the list of the terms of coefficient 1 with the labels start + content(T)
pub terms_same : (k m : ℕ) (count : List ℕ → ℕ) (terms : Terms (List ℕ)) (start outer inner : List ℕ) → Falls outer → ListsCounts k count terms
    → ((ν : List ℕ) → IsPartition ν → rows ν ≤ k → coefficient (good_terms m start outer inner) ν ≡ pos (count ν))
    → ((ν : List ℕ) → IsPartition ν → k < rows ν → coefficient (good_terms m start outer inner) ν ≡ pos 0)
    → Same (numerators terms) (good_terms m start outer inner)
terms_same k m count terms start outer inner f c few many α = by (cases_Bool (is_partition α)) (cases_lt k (rows α))
  where
    by : (is_partition α ≡ true) ⊎ (is_partition α ≡ false) → (k < rows α) ⊎ (rows α ≤ k) → coefficient (numerators terms) α ≡ coefficient (good_terms m start outer inner) α
    by (inl e) (inl h) =
        no_label terms α (λ t n d. let l = c.labels t n in let r = l.1 in let q = ap length d in absurd (omega arith)) ∙ sym (many α (is_partition-tells α e) h)
    by (inl e) (inr h) = let p = is_partition-tells α e in c.counts α p h ∙ sym (few α p h)
    by (inr e) h =
        no_label terms α (λ t n d. let l = c.labels t n in both_ways (is_partition α) e (is_partition-from α (subst IsPartition d l.0)))
        ∙ sym (coefficient_good_terms m start outer inner α
        ∙ total_none (λ (T : List (List ℕ)). cond (same (start_plus_content m start T) α) (pos 1) (pos 0)) (good_tableaux m start outer inner)
        (λ T n. ap (λ (b : Bool). cond b (pos 1) (pos 0)) (same_apart (start_plus_content m start T) α
        (λ d. both_ways (is_partition α) e (is_partition-from α (subst IsPartition d (good_is_partition m start outer inner T f n)))))))

combined_always : (n : ℕ) (count : List ℕ → ℕ) (terms : Terms (List ℕ)) (start outer inner : List ℕ) → IsPartition start → IsPartition outer → IsPartition inner → contains outer inner ≡ true
    → ListsCounts (rows start + rows outer) count terms
    → ((ν : List ℕ) → IsPartition ν → rows ν ≤ rows start + rows outer → coefficient (good_terms (rows start + rows outer) start outer inner) ν ≡ pos (count ν))
    → Same (combined (λ label. schur label n) (numerators terms)) (times (schur start n) (skew_schur outer inner n))
combined_always n count terms start outer inner p o i holds c e =
    let k = rows start + rows outer in
    Same_trans (combined (λ label. schur label n) (numerators terms)) (combined (λ label. schur label n) (good_terms (n + k) start outer inner)) (times (schur start n) (skew_schur outer inner n))
    (combined_respects (λ label. schur label n) (numerators terms) (good_terms (n + k) start outer inner)
    (terms_same k (n + k) count terms start outer inner o.falls c
    (λ ν q l. stable_counts k (n + k) start outer inner ν (omega arith) p o i q l ∙ e ν q l)
    (λ ν q l. no_long_labels (n + k) start outer inner ν p o i holds (omega arith) l)))
    (combined_good_terms n (n + k) start outer inner (omega arith) p o i)

few_rows : (n : ℕ) (start outer inner : List ℕ) (T : List (List ℕ)) → Among T (good_tableaux n start outer inner) → rows (start_plus_content n start T) ≤ n
few_rows n start outer inner T m = by (cases_lt n (rows start))
  where
    none : (b : Bool) → b ≡ false → Among T (cond b (filter (is_good n start outer inner) (tableaux n outer inner)) []) → ⊥
    none true e k = absurd (cc)
    none false e k = k

    by : (n < rows start) ⊎ (rows start ≤ n) → rows (start_plus_content n start T) ≤ n
    by (inl h) = absurd (none (nat_le (rows start) n) (lt-leb (rows start) n h) m)
    by (inr h) =
        let a = length-without_last_zeros (join start (content n (letters_of T))) in
        let b = length-join start (content n (letters_of T)) in
        let c = length_content n (letters_of T) in
        omega arith

combined_once : (n : ℕ) (count : List ℕ → ℕ) (terms : Terms (List ℕ)) (start outer inner : List ℕ) → IsPartition start → IsPartition outer → IsPartition inner
    → ListsCounts n count terms → ((ν : List ℕ) → IsPartition ν → rows ν ≤ n → coefficient (good_terms n start outer inner) ν ≡ pos (count ν))
    → Same (combined (λ label. schur label n) (numerators terms)) (times (schur start n) (skew_schur outer inner n))
combined_once n count terms start outer inner p o i c e =
    Same_trans (combined (λ label. schur label n) (numerators terms)) (combined (λ label. schur label n) (good_terms n start outer inner)) (times (schur start n) (skew_schur outer inner n))
    (combined_respects (λ label. schur label n) (numerators terms) (good_terms n start outer inner)
    (terms_same n n count terms start outer inner o.falls c e
    (λ ν q l. coefficient_good_terms n start outer inner ν
    ∙ total_none (λ (T : List (List ℕ)). cond (same (start_plus_content n start T) ν) (pos 1) (pos 0)) (good_tableaux n start outer inner)
    (λ T m. ap (λ (b : Bool). cond b (pos 1) (pos 0)) (same_apart (start_plus_content n start T) ν (λ d. let r = few_rows n start outer inner T m in let g = ap length d in absurd (omega arith)))))))
    (combined_good_terms n n start outer inner (omega arith) p o i)

-- a list of terms with the coefficients `product_count` expands s_left·s_right in Schur polynomials, as the command `mult` requires
-- (`ExpandsInSchurs`). A list with the coefficients `skew_count` expands the skew Schur polynomial, as the command `skew` requires

pub mult_meets : (variables : Option ℕ) (left right : List ℕ) (terms : Terms (List ℕ)) → IsPartition left → IsPartition right
    → ListsCounts (variables_or variables (rows left + rows right)) (product_count (variables_or variables (rows left + rows right)) left right) terms
    → ExpandsInSchurs variables (schur_product (left ∷ right ∷ [])) terms
mult_meets None left right terms p q c =
    λ n. represents-whole (λ label. schur label n) terms (times (schur left n) (schur right n)) c.whole
    (combined_always n (product_count (rows left + rows right) left right) terms left right [] p q IsPartition-none (contains_nothing right) c
    (λ ν r l. sym (product_count-terms (rows left + rows right) left right ν q)))
mult_meets (Some k) left right terms p q c = (
  represents-whole (λ label. schur label k) terms (times (schur left k) (schur right k)) c.whole
      (combined_once k (product_count k left right) terms left right [] p q IsPartition-none c (λ ν r l. sym (product_count-terms k left right ν q))),
  (λ t m. let l = c.labels t m in l.1),
)

pub skew_meets : (variables : Option ℕ) (outer inner : List ℕ) (terms : Terms (List ℕ)) → IsPartition outer → IsPartition inner → contains outer inner ≡ true
    → ListsCounts (variables_or variables (rows outer)) (skew_count outer inner) terms → ExpandsInSchurs variables (skew_schur outer inner) terms
skew_meets None outer inner terms o i holds c =
    λ n. represents-whole (λ label. schur label n) terms (skew_schur outer inner n) c.whole
    (Same_trans (combined (λ label. schur label n) (numerators terms)) (times (schur [] n) (skew_schur outer inner n)) (skew_schur outer inner n)
    (combined_always n (skew_count outer inner) terms [] outer inner IsPartition-none o i holds (subst (λ k. ListsCounts k (skew_count outer inner) terms) all c)
    (λ ν r l. skew_terms (rows [] + rows outer) outer inner ν o i holds r l))
    (nothing_times n outer inner o i))
  where
    all : rows outer ≡ rows [] + rows outer
    all = omega arith
skew_meets (Some k) outer inner terms o i holds c = (
  represents-whole (λ label. schur label k) terms (skew_schur outer inner k) c.whole
      (Same_trans (combined (λ label. schur label k) (numerators terms)) (times (schur [] k) (skew_schur outer inner k)) (skew_schur outer inner k)
      (combined_once k (skew_count outer inner) terms [] outer inner IsPartition-none o i c (λ ν r l. skew_terms k outer inner ν o i holds r l))
      (nothing_times k outer inner o i)),
  (λ t m. let l = c.labels t m in l.1),
)

pub coef_meets : (outer left right : List ℕ) (c : ℤ) → IsPartition outer → IsPartition left → IsPartition right
    → c ≡ pos (product_count (rows outer) left right outer) → IsProductCoefficientOf outer left right c
coef_meets outer left right c o p q e = e ∙ sym (product_coefficients (rows outer) left right outer p q o (omega arith))
