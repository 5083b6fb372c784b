-- Counts of good tableaux are the Schur coefficients of products and of skew Schur polynomials. A tableau is good for the partition `start` if, for
-- each k, start plus the content of its last k columns is a partition.
use Rattle.std.proofs.Common.{◌≡◌, ℕ, ◌+◌, ◌^◌, ◌<◌, ◌≤◌, ◌⊎◌, inl, inr, min, Bool, true, false, cond, List, [], ◌∷◌, map, length, refl, sym, ap, ◌∙◌, subst, arith, ℤ, pos, ◌≤ℤ◌, filter, rules}
use Rattle.std.specs.Prelude.{Result, Ok, Err, Option, Some, None, IfOk, OnOk, IfSome, nat_eq}
use Rattle.std.specs.Cmp.Lexicographic.{pointwise}
use Rattle.std.specs.Option.{unwrap_or}
use Rattle.std.proofs.lemmas.Bool.{cases_lt, cases_Bool, le-leb, leb-true, false_from_ne_true, both_ways}
use Rattle.std.proofs.lemmas.Int.{ints}
use Rattle.sym_model.specs.Sum.{Among}
use Rattle.sym_model.specs.Partition.{IsPartition, Holds, rows, size, without_last_zeros}
use Rattle.sym_model.specs.Polynomial.{Poly, Term, Same, same, coefficient, join, resize, times}
use Rattle.sym_model.specs.Schur.{contains, semistandard, fillings_of, row_lengths, content, letters_of, schur, skew_schur}
use Rattle.sym_model.specs.GoodTableau.{good_tableaux, product_count, skew_count}
use Rattle.sym_model.specs.Alternant.{alternant, staircase, schur_coefficient}
use Rattle.sym_model.specs.LabelLimits.{is_partition, is_label}
use Rattle.sym_model.specs.WholeTerms.{WholeTerms, as_fractions, absolute_total}
use Rattle.fraction_laws.specs.Fractions.{whole}
use Rattle.linear_combinations.proofs.Steps.{IsCombination-empty}
use Rattle.sym_model.specs.Products.{schur_product, classical_product}
use Rattle.sym_model.specs.PastLimit.{IsSchurCoefficientOf, variables_or}
use Rattle.sym_model.specs.ReductionSteps.{classical_weight}
use Rattle.sym_model.proofs.Exponents.{size-join}
use Rattle.sym_model.proofs.Polynomials.{at_only, coefficient_pair, pair_times, pair_zero, times_respects, Same_refl}
use Rattle.sym_model.proofs.WholeTerms.{represents-whole}
use Rattle.sym_model.proofs.Orders.{is_partition-tells, is_partition-from}
use Rattle.sym_model.proofs.SortedParts.{IsPartition-none}
use Rattle.sym_model.proofs.Sums.{total_map}
use Rattle.sym_model.specs.Products.{ExpandsInSchurs, IsProductCoefficientOf}
use Rattle.sym_model.specs.PastLimit.{HasPast, IsCoefficientOfProduct, IsCoefficientOfSkew}
use Rattle.tableau_laws.specs.ColumnFold.{column_lines, is_sum}
use Rattle.tableau_laws.proofs.ColumnCounts.{contains_nothing, total_readings_by_columns}
use Rattle.tableau_laws.proofs.GoodReadings.{total_good_contents}
use Rattle.strip_laws.proofs.Containment.{contains-tells}
use Rattle.alternant_laws.specs.GoodSums.{ListsCounts, start_plus_content}
use Rattle.alternant_laws.proofs.CountedTerms.{good_terms, coefficient_counts, no_long_labels, product_coefficients, skew_coefficients, nothing_times, mult_meets, skew_meets}
use Rattle.alternant_laws.proofs.Degrees.{coefficient-other_degree, times-of_degree, alternant-of_degree, schur-of_degree}
use Rattle.alternant_laws.proofs.ClassicalProducts.{classical_product-coefficient, classical_product-term}
use Rattle.alternant_laws.proofs.WholeLists.{whole_counts}
use Rattle.lr_product.specs.WeighedSum.{comes_to, VanishesOutside}
use Rattle.lr_product.specs.Capped.{Agree}
use Rattle.lr_product.specs.Counts.{good_count, HasCounts, IsPastSomewhere}
use Rattle.lr_product.proofs.Sums.{pos_comes}
use Rattle.lr_product.proofs.ColumnsOfCounts.{over-states, over-ext}
pub use Rattle.product_laws.proofs.CountLists.{no_label}
use Rattle.sym_model.proofs.Integers.{at_most_absolute}

-- ---- counts replaced by counts that agree with them (`Agree`: equal, or both at least 2^127)

pub no_bound : (f : List ℕ → List ℕ → ℕ) → VanishesOutside [] f
no_bound f [] right h = absurd (cc)
no_bound f (a ∷ ν) right h = absurd (cc)

pub counts_agree : {E : Type 0} (n : ℕ) (w g : List ℕ → ℕ) (r : Result WholeTerms E) → ((parts : List ℕ) → Agree (w parts) (g parts)) → IfOk r (HasCounts n w) → OnOk r ((parts : List ℕ) → w parts < 2 ^ 127) → IfOk r (HasCounts n g)
counts_agree n w g (Ok terms) a c f = record { table = c.table; labels = c.labels; counts = λ parts p h. c.counts parts p h ∙ ap pos ((a parts).below (f parts)) }
counts_agree n w g (Err e) a c f = tt

pub fits_agree : {T E : Type 0} (w g : List ℕ → ℕ) (r : Result T E) → ((parts : List ℕ) → Agree (w parts) (g parts)) → OnOk r ((parts : List ℕ) → w parts < 2 ^ 127) → OnOk r ((parts : List ℕ) → g parts < 2 ^ 127)
fits_agree w g (Ok x) a f = λ parts. let e = (a parts).below (f parts) in let l = f parts in omega arith
fits_agree w g (Err e) a f = tt

pub past_agree : (n : ℕ) (w g : List ℕ → ℕ) → ((parts : List ℕ) → Agree (w parts) (g parts)) → IsPastSomewhere n w → IsPastSomewhere n g
past_agree n w g a p = record { parts = p.parts; partition = p.partition; within = p.within; past = (a p.parts).past p.past }

-- ---- counts of good tableaux (`good_count`) are Schur coefficients

pub good_count-terms : (n : ℕ) (start outer inner ν : List ℕ) → IsPartition start → IsPartition outer → IsPartition inner → contains outer inner ≡ true → rows start ≤ n
    → pos (good_count n start outer inner ν) ≡ coefficient (good_terms n start outer inner) ν
good_count-terms n start outer inner ν p o i holds h =
    let f : List ℕ → ℤ = λ κ. cond (same (without_last_zeros κ) ν) (pos 1) (pos 0) in
    over-states n (column_lines outer inner) (comes_to ν) (resize n start) []
    ∙ over-ext n (column_lines outer inner) (λ s r. pos (comes_to ν s r)) (is_sum ν) (pos_comes ν) (resize n start) []
    ∙ sym (total_readings_by_columns n start outer inner f p o i holds h)
    ∙ total_good_contents n start outer inner (λ κ. f (join start κ)) o.falls holds
    ∙ sym (total_map (λ (t : Term). cond (same t.0 ν) t.1 (pos 0)) (λ (T : List (List ℕ)). (start_plus_content n start T, pos 1)) (good_tableaux n start outer inner))

pub schur-good_count : (n m : ℕ) (start outer inner ν : List ℕ) → n ≤ m → IsPartition start → IsPartition outer → IsPartition inner → contains outer inner ≡ true → rows start ≤ n → IsPartition ν → rows ν ≤ n
    → schur_coefficient m ν (times (schur start m) (skew_schur outer inner m)) ≡ pos (good_count n start outer inner ν)
schur-good_count n m start outer inner ν h p o i holds s q l =
    coefficient_counts m m start outer inner ν (omega arith) p o i q (omega arith)
    ∙ sym (coefficient_counts n m start outer inner ν h p o i q l)
    ∙ coefficient_counts n n start outer inner ν (omega arith) p o i q l
    ∙ sym (good_count-terms n start outer inner ν p o i holds s)

schur-too_long : (m : ℕ) (start outer inner ν : List ℕ) → IsPartition start → IsPartition outer → IsPartition inner → contains outer inner ≡ true → rows start ≤ m → IsPartition ν → rows ν ≤ m → rows start + rows outer < rows ν
    → schur_coefficient m ν (times (schur start m) (skew_schur outer inner m)) ≡ pos 0
schur-too_long m start outer inner ν p o i holds s q l k =
    coefficient_counts m m start outer inner ν (omega arith) p o i q l ∙ no_long_labels m start outer inner ν p o i holds s k

-- the statement that n ≤ m, and that `count` is equal to `good` at each partition with at most n rows, and to 0 at each partition with more than n
-- and at most m rows
pub record SameCounts (n m : ℕ) (good count : List ℕ → ℕ) : Type 0 where
  pub fewer : n ≤ m
  pub same_within : (ν : List ℕ) → IsPartition ν → rows ν ≤ n → count ν ≡ good ν
  pub none_past : (ν : List ℕ) → IsPartition ν → rows ν ≤ m → n < rows ν → count ν ≡ 0

-- for each partition with at most m rows, `count` is the Schur coefficient of f in m variables
abbrev pub Counts : ℕ → Poly → (List ℕ → ℕ) → Type 0
Counts m f count = (ν : List ℕ) → IsPartition ν → rows ν ≤ m → schur_coefficient m ν f ≡ pos (count ν)

-- let min(m, rows of start plus rows of outer) ≤ n ≤ m, and let `count` give the Schur coefficients of s_start times the skew Schur polynomial of
-- outer/inner in m variables. Then `count` is `good_count` with letters up to n at each partition with at most n rows, and 0 at each partition with
-- n + 1 to m rows.
pub same_counts : (n m : ℕ) (start outer inner : List ℕ) (count : List ℕ → ℕ) → n ≤ m → min m (rows start + rows outer) ≤ n → IsPartition start → IsPartition outer → IsPartition inner → contains outer inner ≡ true → rows start ≤ n
    → Counts m (times (schur start m) (skew_schur outer inner m)) count → SameCounts n m (good_count n start outer inner) count
same_counts n m start outer inner count most enough p o i holds s c = search (rules, schur-good_count, ints, schur-too_long)

pub lists_counts : (k : ℕ) (count : List ℕ → ℕ) (terms : WholeTerms)
    → HasCounts k count terms → ListsCounts k count (as_fractions terms)
lists_counts k count terms c = whole_counts k count terms c.labels c.counts

pub lists_in : (n m : ℕ) (good count : List ℕ → ℕ) (terms : WholeTerms) → SameCounts n m good count → HasCounts n good terms → HasCounts m count terms
lists_in n m good count terms same_ones c = search (rules, cases_lt, no_label)

pub fits_in : (n m : ℕ) (good count : List ℕ → ℕ) → SameCounts n m good count → ((ν : List ℕ) → good ν < 2 ^ 127) → (ν : List ℕ) → IsPartition ν → rows ν ≤ m → count ν < 2 ^ 127
fits_in n m good count same_ones f ν q l = search rules

pub past_in : (n m : ℕ) (good count : List ℕ → ℕ) → SameCounts n m good count → IsPastSomewhere n good → IsPastSomewhere m count
past_in n m good count same_ones p = search rules

pub none_counted : (m : ℕ) (count : List ℕ → ℕ) → ((ν : List ℕ) → count ν ≡ 0) → HasCounts m count []
none_counted m count e = record { table = IsCombination-empty (pointwise nat_eq) is_label whole; labels = λ t k. absurd k; counts = λ ν q l. sym (ap pos (e ν)) }

pub has_past : (m : ℕ) (f : Poly) (count : List ℕ → ℕ) → Counts m f count → IsPastSomewhere m count → HasPast (IsSchurCoefficientOf f m)
has_past m f count e p = (
  pos (count p.parts),
  record { parts = p.parts; partition = p.partition; within = p.within; is = sym (e p.parts p.partition p.within) },
  le-leb (2 ^ 127) (count p.parts) p.past,
)

pub has_none_past : (m : ℕ) (f : Poly) (count : List ℕ → ℕ) → Counts m f count → ((ν : List ℕ) → IsPartition ν → rows ν ≤ m → count ν < 2 ^ 127) → HasPast (IsSchurCoefficientOf f m) → ⊥
has_none_past m f count e small (c, d, past) = search rules

-- ---- the counts `product_count` are the Schur coefficients of the product of two Schur polynomials

pub product_counts : (m : ℕ) (left right : List ℕ) → IsPartition left → IsPartition right → Counts m (schur_product (left ∷ right ∷ []) m) (product_count m left right)
product_counts m left right p q ν r l = product_coefficients m left right ν p q r l

pub same_product : (n m : ℕ) (left right : List ℕ) → n ≤ m → min m (rows left + rows right) ≤ n → IsPartition left → IsPartition right → rows left ≤ n
    → SameCounts n m (good_count n left right []) (product_count m left right)
same_product n m left right most enough p q h = same_counts n m left right [] (product_count m left right) most enough p q IsPartition-none (contains_nothing right) h (product_counts m left right p q)

variables_same : (rows_given : Option ℕ) (k : ℕ) → unwrap_or rows_given k ≡ variables_or rows_given k
variables_same None k = refl
variables_same (Some n) k = refl

enough_same : (variables : Option ℕ) (left right : List ℕ) → unwrap_or variables (rows left + rows right) ≡ variables_or variables (size (map rows (left ∷ right ∷ [])))
enough_same variables left right = variables_same variables (rows left + rows right) ∙ ap (variables_or variables) (let z : rows left + rows right ≡ rows left + (rows right + 0) = omega arith in z)

pub mult_counts : (variables : Option ℕ) (m : ℕ) (left right : List ℕ) (terms : WholeTerms) → m ≡ unwrap_or variables (rows left + rows right)
    → HasCounts m (product_count m left right) terms
    → ListsCounts (variables_or variables (rows left + rows right)) (product_count (variables_or variables (rows left + rows right)) left right) (as_fractions terms)
mult_counts variables m left right terms e c =
    subst (λ k. ListsCounts k (product_count k left right) (as_fractions terms)) (e ∙ variables_same variables (rows left + rows right)) (lists_counts m (product_count m left right) terms c)

pub mult_answers : (variables : Option ℕ) (m : ℕ) (left right : List ℕ) (terms : WholeTerms) → m ≡ unwrap_or variables (rows left + rows right) → IsPartition left → IsPartition right
    → HasCounts m (product_count m left right) terms → ExpandsInSchurs variables (schur_product (left ∷ right ∷ [])) (as_fractions terms)
mult_answers variables m left right terms e p q c =
    mult_meets variables left right (as_fractions terms) p q (mult_counts variables m left right terms e c)

pub mult_past : (variables : Option ℕ) (m : ℕ) (left right : List ℕ) → m ≡ unwrap_or variables (rows left + rows right) → IsPartition left → IsPartition right
    → IsPastSomewhere m (product_count m left right) → HasPast (IsCoefficientOfProduct variables (left ∷ right ∷ []))
mult_past variables m left right e p q past =
    subst (λ k. HasPast (IsSchurCoefficientOf (schur_product (left ∷ right ∷ []) k) k)) (e ∙ enough_same variables left right) (has_past m (schur_product (left ∷ right ∷ []) m) (product_count m left right) (product_counts m left right p q) past)

pub mult_fits : (variables : Option ℕ) (m : ℕ) (left right : List ℕ) → m ≡ unwrap_or variables (rows left + rows right) → IsPartition left → IsPartition right
    → ((ν : List ℕ) → IsPartition ν → rows ν ≤ m → product_count m left right ν < 2 ^ 127) → HasPast (IsCoefficientOfProduct variables (left ∷ right ∷ [])) → ⊥
mult_fits variables m left right e p q small past =
    has_none_past m (schur_product (left ∷ right ∷ []) m) (product_count m left right) (product_counts m left right p q) small
    (subst (λ k. HasPast (IsSchurCoefficientOf (schur_product (left ∷ right ∷ []) k) k)) (sym (e ∙ enough_same variables left right)) past)

-- if the terms have the counts `product_count` (`HasCounts`), they have the coefficients of `classical_product` of left and right in k variables
pub classical_answer : (k : ℕ) (left right : List ℕ) (terms : WholeTerms) → IsPartition left → IsPartition right → HasCounts k (product_count k left right) terms
    → Same terms (classical_product k (left ∷ right ∷ []))
classical_answer k left right terms p q c α = by (cases_Bool (is_partition α)) (cases_lt k (rows α))
  where
    both : ((t : List ℕ × ℤ) → Among t terms → t.0 ≡ α → ⊥) → ((t : List ℕ × ℤ) → Among t (classical_product k (left ∷ right ∷ [])) → t.0 ≡ α → ⊥)
        → coefficient terms α ≡ coefficient (classical_product k (left ∷ right ∷ [])) α
    both g h = no_label terms α g ∙ sym (no_label (classical_product k (left ∷ right ∷ [])) α h)

    by : (is_partition α ≡ true) ⊎ (is_partition α ≡ false) → (k < rows α) ⊎ (rows α ≤ k) → coefficient terms α ≡ coefficient (classical_product k (left ∷ right ∷ [])) α
    by (inl e) (inr l) =
        let r = is_partition-tells α e in
        c.counts α r l ∙ sym (product_counts k left right p q α r l) ∙ sym (classical_product-coefficient k (left ∷ right ∷ []) α r l)
    by (inl e) (inl l) =
        both (λ t m d. let r = c.labels t m in let a = r.1 in let b = ap length d in absurd (omega arith))
        (λ t m d. let r = classical_product-term k (left ∷ right ∷ []) t m in let a = r.few in let b = ap length d in absurd (omega arith))
    by (inr e) l =
        both (λ t m d. let r = c.labels t m in both_ways (is_partition α) e (is_partition-from α (subst IsPartition d r.0)))
        (λ t m d. let r = classical_product-term k (left ∷ right ∷ []) t m in both_ways (is_partition α) e (is_partition-from α (subst IsPartition d r.partition)))

coefficient_at_most : (terms : WholeTerms) (α : List ℕ) → coefficient terms α ≤ℤ pos (absolute_total terms)
coefficient_at_most [] α = omega (arith, ints)
coefficient_at_most (t ∷ terms) α = search (rules, at_most_absolute, ints, (coefficient_at_most terms α))

pub heavy_answer : (k : ℕ) (left right : List ℕ) → IsPartition left → IsPartition right → IsPastSomewhere k (product_count k left right) → 2 ^ 127 ≤ classical_weight k (left ∷ right ∷ [])
heavy_answer k left right p q past =
    let most = coefficient_at_most (classical_product k (left ∷ right ∷ [])) past.parts in
    let is : coefficient (classical_product k (left ∷ right ∷ [])) past.parts ≡ pos (product_count k left right past.parts) =
    classical_product-coefficient k (left ∷ right ∷ []) past.parts past.partition past.within ∙ product_counts k left right p q past.parts past.partition past.within in
    let l = past.past in
    omega (arith, ints)

pub classical_if : (variables : Option ℕ) (m : ℕ) (left right : List ℕ) (terms : WholeTerms) → m ≡ unwrap_or variables (rows left + rows right) → IsPartition left → IsPartition right
    → HasCounts m (product_count m left right) terms → IfSome variables (λ k. Same terms (classical_product k (left ∷ right ∷ [])))
classical_if None m left right terms e p q c = tt
classical_if (Some k) m left right terms e p q c = classical_answer k left right terms p q (subst (λ j. HasCounts j (product_count j left right) terms) e c)

pub heavy_if : (variables : Option ℕ) (m : ℕ) (left right : List ℕ) → m ≡ unwrap_or variables (rows left + rows right) → IsPartition left → IsPartition right
    → IsPastSomewhere m (product_count m left right) → IfSome variables (λ k. 2 ^ 127 ≤ classical_weight k (left ∷ right ∷ []))
heavy_if None m left right e p q past = tt
heavy_if (Some k) m left right e p q past = heavy_answer k left right p q (subst (λ j. IsPastSomewhere j (product_count j left right)) e past)

-- ---- the counts `skew_count` are the Schur coefficients of the skew Schur polynomial

skew_counts : (m : ℕ) (outer inner : List ℕ) → IsPartition outer → IsPartition inner → contains outer inner ≡ true → Counts m (skew_schur outer inner m) (skew_count outer inner)
skew_counts m outer inner o i holds ν r l = skew_coefficients m outer inner ν o i holds r l

pub same_skew : (n m : ℕ) (outer inner : List ℕ) → n ≡ min m (rows outer) → IsPartition outer → IsPartition inner → contains outer inner ≡ true
    → SameCounts n m (good_count n [] outer inner) (skew_count outer inner)
same_skew n m outer inner e o i holds =
    same_counts n m [] outer inner (skew_count outer inner) (omega arith) (omega arith) IsPartition-none o i holds (omega arith)
    (λ ν r l. times_respects (alternant (staircase m)) (alternant (staircase m)) (times (schur [] m) (skew_schur outer inner m)) (skew_schur outer inner m) (Same_refl (alternant (staircase m))) (nothing_times m outer inner o i) (join ν (staircase m))
    ∙ skew_counts m outer inner o i holds ν r l)

pub skew_counted : (variables : Option ℕ) (m : ℕ) (outer inner : List ℕ) (terms : WholeTerms) → m ≡ unwrap_or variables (rows outer)
    → HasCounts m (skew_count outer inner) terms → ListsCounts (variables_or variables (rows outer)) (skew_count outer inner) (as_fractions terms)
skew_counted variables m outer inner terms e c =
    subst (λ k. ListsCounts k (skew_count outer inner) (as_fractions terms)) (e ∙ variables_same variables (rows outer)) (lists_counts m (skew_count outer inner) terms c)

pub skew_answers : (variables : Option ℕ) (m : ℕ) (outer inner : List ℕ) (terms : WholeTerms) → m ≡ unwrap_or variables (rows outer) → IsPartition outer → IsPartition inner → contains outer inner ≡ true
    → HasCounts m (skew_count outer inner) terms → ExpandsInSchurs variables (skew_schur outer inner) (as_fractions terms)
skew_answers variables m outer inner terms e o i holds c =
    skew_meets variables outer inner (as_fractions terms) o i holds (skew_counted variables m outer inner terms e c)

pub skew_past : (variables : Option ℕ) (m : ℕ) (outer inner : List ℕ) → m ≡ unwrap_or variables (rows outer) → IsPartition outer → IsPartition inner → contains outer inner ≡ true
    → IsPastSomewhere m (skew_count outer inner) → HasPast (IsCoefficientOfSkew variables outer inner)
skew_past variables m outer inner e o i holds past =
    subst (λ k. HasPast (IsSchurCoefficientOf (skew_schur outer inner k) k)) (e ∙ variables_same variables (rows outer)) (has_past m (skew_schur outer inner m) (skew_count outer inner) (skew_counts m outer inner o i holds) past)

pub skew_fits : (variables : Option ℕ) (m : ℕ) (outer inner : List ℕ) → m ≡ unwrap_or variables (rows outer) → IsPartition outer → IsPartition inner → contains outer inner ≡ true
    → ((ν : List ℕ) → IsPartition ν → rows ν ≤ m → skew_count outer inner ν < 2 ^ 127) → HasPast (IsCoefficientOfSkew variables outer inner) → ⊥
skew_fits variables m outer inner e o i holds small past =
    has_none_past m (skew_schur outer inner m) (skew_count outer inner) (skew_counts m outer inner o i holds) small (subst (λ k. HasPast (IsSchurCoefficientOf (skew_schur outer inner k) k)) (sym (e ∙ variables_same variables (rows outer))) past)

pub contains-false : (outer inner : List ℕ) → (Holds outer inner → ⊥) → contains outer inner ≡ false
contains-false outer inner h = false_from_ne_true (contains outer inner) (λ e. h (contains-tells outer inner e))

skew_none : (outer inner : List ℕ) (n : ℕ) → contains outer inner ≡ false → skew_schur outer inner n ≡ []
skew_none outer inner n h = ap (λ (b : Bool). map (λ (T : List (List ℕ)). (content n (letters_of T), pos 1)) (cond b (filter (semistandard inner) (fillings_of n (row_lengths outer inner))) [])) h

pub outside_answers : (variables : Option ℕ) (outer inner : List ℕ) → contains outer inner ≡ false → ExpandsInSchurs variables (skew_schur outer inner) []
outside_answers None outer inner h = λ n. represents-whole (λ label. schur label n) [] (skew_schur outer inner n) tt (λ α. ap (λ (f : Poly). coefficient f α) (sym (skew_none outer inner n h)))
outside_answers (Some k) outer inner h = (represents-whole (λ label. schur label k) [] (skew_schur outer inner k) tt (λ α. ap (λ (f : Poly). coefficient f α) (sym (skew_none outer inner k h))), λ t m. absurd m)

pub outside_fits : (variables : Option ℕ) (outer inner : List ℕ) → contains outer inner ≡ false → HasPast (IsCoefficientOfSkew variables outer inner) → ⊥
outside_fits variables outer inner h past =
    let m = variables_or variables (rows outer) in
    has_none_past m [] (λ ν. 0) (λ ν q l. coefficient_pair (times (alternant (staircase m)) []) (join ν (staircase m)) ∙ pair_times (alternant (staircase m)) [] (at_only (join ν (staircase m))) ∙ pair_zero (alternant (staircase m)))
    (λ ν q l. omega arith) (subst (λ (f : Poly). HasPast (IsSchurCoefficientOf f m)) (skew_none outer inner m h) past)

-- if the size of outer is not the sum of the sizes of left and right, the coefficient `product_count` of outer in the product of left and right is 0
pub product_count-other_size : (outer left right : List ℕ) → IsPartition outer → IsPartition left → IsPartition right → (size left + size right ≡ size outer → ⊥) → product_count (rows outer) left right outer ≡ 0
product_count-other_size outer left right o p q other =
    let n = rows outer in
    let ρ = staircase n in
    let s = size-join outer ρ in
    let zero : pos (product_count n left right outer) ≡ pos 0 =
    sym (product_counts n left right p q outer o (omega arith))
    ∙ coefficient-other_degree (size ρ + (size left + size right)) (times (alternant ρ) (times (schur left n) (schur right n))) (join outer ρ)
    (times-of_degree (size ρ) (size left + size right) (alternant ρ) (times (schur left n) (schur right n)) (alternant-of_degree ρ)
    (times-of_degree (size left) (size right) (schur left n) (schur right n) (schur-of_degree left n) (schur-of_degree right n)))
    (λ e. other (omega arith)) in
    omega (arith, ints)

pub coef_past : (outer left right : List ℕ) → IsPartition outer → IsPartition left → IsPartition right → 2 ^ 127 ≤ product_count (rows outer) left right outer → HasPast (IsProductCoefficientOf outer left right)
coef_past outer left right o p q h = search (rules, product_counts, le-leb)

pub coef_fits : (outer left right : List ℕ) → IsPartition outer → IsPartition left → IsPartition right → product_count (rows outer) left right outer < 2 ^ 127 → HasPast (IsProductCoefficientOf outer left right) → ⊥
coef_fits outer left right o p q h (c, d, past) = search (rules, product_counts, leb-true)
