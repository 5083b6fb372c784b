-- The number of lattice tableaux of a skew shape with a given content: the inner partition and the content may be exchanged. A tableau is *good* for
-- a partition μ, its start, if for each j ≥ 0 the sum of μ and the content of the columns to the right of column j is a partition.
use Rattle.std.proofs.Common.{◌≡◌, ℕ, ◌+◌, ◌≤◌, Bool, true, false, cond, List, [], sym, ap, ◌∙◌, arith, ℤ, pos, ◌*ℤ◌}
use Rattle.std.proofs.lemmas.Int.{ints}
use Rattle.sym_model.specs.Sum.{Among}
use Rattle.sym_model.specs.Partition.{IsPartition, rows, size, without_last_zeros}
use Rattle.sym_model.specs.Polynomial.{Poly, Term, Same, same, coefficient, join, resize, scale, times, pair}
use Rattle.sym_model.specs.Schur.{contains, schur, skew_schur}
use Rattle.sym_model.specs.GoodTableau.{good_tableaux, product_count, skew_count}
use Rattle.sym_model.specs.Alternant.{alternant, staircase, schur_coefficient}
use Rattle.sym_model.specs.WholeTerms.{WholeTerms, combined}
use Rattle.sym_model.proofs.Polynomials.{pair_times_each, at_only, coefficient_pair, pair_determined, pair_scale, times_respects, Same_refl, Same_sym}
use Rattle.sym_model.proofs.PolynomialLaws.{times-scale}
use Rattle.sym_model.proofs.Ring.{ring}
use Rattle.sym_model.proofs.SortedParts.{IsPartition-none}
use Rattle.sym_model.proofs.Sums.{total_among, total_map}
use Rattle.tableau_laws.specs.ColumnFold.{column_lines, over_columns, is_sum}
use Rattle.tableau_laws.proofs.ColumnCounts.{total_readings_by_columns}
use Rattle.tableau_laws.proofs.GoodReadings.{total_good_contents}
use Rattle.alternant_laws.specs.GoodSums.{start_plus_content}
use Rattle.alternant_laws.proofs.CountedTerms.{good_terms, coefficient_counts, nothing_times, schur_coefficient_of_schur, skew_coefficients}
use Rattle.schur_laws.proofs.Duality.{rows_inside}
use Rattle.schur_laws.proofs.ProductCounts.{product_by_shape, product_outside, product_exchanged}
use Rattle.lr_product.proofs.GoodCounts.{product_count-other_size}

terms_by_columns : (n : ℕ) (outer inner κ : List ℕ) → IsPartition outer → IsPartition inner → contains outer inner ≡ true
    → coefficient (good_terms n [] outer inner) κ ≡ over_columns n (column_lines outer inner) (is_sum κ) (resize n []) []
terms_by_columns n outer inner κ o i holds =
    let f : List ℕ → ℤ = λ ν. cond (same (without_last_zeros ν) κ) (pos 1) (pos 0) in
    total_map (λ (t : Term). cond (same t.0 κ) t.1 (pos 0)) (λ (T : List (List ℕ)). (start_plus_content n [] T, pos 1)) (good_tableaux n [] outer inner)
    ∙ sym (total_good_contents n [] outer inner (λ ν. f (join [] ν)) o.falls holds)
    ∙ total_readings_by_columns n [] outer inner f IsPartition-none o i holds (omega arith)

skew_is_product : (outer inner κ : List ℕ) → IsPartition outer → IsPartition inner → IsPartition κ → contains outer inner ≡ true → rows κ ≤ rows outer
    → skew_count outer inner κ ≡ product_count (rows outer) inner κ outer
skew_is_product outer inner κ o i p holds h =
    let n = rows κ in
    let a = alternant (staircase n) in
    let f = skew_schur outer inner n in
    let e : pos (skew_count outer inner κ) ≡ pos (product_count (rows outer) inner κ outer) =
    sym (skew_coefficients n outer inner κ o i holds p (omega arith))
    ∙ times_respects a a f (times (schur [] n) f) (Same_refl a) (Same_sym (times (schur [] n) f) f (nothing_times n outer inner o i)) (join κ (staircase n))
    ∙ coefficient_counts n n [] outer inner κ (omega arith) IsPartition-none o i p (omega arith)
    ∙ terms_by_columns n outer inner κ o i holds
    ∙ sym (product_by_shape inner κ outer i p o holds) in
    omega (arith, ints)

pub skew_exchanged : (outer inner κ : List ℕ) → IsPartition outer → IsPartition inner → IsPartition κ → contains outer inner ≡ true → contains outer κ ≡ true
    → skew_count outer inner κ ≡ skew_count outer κ inner
skew_exchanged outer inner κ o i p h k =
    skew_is_product outer inner κ o i p h (rows_inside outer κ p k)
    ∙ product_exchanged inner κ outer i p o
    ∙ sym (skew_is_product outer κ inner o p i k (rows_inside outer inner i h))

-- if κ has no more rows than outer but does not lie inside outer, no lattice tableau of outer/inner has the content κ
pub skew_outside : (outer inner κ : List ℕ) → IsPartition outer → IsPartition inner → IsPartition κ → contains outer inner ≡ true → rows κ ≤ rows outer → contains outer κ ≡ false
    → skew_count outer inner κ ≡ 0
skew_outside outer inner κ o i p holds h k =
    skew_is_product outer inner κ o i p holds h ∙ product_exchanged inner κ outer i p o ∙ product_outside κ inner outer p i o k

-- if κ has no more rows than outer, and |inner| + |κ| is not |outer|, no lattice tableau of outer/inner has the content κ
pub skew_other_size : (outer inner κ : List ℕ) → IsPartition outer → IsPartition inner → IsPartition κ → contains outer inner ≡ true → rows κ ≤ rows outer → (size inner + size κ ≡ size outer → ⊥)
    → skew_count outer inner κ ≡ 0
skew_other_size outer inner κ o i p holds h other = skew_is_product outer inner κ o i p holds h ∙ product_count-other_size outer inner κ o i p other

scaled_schur : (n : ℕ) (ν : List ℕ) (t : Term) → IsPartition t.0 → IsPartition ν → rows ν ≤ n
    → pair (times (alternant (staircase n)) (scale t.1 (schur t.0 n))) (at_only (join ν (staircase n))) ≡ cond (same t.0 ν) t.1 (pos 0)
scaled_schur n ν t p q l =
    let a = alternant (staircase n) in
    let φ = at_only (join ν (staircase n)) in
    pair_determined (times a (scale t.1 (schur t.0 n))) (scale t.1 (times a (schur t.0 n))) φ (times-scale t.1 a (schur t.0 n))
    ∙ pair_scale t.1 (times a (schur t.0 n)) φ
    ∙ ap (λ z. t.1 *ℤ z) (sym (coefficient_pair (times a (schur t.0 n)) (join ν (staircase n))) ∙ schur_coefficient_of_schur n t.0 ν p q l)
    ∙ chosen (same t.0 ν)
  where
    chosen : (b : Bool) → t.1 *ℤ cond b (pos 1) (pos 0) ≡ cond b t.1 (pos 0)
    chosen true = simp ring (omega (arith, ints))
    chosen false = simp ring (omega (arith, ints))

-- let f be the sum, over the terms (label, c) of a list, of c·s_label in n variables. For each partition ν with at most n rows, the coefficient of ν
-- in the list is the Schur coefficient of f at ν
pub listed_coefficient : (n : ℕ) (ws : WholeTerms) (f : Poly) (ν : List ℕ) → ((t : Term) → Among t ws → IsPartition t.0) → Same (combined (λ (label : List ℕ). schur label n) ws) f
    → IsPartition ν → rows ν ≤ n → coefficient ws ν ≡ schur_coefficient n ν f
listed_coefficient n ws f ν labels e q l =
    let a = alternant (staircase n) in
    let g = combined (λ (label : List ℕ). schur label n) ws in
    sym (times_respects a a f g (Same_refl a) (Same_sym g f e) (join ν (staircase n))
    ∙ coefficient_pair (times a g) (join ν (staircase n))
    ∙ pair_times_each a (λ (t : Term). scale t.1 (schur t.0 n)) ws (at_only (join ν (staircase n)))
    ∙ total_among (λ (t : Term). pair (times a (scale t.1 (schur t.0 n))) (at_only (join ν (staircase n)))) (λ (t : Term). cond (same t.0 ν) t.1 (pos 0)) ws
    (λ t m. scaled_schur n ν t (labels t m) q l))
