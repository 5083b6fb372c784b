-- Negations, sums and products of expressions: their lists of terms in Schur polynomials, from the lists of their operands.
use Rattle.std.proofs.Common.{◌≡◌, ℕ, ◌*◌, ◌/◌, List, [], ◌∷◌, length, sym, ◌∙◌, ap, ap₂, subst, arith, ℤ, pos, ◌+ℤ◌, ◌*ℤ◌, neg_ℤ}
use Rattle.std.specs.Prelude.{nat_eq, negsuc}
use Rattle.std.specs.Int.{◌∣◌}
use Rattle.std.specs.Cmp.Lexicographic.{pointwise}
use Rattle.fraction_laws.specs.Fractions.{whole}
use Rattle.fraction_laws.proofs.Fractions.{InLowestTerms-whole}
use Rattle.sym_model.specs.Polynomial.{pair, scale, negate, times}
use Rattle.sym_model.specs.Expansion.{Basis, schurs, Terms, denominators, basis_polynomial, IsExpansionOf}
use Rattle.sym_model.specs.Expression.{Tree, atom, negation, sum, product, lcm, denominator, cleared_value}
use Rattle.sym_model.proofs.Ring.{product-negation, distributes_left, product_left_comm, product_assoc}
use Rattle.sym_model.proofs.Polynomials.{pair_plus, pair_scale, pair_negate}
use Rattle.sym_model.proofs.PolynomialLaws.{times_comm}
use Rattle.monomial_laws.specs.ExpressionTerms.{HasDenominators}
use Rattle.monomial_laws.proofs.WeightBounds.{lcm-left, lcm-right, denominator-positive}
use Rattle.sparse_polys.proofs.Expansions.{common-denominators}
use Rattle.sparse_polys.proofs.Coefficients.{product-zero}
use Rattle.sparse_polys.proofs.Steps.{IsCombination-empty}
use Rattle.sym_model.specs.LabelLimits.{is_label}
use Rattle.sparse_polys.specs.Combination.{IsMultipleOf, IsSumOf}
use Rattle.std.proofs.lemmas.Nat.Gcd.{dvd_trans}
use Rattle.std.proofs.Math.Nat.{dvd-mul_left, dvd-mul_right}
use native.Mathlib.Nat.{mul-pos}
use Rattle.sparse_polys.specs.Tables.{IsFractionTable}
use Rattle.basis_expand.specs.SchurLists.{StandsFor, sum_at}
use Rattle.monomial_laws.proofs.ExpressionLaws.{expansion_respects}
use Rattle.basis_expand.proofs.SchurExpansions.{expansion-tells, expansion-from}
use Rattle.basis_expand.proofs.SchurTables.{common-sum, sum_at-sum, common-multiple, sum_at-multiple}
use Rattle.linear_combinations.specs.Cleared.{IsCommonDenominator}
use Rattle.sym_model.proofs.Integers.{neg_one-product}

pub negation-list : (e : Tree) (list turned : Terms (List ℕ)) → IsFractionTable list → IsFractionTable turned → IsMultipleOf (pointwise nat_eq) list (whole (negsuc 0)) turned → StandsFor e list → StandsFor (negation e) turned
negation-list e list turned is it products h n =
    let D = denominators list in
    let common = common-denominators list is in
    let one : 1 ∣ 1 = dvd-mul_left 1 1 in
    expansion-from turned n (negate (cleared_value e n)) (denominator e) (denominators list * 1) it
    (common-multiple D 1 (whole (negsuc 0)) list turned is it (InLowestTerms-whole (negsuc 0)) (omega arith) one common products)
    (λ φ.
    let told = expansion-tells list n (cleared_value e n) (denominator e) (denominators list) common (h n) φ in
    let k : D * 1 ≡ D = omega arith in
    ap (λ z. pos (denominator e) *ℤ z) (sum_at-multiple D 1 (whole (negsuc 0)) list turned is it (InLowestTerms-whole (negsuc 0)) (omega arith) one common products n φ ∙ neg_one-product (sum_at (denominators list) list n φ))
    ∙ product-negation (pos (denominator e)) (sum_at (denominators list) list n φ)
    ∙ ap neg_ℤ told
    ∙ sym (product-negation (pos (denominators list)) (pair (cleared_value e n) φ))
    ∙ ap₂ (λ (m : ℕ) (z : ℤ). pos m *ℤ z) (sym k) (sym (pair_negate (cleared_value e n) φ)))

-- if the list of e is empty, it is also the list of the negation of e
pub negation-nothing : (e : Tree) (list : Terms (List ℕ)) → length list ≡ 0 → StandsFor e list → StandsFor (negation e) list
negation-nothing e [] none h =
    let empty = IsCombination-empty (pointwise nat_eq) is_label in
    negation-list e [] [] empty empty (λ ν. sym (product-zero (whole (negsuc 0)) (InLowestTerms-whole (negsuc 0)))) h
negation-nothing e (t ∷ list) none h = absurd (omega arith)

joined : (m d e l r q : ℕ) (X Y f g : ℤ) → l * d ≡ m → r * e ≡ m → pos d *ℤ X ≡ pos q *ℤ f → pos e *ℤ Y ≡ pos q *ℤ g → pos m *ℤ (X +ℤ Y) ≡ pos q *ℤ (pos l *ℤ f +ℤ pos r *ℤ g)
joined m d e l r q X Y f g a b h k =
    distributes_left (pos m) X Y ∙ ap₂ ◌+ℤ◌ (part m d l q X f a h) (part m e r q Y g b k) ∙ sym (distributes_left (pos q) (pos l *ℤ f) (pos r *ℤ g))
  where
    part : (m d l q : ℕ) (X f : ℤ) → l * d ≡ m → pos d *ℤ X ≡ pos q *ℤ f → pos m *ℤ X ≡ pos q *ℤ (pos l *ℤ f)
    part m d l q X f a h =
        ap (λ (k : ℕ). pos k *ℤ X) (sym a) ∙ product_assoc (pos l) (pos d) X ∙ ap (λ z. pos l *ℤ z) h ∙ product_left_comm (pos l) (pos q) f

both_common : (left right : Terms (List ℕ)) → IsFractionTable left → IsFractionTable right → IsCommonDenominator (denominators left * denominators right) left × IsCommonDenominator (denominators left * denominators right) right
both_common left right is also =
    let a = common-denominators left is in
    let b = common-denominators right also in (
      record { positive = mul-pos a.positive b.positive; multiple = λ t m. dvd_trans t.1.1 (a.multiple t m) (dvd-mul_right (denominators left) (denominators right)) },
      record { positive = mul-pos a.positive b.positive; multiple = λ t m. dvd_trans t.1.1 (b.multiple t m) (dvd-mul_left (denominators right) (denominators left)) },
    )

pub sum-list : (e f : Tree) (left right both : Terms (List ℕ)) → HasDenominators e → HasDenominators f → IsFractionTable left → IsFractionTable right → IsFractionTable both
    → IsSumOf (pointwise nat_eq) left right both → StandsFor e left → StandsFor f right → StandsFor (sum e f) both
sum-list e f left right both he hf is also it sums h k n =
    let q = denominators left * denominators right in
    let m = lcm (denominator e) (denominator f) in
    let c = both_common left right is also in
    expansion-from both n (cleared_value (sum e f) n) (lcm (denominator e) (denominator f)) q it (common-sum q left right both is also it c.0 c.1 sums)
    (λ φ.
    ap (λ z. pos (lcm (denominator e) (denominator f)) *ℤ z) (sum_at-sum q left right both is also it c.0 c.1 sums n φ)
    ∙ joined m (denominator e) (denominator f) (m / denominator e) (m / denominator f) q (sum_at q left n φ) (sum_at q right n φ) (pair (cleared_value e n) φ) (pair (cleared_value f n) φ)
    (lcm-left (denominator e) (denominator f) (denominator-positive e he)) (lcm-right (denominator e) (denominator f))
    (expansion-tells left n (cleared_value e n) (denominator e) q c.0 (h n) φ)
    (expansion-tells right n (cleared_value f n) (denominator f) q c.1 (k n) φ)
    ∙ ap (λ z. pos (denominators left * denominators right) *ℤ z)
    (sym (pair_plus (scale (pos (m / denominator e)) (cleared_value e n)) (scale (pos (m / denominator f)) (cleared_value f n)) φ
    ∙ ap₂ ◌+ℤ◌ (pair_scale (pos (m / denominator e)) (cleared_value e n) φ) (pair_scale (pos (m / denominator f)) (cleared_value f n) φ))))

pub right_factor : (e : Tree) (basis : Basis) (parts : List ℕ) (list : Terms (List ℕ))
    → ((n : ℕ) → IsExpansionOf schurs list n (times (basis_polynomial basis parts n) (cleared_value e n)) (denominator e)) → StandsFor (product e (atom basis parts)) list
right_factor e basis parts list h n =
    let k : denominator e ≡ denominator e * 1 = omega arith in
    subst (λ d. IsExpansionOf schurs list n (times (cleared_value e n) (basis_polynomial basis parts n)) d) k
    (expansion_respects list n (times (basis_polynomial basis parts n) (cleared_value e n)) (times (cleared_value e n) (basis_polynomial basis parts n)) (denominator e)
    (times_comm (basis_polynomial basis parts n) (cleared_value e n)) (h n))

pub left_factor : (e : Tree) (basis : Basis) (parts : List ℕ) (list : Terms (List ℕ))
    → ((n : ℕ) → IsExpansionOf schurs list n (times (basis_polynomial basis parts n) (cleared_value e n)) (denominator e)) → StandsFor (product (atom basis parts) e) list
left_factor e basis parts list h n =
    let k : denominator e ≡ 1 * denominator e = omega arith in
    subst (λ d. IsExpansionOf schurs list n (times (basis_polynomial basis parts n) (cleared_value e n)) d) k (h n)
