-- Products of two lists of terms in Schur polynomials, one pair of terms after another.
use Rattle.std.proofs.Common.{◌≡◌, ℕ, ◌*◌, ◌<◌, List, [], ◌∷◌, ◌++◌, length, sym, ◌∙◌, ap, subst, arith, ℤ, pos, ◌+ℤ◌, ◌*ℤ◌, rules}
use Rattle.std.proofs.lemmas.List.{nil_from_length}
use Rattle.std.specs.Prelude.{nat_eq}
use Rattle.std.specs.Int.{◌∣◌}
use Rattle.std.specs.Cmp.Lexicographic.{pointwise}
use Rattle.fraction_laws.specs.Fractions.{InLowestTerms, scaled, whole, fraction_product}
use Rattle.fraction_laws.proofs.Fractions.{InLowestTerms-whole}
use Rattle.fraction_laws.proofs.Cleared.{product-cleared}
use Rattle.sym_model.specs.Polynomial.{Poly, pair, one, scale, join, times}
use Rattle.sym_model.specs.Schur.{schur}
use Rattle.sym_model.specs.Expansion.{schurs, Fraction, Terms, denominators, cleared, value, IsExpansionOf}
use Rattle.sym_model.specs.WholeTerms.{WholeTerms}
use Rattle.sym_model.proofs.Ring.{ring, one-product, product-one, product_assoc}
use Rattle.sym_model.proofs.Polynomials.{pair_ext, pair_exchange, pair_plus, pair_scale, pair_times, pair_determined, times_respects}
use Rattle.sym_model.proofs.PolynomialLaws.{times-scale, scale-times, one-times, times-one}
use Rattle.sparse_polys.specs.Combination.{terms_of}
use Rattle.monomial_laws.specs.ExpressionTerms.{over}
use Rattle.monomial_laws.proofs.DividedTerms.{divides-denominators, over-append}
use Rattle.sym_model.specs.LabelLimits.{is_label}
use Rattle.sparse_polys.proofs.Expansions.{over-one, whole-denominators}
use Rattle.sparse_polys.proofs.Tables.{table_gained}
use Rattle.basis_expand.specs.SchurLists.{ComeTo, sum_at, product_at, row_at, products_at}
use Rattle.basis_expand.proofs.SchurExpansions.{pair_cleared, expansion-tells, expansion-from}
use Rattle.basis_expand.proofs.SchurTables.{common_of}
use Rattle.strip_rules.proofs.BeadSums.{schur-nothing}
use Rattle.monomial_laws.proofs.SchurMajorants.{In-schur}
use Rattle.linear_combinations.specs.Cleared.{IsCommonDenominator, GainsCleared}
use lib.IntN.{+ℤ_idl, +ℤ_idr}
use native.Mathlib.Nat.{mul-pos, dvd-mul_left}

pair_next : (q : ℕ) (terms : Terms (List ℕ)) (k : List ℕ) (c : Fraction) (w : List ℕ → ℤ) → pair (over q (terms ++ (k, c) ∷ [])) w ≡ pair (over q terms) w +ℤ scaled q c *ℤ w k
pair_next q terms k c w =
    ap (λ (l : WholeTerms). pair l w) (over-append q terms ((k, c) ∷ []))
    ∙ pair_plus (over q terms) ((k, scaled q c) ∷ []) w
    ∙ ap (λ z. pair (over q terms) w +ℤ z) (+ℤ_idr (scaled q c *ℤ w k))

pub row_next : (left : List ℕ) (e : ℕ) (done : Terms (List ℕ)) (k : List ℕ) (v : Fraction) (z : ℤ) (n : ℕ) (φ : List ℕ → ℤ)
    → z *ℤ row_at left e done n φ +ℤ (z *ℤ scaled e v) *ℤ product_at left k n φ ≡ z *ℤ row_at left e (done ++ (k, v) ∷ []) n φ
row_next left e done k v z n φ = search (rules, pair_next, ring)

pub products_next : (d : ℕ) (done : Terms (List ℕ)) (k : List ℕ) (v : Fraction) (e : ℕ) (right : Terms (List ℕ)) (n : ℕ) (φ : List ℕ → ℤ)
    → products_at d done e right n φ +ℤ scaled d v *ℤ row_at k e right n φ ≡ products_at d (done ++ (k, v) ∷ []) e right n φ
products_next d done k v e right n φ = sym (pair_next d done k v (λ label. row_at label e right n φ))

pub listed_product : (terms : WholeTerms) (n : ℕ) (f : Poly)
    → IsExpansionOf schurs (terms_of whole terms) n f 1
    → (φ : List ℕ → ℤ) → pair terms (λ label. pair (schur label n) φ) ≡ pair f φ
listed_product terms n f h φ =
    ap (λ (l : WholeTerms). pair l (λ label. pair (schur label n) φ)) (sym (over-one terms))
    ∙ sym (one-product (sum_at 1 (terms_of whole terms) n φ))
    ∙ expansion-tells (terms_of whole terms) n f 1 1 (whole-denominators terms) h φ
    ∙ one-product (pair f φ)

-- ---- the product of two lists is the sum over all pairs of terms

module _ (D E : ℕ) (left right : Terms (List ℕ)) (n : ℕ) (φ : List ℕ → ℤ) where
  row-times : (l : List ℕ) → pair (schur l n) (λ α. pair (cleared (λ label. schur label n) E right) (λ β. φ (join α β))) ≡ row_at l E right n φ
  row-times l =
      pair_exchange (schur l n) (cleared (λ label. schur label n) E right) (λ α β. φ (join α β))
      ∙ pair_cleared E right n (λ β. pair (schur l n) (λ α. φ (join α β)))
      ∙ pair_ext (over E right) (λ r. pair (schur r n) (λ β. pair (schur l n) (λ α. φ (join α β)))) (λ r. product_at l r n φ)
      (λ r. pair_exchange (schur r n) (schur l n) (λ β α. φ (join α β)) ∙ sym (pair_times (schur l n) (schur r n) φ))

  pub pair_products : pair (times (cleared (λ label. schur label n) D left) (cleared (λ label. schur label n) E right)) φ ≡ products_at D left E right n φ
  pair_products = search (rules, pair_times, pair_cleared, pair_ext, row-times)

both_scaled : (a b : ℤ) (f g : Poly) (φ : List ℕ → ℤ) → pair (times (scale a f) (scale b g)) φ ≡ a *ℤ (b *ℤ pair (times f g) φ)
both_scaled a b f g φ =
    sym (pair_determined (scale a (times f (scale b g))) (times (scale a f) (scale b g)) φ (scale-times a f (scale b g)))
    ∙ pair_scale a (times f (scale b g)) φ
    ∙ ap (λ z. a *ℤ z) (pair_determined (times f (scale b g)) (scale b (times f g)) φ (times-scale b f g) ∙ pair_scale b (times f g) φ)

common_of_expansion : (terms : Terms (List ℕ)) (n : ℕ) (f : Poly) (q : ℕ) → IsExpansionOf schurs terms n f q → IsCommonDenominator (denominators terms) terms
common_of_expansion terms n f q h = record { positive = h.positive; multiple = divides-denominators terms }

pub product-list : (left right both : Terms (List ℕ))
    → ((d e : ℕ) → IsCommonDenominator d left → IsCommonDenominator e right → (gained : WholeTerms)
    × ComeTo gained (λ n φ. products_at d left e right n φ)
    × GainsCleared (pointwise nat_eq) is_label (d * e) [] gained both)
    → (n : ℕ) (f g : Poly) (p q : ℕ) → IsExpansionOf schurs left n f p → IsExpansionOf schurs right n g q → IsExpansionOf schurs both n (times f g) (p * q)
product-list left right both sums n f g p q h k =
    let D = denominators left in
    let E = denominators right in
    let a = common_of_expansion left n f p h in
    let b = common_of_expansion right n g q k in
    let adds = sums (denominators left) (denominators right) a b in
    let it = table_gained (denominators left * denominators right) adds.0 both adds.2 in
    let V = value schurs left n in
    let W = value schurs right n in
    expansion-from both n (times f g) (p * q) (denominators left * denominators right) it
    (common_of (denominators left * denominators right) both (mul-pos a.positive b.positive) it
    adds.2.cleared)
    (λ φ.
    ap (λ z. pos (p * q) *ℤ z)
    (adds.2.gains.sums (λ label. pair (schur label n) φ)
    ∙ +ℤ_idl (pair adds.0 (λ label. pair (schur label n) φ)) ∙ adds.1 n φ
    ∙ sym (pair_products (denominators left) (denominators right) left right n φ))
    ∙ product_assoc (pos p) (pos q) (pair (times V W) φ)
    ∙ sym (both_scaled (pos p) (pos q) V W φ)
    ∙ pair_determined (times (scale (pos p) V) (scale (pos q) W)) (times (scale (pos D) f) (scale (pos E) g)) φ
    (times_respects (scale (pos p) V) (scale (pos D) f) (scale (pos q) W) (scale (pos E) g) h.equal k.equal)
    ∙ both_scaled (pos D) (pos E) f g φ
    ∙ sym (product_assoc (pos D) (pos E) (pair (times f g) φ)))

pub counted : (q : ℕ) (c p : Fraction) (v : ℤ) → InLowestTerms c → p ≡ fraction_product c (whole v) → 0 < q → c.1 ∣ q → (p.1 ∣ q) × (scaled q p ≡ scaled q c *ℤ v)
counted q c p v lc e some cd =
    let one : 1 ∣ 1 = dvd-mul_left 1 1 in
    let u = product-cleared q 1 c (whole v) lc (InLowestTerms-whole v) some (omega arith) cd one in
    let k : q * 1 ≡ q = omega arith in (
      subst (λ (r : Fraction). r.1 ∣ q) (sym e) (subst (λ m. (fraction_product c (whole v)).1 ∣ m) k u.0),
      ap (scaled q) e ∙ ap (λ m. scaled m (fraction_product c (whole v))) (sym k) ∙ u.1 ∙ ap (λ z. scaled q c *ℤ z) (product-one v),
    )

pub nothing_left : (left right : List ℕ) → length left ≡ 0 → (n : ℕ) (φ : List ℕ → ℤ) → pair (schur right n) φ ≡ product_at left right n φ
nothing_left left right h n φ = search (rules, pair_determined, one-times, In-schur, schur-nothing, nil_from_length)

pub nothing_right : (left right : List ℕ) → length right ≡ 0 → (n : ℕ) (φ : List ℕ → ℤ) → pair (schur left n) φ ≡ product_at left right n φ
nothing_right left right h n φ = search (rules, pair_determined, times-one, In-schur, schur-nothing, nil_from_length)
