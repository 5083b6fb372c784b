-- The polynomial of a list of terms c·x^e with fractions c as coefficients. For a common denominator d, it is described by the sums of (d·c)·φ(e)
-- over the terms of the list, for all functions φ of exponents.
--     represents          in n variables: if these sums are the sums of c·φ(e) over the terms of a polynomial f, the list is f divided by d
--     product_value       these sums for the product of two polynomials in n variables
--     variable_value      these sums for the product of a polynomial and a variable
--     product_overflows   if a product of two lists overflows, A·B ≥ 2^127, with A the sum of d·|c| over the coefficients c of the first list, and B
--                         the sum of q·|c| over those of the second, for common denominators d and q
use Rattle.std.proofs.Common.{◌≡◌, ℕ, ◌-◌, ◌+◌, ◌*◌, ◌/◌, ◌^◌, ◌<◌, ◌≤◌, max, map, length, Bool, true, false, cond, ◌&&◌, List, [], ◌∷◌, ◌++◌, refl, sym, ap, ap₂, ◌∙◌, subst, inl, inr, arith, ℤ, pos, ◌+ℤ◌, ◌*ℤ◌}
use Rattle.std.specs.Prelude.{nat_eq, nat_abs, Option, Some, replicate}
use Rattle.std.specs.Int.{◌∣◌}
use Rattle.std.specs.List.{IsDistinct}
use Rattle.std.specs.Map.{lookup, keys_of}
use Rattle.std.specs.Option.{unwrap_or}
use Rattle.std.specs.Cmp.Lexicographic.{pointwise, nat_list_eq_equiv}
use Rattle.std.proofs.lemmas.Bool.{cases_lt}
use Rattle.std.proofs.lemmas.Map.{lookup-none}
use Rattle.std.proofs.lemmas.Map.Keys.{IsDistinct-tail}
use Rattle.std.proofs.lemmas.Map.Entries.{none_past_head}
use Rattle.std.proofs.lemmas.Slice.Eq.{bytes_eq-Decides}
use Rattle.std.proofs.Math.Nat.{div-mul_cancel}
use Rattle.sym_model.specs.Sum.{Among}
use Rattle.sym_model.specs.Polynomial.{Poly, Term, coefficient, join, pair, times, scale, resize, fits_in}
use Rattle.sym_model.specs.DividedDifference.{x_to, x_to_in, variable_in}
use Rattle.sym_model.specs.Expansion.{Fraction, Terms, Represents, denominators, cleared}
use Rattle.sym_model.specs.ListWeight.{common_denominator, absolute_sum, list_weight}
use Rattle.sym_model.proofs.Exponents.{join_comm, resize-join, fits_in-join}
use Rattle.sym_model.proofs.Orders.{is_reduced-tells}
use Rattle.sym_model.proofs.Polynomials.{pair_ext, pair_plus, pair_scale, pair_times, pair_restrict, same_from_pair}
use Rattle.sym_model.proofs.Ring.{one-product, product_assoc, product_left_comm}
use Rattle.sym_model.proofs.Sums.{total_ext, total_among, total_map, total_scale, total_zero}
use Rattle.sym_model.specs.WholeTerms.{WholeTerms}
use Rattle.sym_model.proofs.Integers.{nat_abs-product}
use Rattle.fraction_laws.specs.Fractions.{scaled}
use Rattle.linear_combinations.specs.Gains.{mass}
use Rattle.linear_combinations.proofs.Masses.{mass_append, overflow_mass}
use Rattle.monomial_laws.specs.ExpressionTerms.{over}
use Rattle.sparse_polys.specs.Combination.{IsPolynomialTable}
use Rattle.linear_combinations.specs.Cleared.{AreCleared, IsCommonDenominator, OverflowsCleared}
use Rattle.sparse_polys.specs.Products.{value_in, coefficient_at, times_variable}
use Rattle.sparse_polys.specs.Raised.{raised}
use Rattle.sparse_polys.proofs.Tables.{term-tests}
use Rattle.sparse_polys.proofs.ClearedSums.{over_sum, mass_over}
use Rattle.sparse_polys.proofs.Expansions.{denominators-positive, least-positive, least-multiple, times_nothing}
use native.Mathlib.Nat.{mul-pos, mul-le-mul_left}
use lib.IntN.{+ℤ_idr, *ℤ-zero}
use Rattle.monomial_laws.proofs.DividedTerms.{divides-denominators}
use Rattle.sym_model.proofs.PolynomialLaws.{restricted_test}

pub pair_x_to_in : (n : ℕ) (e : List ℕ) (φ : List ℕ → ℤ) → pair (x_to_in e n) φ ≡ restricted_test n φ e
pair_x_to_in n e φ = pair_restrict n (x_to e) φ ∙ +ℤ_idr (pos 1 *ℤ restricted_test n φ e) ∙ one-product (restricted_test n φ e)

pair_cleared : (n q : ℕ) (terms : Terms (List ℕ)) (φ : List ℕ → ℤ) → pair (cleared (λ e. x_to_in e n) q terms) φ ≡ pair (over q terms) (restricted_test n φ)
pair_cleared n q [] φ = refl
pair_cleared n q (t ∷ terms) φ =
    pair_plus (scale (scaled q t.1) (x_to_in t.0 n)) (cleared (λ e. x_to_in e n) q terms) φ
    ∙ ap₂ ◌+ℤ◌ (pair_scale (scaled q t.1) (x_to_in t.0 n) φ ∙ ap (λ z. scaled q t.1 *ℤ z) (pair_x_to_in n t.0 φ)) (pair_cleared n q terms φ)

found_at : (terms : Terms (List ℕ)) → IsPolynomialTable terms → (t : List ℕ × Fraction) → Among t terms → coefficient_at terms t.0 ≡ t.1
found_at terms is t m = ap (λ (o : Option Fraction). unwrap_or o (pos 0, 1)) (by terms is.distinct m)
  where
    by : (terms : Terms (List ℕ)) → IsDistinct (pointwise nat_eq) (keys_of terms) → Among t terms → lookup (pointwise nat_eq t.0) terms ≡ Some t.1
    by [] d m = absurd m
    by (u ∷ terms) d (inl e) =
        ap (λ b. cond b (Some u.1) (lookup (pointwise nat_eq t.0) terms)) ((bytes_eq-Decides t.0 u.0).1 (ap (λ (v : List ℕ × Fraction). v.0) e))
        ∙ ap (λ (v : List ℕ × Fraction). Some v.1) (sym e)
    by (u ∷ terms) d (inr m) =
        elim (pointwise nat_eq t.0 u.0) as (λ (b : Bool). pointwise nat_eq t.0 u.0 ≡ b → cond b (Some u.1) (lookup (pointwise nat_eq t.0) terms) ≡ Some t.1) [
          | true ↦ λ p. (let none = lookup-none (pointwise nat_eq t.0) terms (none_past_head nat_list_eq_equiv t.0 u terms d p) in
              let some = by terms (IsDistinct-tail (pointwise nat_eq) u.0 (keys_of terms) d) m in cc)
          | false ↦ λ p. by terms (IsDistinct-tail (pointwise nat_eq) u.0 (keys_of terms) d) m
        ] refl

positive_at : (terms : Terms (List ℕ)) → IsPolynomialTable terms → (t : List ℕ × Fraction) → Among t terms → 0 < t.1.1
positive_at terms is t m = (is_reduced-tells t.1 (term-tests terms is t m).0).denominator

pub common-denominators : (terms : Terms (List ℕ)) → IsPolynomialTable terms → IsCommonDenominator (denominators terms) terms
common-denominators terms is = record {
  positive = denominators-positive terms (positive_at terms is);
  multiple = divides-denominators terms;
}

pub least-denominators : (terms : Terms (List ℕ)) → IsPolynomialTable terms → IsCommonDenominator (common_denominator terms) terms
least-denominators terms is = record {
  positive = least-positive terms (positive_at terms is);
  multiple = least-multiple terms (positive_at terms is);
}

-- let d and e be the least common denominators of two lists, A the sum of d·|c| over the coefficients c of the first list, and B the sum of e·|c|
-- over the coefficients c of the second list: if d·e or A·B is at least 2^127, so is the product of the weights of the lists (`list_weight`)
pub weights-large : (left right : Terms (List ℕ)) → IsPolynomialTable left → IsPolynomialTable right
    → (common_denominator left * common_denominator right < 2 ^ 127 → 2 ^ 127 ≤ absolute_sum (common_denominator left) left * absolute_sum (common_denominator right) right)
    → 2 ^ 127 ≤ list_weight left * list_weight right
weights-large left right is also h =
    by (absolute_sum (common_denominator left) left) (absolute_sum (common_denominator right) right) (common_denominator left) (common_denominator right)
    (least-denominators left is).positive (least-denominators right also).positive h
  where
    both : (m n a b : ℕ) → 1 ≤ m → 1 ≤ n → a ≤ m → b ≤ n → (1 ≤ m * n) × (a * b ≤ m * n)
    both m n a b h k p q =
        let x = mul-le-mul_left m k in
        let y = mul-le-mul_left m q in
        let z = mul-le-mul_left b p in
        (omega arith, omega arith)

    by : (a b d e : ℕ) → 0 < d → 0 < e → (d * e < 2 ^ 127 → 2 ^ 127 ≤ a * b) → 2 ^ 127 ≤ (max 1 a * d) * (max 1 b * e)
    by a b d e p q h =
        let m = both (max 1 a) (max 1 b) a b (omega arith) (omega arith) (omega arith) (omega arith) in
        let one : 1 ≤ d * e = mul-pos p q in
        let all : (max 1 a * d) * (max 1 b * e) ≡ (max 1 a * max 1 b) * (d * e) = omega arith in
        let n = both (max 1 a * max 1 b) (d * e) (a * b) 1 m.0 one m.1 one in
        let o = both (max 1 a * max 1 b) (d * e) 1 (d * e) m.0 one m.0 (omega arith) in
        let x = n.1 in
        let y = o.1 in
        elim (cases_lt (d * e) (2 ^ 127)) [ inl l ↦ (let g = h l in omega arith) | inr l ↦ omega arith ]

-- ---- a list of monomials as a polynomial divided by a common denominator

cross : (d q r : ℕ) → r ∣ d → r ∣ q → d * (q / r) ≡ q * (d / r)
cross d q r h k =
    let a = div-mul_cancel r h in
    let b = div-mul_cancel r k in
    by (d / r) (q / r) a b
  where
    by : (a b : ℕ) → a * r ≡ d → b * r ≡ q → d * b ≡ q * a
    by a b e f = ap (λ n. n * b) (sym e) ∙ (let s : (a * r) * b ≡ (b * r) * a = omega arith in s) ∙ ap (λ n. n * a) f

exchanged : (x : ℤ) (d a q b : ℕ) → d * a ≡ q * b → pos d *ℤ (x *ℤ pos a) ≡ pos q *ℤ (x *ℤ pos b)
exchanged x d a q b e = product_left_comm (pos d) x (pos a) ∙ ap (λ n. x *ℤ pos n) e ∙ sym (product_left_comm (pos q) x (pos b))

pub two_denominators : (d q : ℕ) (ψ : List ℕ → ℤ) (terms : Terms (List ℕ)) → ((t : List ℕ × Fraction) → Among t terms → t.1.1 ∣ d) → ((t : List ℕ × Fraction) → Among t terms → t.1.1 ∣ q)
    → pos d *ℤ pair (over q terms) ψ ≡ pos q *ℤ pair (over d terms) ψ
two_denominators d q ψ terms h k =
    ap (λ z. pos d *ℤ z) (over_sum q ψ terms)
    ∙ sym (total_scale (pos d) (λ (t : List ℕ × Fraction). scaled q t.1 *ℤ ψ t.0) terms)
    ∙ total_among (λ (t : List ℕ × Fraction). pos d *ℤ (scaled q t.1 *ℤ ψ t.0)) (λ (t : List ℕ × Fraction). pos q *ℤ (scaled d t.1 *ℤ ψ t.0)) terms
    (λ t m.
    sym (product_assoc (pos d) (scaled q t.1) (ψ t.0))
    ∙ ap (λ z. z *ℤ ψ t.0) (exchanged t.1.0 d (q / t.1.1) q (d / t.1.1) (cross d q t.1.1 (h t m) (k t m)))
    ∙ product_assoc (pos q) (scaled d t.1) (ψ t.0))
    ∙ total_scale (pos q) (λ (t : List ℕ × Fraction). scaled d t.1 *ℤ ψ t.0) terms
    ∙ ap (λ z. pos q *ℤ z) (sym (over_sum d ψ terms))

pub represents : (terms : Terms (List ℕ)) (d n : ℕ) (f : Poly) → IsPolynomialTable terms
    → AreCleared (pointwise nat_eq) d terms
    → ((φ : List ℕ → ℤ) → pair (over d terms) (restricted_test n φ) ≡ pair f φ)
    → Represents (λ e. x_to_in e n) terms f d
represents terms d n f is clear sums =
    let q = denominators terms in
    let common = common-denominators terms is in
    record {
      positive = common.positive;
      equal =
          same_from_pair (scale (pos d) (value_in terms n)) (scale (pos q) f) (λ φ.
          pair_scale (pos d) (value_in terms n) φ
          ∙ ap (λ z. pos d *ℤ z) (pair_cleared n q terms φ)
          ∙ two_denominators d q (restricted_test n φ) terms (λ t m. subst (λ (c : Fraction). c.1 ∣ d) (found_at terms is t m) (clear t.0)) common.multiple
          ∙ ap (λ z. pos q *ℤ z) (sums φ)
          ∙ sym (pair_scale (pos q) f φ));
    }

-- ---- the product of two polynomials that are given as lists of terms

row_value : (n : ℕ) (terms : Terms (List ℕ)) (φ : List ℕ → ℤ) (e : List ℕ)
    → restricted_test n (λ α. pair (value_in terms n) (λ β. φ (join α β))) e ≡ pair (over (denominators terms) terms) (λ β. restricted_test n φ (join e β))
row_value n terms φ e = by (fits_in n e) refl
  where
    list : WholeTerms
    list = over (denominators terms) terms

    at : (b c : Bool) (u : List ℕ) → (b && c) ≡ c → cond c (φ (join (resize n e) (resize n u))) (pos 0) ≡ cond (b && c) (φ (resize n (join e u))) (pos 0)
    at b c u h = ap (λ x. cond c (φ x) (pos 0)) (sym (resize-join n e u)) ∙ ap (λ x. cond x (φ (resize n (join e u))) (pos 0)) (sym h)

    by : (b : Bool) → fits_in n e ≡ b → cond b (pair (value_in terms n) (λ β. φ (join (resize n e) β))) (pos 0) ≡ pair list (λ β. restricted_test n φ (join e β))
    by true f =
        pair_cleared n (denominators terms) terms (λ β. φ (join (resize n e) β))
        ∙ pair_ext list (restricted_test n (λ β. φ (join (resize n e) β))) (λ β. restricted_test n φ (join e β))
        (λ u. at (fits_in n e) (fits_in n u) u (ap (λ b. b && fits_in n u) f) ∙ ap (λ b. cond b (φ (resize n (join e u))) (pos 0)) (sym (fits_in-join n e u)))
    by false f =
        sym (total_zero list)
        ∙ total_ext (λ (t : List ℕ × ℤ). pos 0) (λ (t : List ℕ × ℤ). t.1 *ℤ restricted_test n φ (join e t.0))
        (λ t. sym (*ℤ-zero t.1) ∙ ap (λ b. t.1 *ℤ cond b (φ (resize n (join e t.0))) (pos 0)) (sym (fits_in-join n e t.0 ∙ ap (λ b. b && fits_in n t.0) f)))
        list

pub product_value : (n : ℕ) (left right : Terms (List ℕ)) (φ : List ℕ → ℤ)
    → pair (times (over (denominators left) left) (over (denominators right) right)) (restricted_test n φ) ≡ pair (times (value_in left n) (value_in right n)) φ
product_value n left right φ =
    let f = over (denominators left) left in
    let g = over (denominators right) right in
    let ψ : List ℕ → ℤ = λ α. pair (value_in right n) (λ β. φ (join α β)) in
    pair_times f g (restricted_test n φ)
    ∙ sym
    (pair_times (value_in left n) (value_in right n) φ ∙ pair_cleared n (denominators left) left ψ
    ∙ pair_ext f (restricted_test n ψ) (λ α. pair g (λ β. restricted_test n φ (join α β))) (row_value n right φ))

pub variable_value : (n r : ℕ) (terms : Terms (List ℕ)) (φ : List ℕ → ℤ)
    → pair (times_variable r (over (denominators terms) terms)) (restricted_test n φ) ≡ pair (times (variable_in r n) (value_in terms n)) φ
variable_value n r terms φ =
    let f = over (denominators terms) terms in
    let x = replicate (r - 1) 0 ++ (1 ∷ []) in
    total_map (λ (t : List ℕ × ℤ). t.1 *ℤ restricted_test n φ t.0) (λ (t : List ℕ × ℤ). (raised r t.0, t.1)) f
    ∙ sym
    (pair_times (variable_in r n) (value_in terms n) φ
    ∙ pair_x_to_in n x (λ α. pair (value_in terms n) (λ β. φ (join α β)))
    ∙ row_value n terms φ x
    ∙ pair_ext f (λ β. restricted_test n φ (join x β)) (λ e. restricted_test n φ (raised r e)) (λ e. ap (restricted_test n φ) (join_comm x e)))

pub represents_nothing : (n d : ℕ) (left right product : Terms (List ℕ)) → product ≡ [] → length right ≡ 0
    → Represents (λ e. x_to_in e n) product (times (value_in left n) (value_in right n)) d
represents_nothing n d left (t ∷ right) product e h = absurd (omega arith)
represents_nothing n d left [] product e h =
    let f = value_in left n in
    subst (λ (l : Terms (List ℕ)). Represents (λ e. x_to_in e n) l (times f []) d) (sym e)
    (record { positive = omega arith; equal = λ α. sym (ap (λ g. coefficient (scale (pos 1) g) α) (times_nothing f)) })

mass_row : (s : Term) (g : WholeTerms) → mass (map (λ (t : Term). (join s.0 t.0, s.1 *ℤ t.1)) g) ≡ nat_abs s.1 * mass g
mass_row s [] = omega arith
mass_row s (t ∷ g) =
    let h = mass_row s g in
    let p = nat_abs-product s.1 t.1 in
    let d : nat_abs s.1 * (nat_abs t.1 + mass g) ≡ nat_abs s.1 * nat_abs t.1 + nat_abs s.1 * mass g = omega arith in
    omega arith

mass_times : (f g : Poly) → mass (times f g) ≡ mass f * mass g
mass_times [] g = omega arith
mass_times (s ∷ f) g =
    let a = mass_append (map (λ (t : Term). (join s.0 t.0, s.1 *ℤ t.1)) g) (times f g) in
    let b = mass_row s g in
    let c = mass_times f g in
    let d : (nat_abs s.1 + mass f) * mass g ≡ nat_abs s.1 * mass g + mass f * mass g = omega arith in
    omega arith

pub product_overflows : (d e : ℕ) (left right : Terms (List ℕ))
    → OverflowsCleared (pointwise nat_eq) (d * e) [] (times (over d left) (over e right))
    → 2 ^ 127 ≤ absolute_sum d left * absolute_sum e right
product_overflows d e left right o =
    let l = overflow_mass (pointwise nat_eq) [] (times (over d left) (over e right)) o in
    let p = mass_times (over d left) (over e right) in
    let q = ap₂ (λ a b. a * b) (mass_over d left) (mass_over e right) in
    omega arith
