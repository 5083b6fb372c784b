-- The values of numbers, negations and products in expressions that are expanded in the basis e, h or p. A value is a list of terms in this basis, a
-- denominator and a degree. For an expression t of degree d, the absolute values of the coefficients of the list add up to at most `numerator t`
-- times `grown d`, which is d!·(2d)^d.
use Rattle.std.proofs.Common.{◌≡◌, ℕ, ◌+◌, ◌*◌, ◌^◌, ◌≤◌, max, [], ◌∷◌, sym, ◌∙◌, ap, ap₂, refl, arith, ℤ, pos, negsuc, ◌*ℤ◌, ◌+ℤ◌}
use Rattle.std.specs.Prelude.{nat_abs}
use Rattle.std.proofs.lemmas.Int.{ints}
use Rattle.std.proofs.lemmas.Nat.{mul-le}
use Rattle.sym_model.specs.Polynomial.{Poly, In, Same, scale, one, pair}
use Rattle.sym_model.specs.Expansion.{Basis}
use Rattle.sym_model.specs.Expression.{Tree, number, fraction, negation, product, degree, denominator, cleared_value}
use Rattle.sym_model.specs.Weight.{factorial, numerator, weight}
use Rattle.sym_model.specs.WholeTerms.{absolute_total}
use Rattle.sym_model.proofs.Numbers.{times-more}
use Rattle.sym_model.proofs.Polynomials.{pair_scale}
use Rattle.monomial_laws.specs.ExpressionTerms.{HasDenominators}
use Rattle.monomial_laws.proofs.WeightBounds.{denominator-positive, numerator-positive}
use Rattle.sparse_polys.specs.MonomialProducts.{greatest_size}
use Rattle.linear_combinations.specs.Gains.{Gains, Overflows}
use Rattle.linear_combinations.proofs.Found.{gains_same}
use Rattle.sparse_polys.specs.Large.{HasLarge}
use Rattle.sparse_polys.specs.Tables.{equal}
use Rattle.monomial_laws.proofs.Growths.{factorial-positive}
use Rattle.expand_in_families.specs.declared.node.Node.{Node}
use Rattle.basis_change_laws.specs.JoinedLists.{joined, IsLow, Stands}
use Rattle.expand_in_families.specs.Nodes.{ClearsTo}
use Rattle.basis_change_laws.proofs.JoinedLists.{absolute-scale, stands-product, stands-scale, stands-same}
use Rattle.basis_change_laws.proofs.GrowthBounds.{grown, grown-product, factorial-within}
use Rattle.family_lists.proofs.Totals.{coefficient-few}
use Rattle.family_lists.proofs.PartLists.{one_label}
use Rattle.family_lists.proofs.RowSteps.{large-products}
use Rattle.family_lists.proofs.TableLists.{stands-greatest, table-stands}
use native.Mathlib.Nat.{mul-le-mul_left, mul-le-mul_right}
use Rattle.std.proofs.Math.Nat.{mul_assoc}
use Rattle.basis_expand.proofs.Conversions.{minus_once}

pub growth-within_weight : (e : Tree) → HasDenominators e → numerator e * grown (degree e) ≤ weight Basis.completes e
growth-within_weight e h = mul-le (numerator e) (grown (degree e)) (numerator e * denominator e) (grown (degree e)) (times-more (numerator e) (denominator e) (denominator-positive e h)) (omega arith)

-- if the denominators in e are positive, then the denominator of e times the factorial of the degree of e is at most the weight of e for the target
-- basis h
pub denominator-within_weight : (e : Tree) → HasDenominators e → denominator e * factorial (degree e) ≤ weight Basis.completes e
denominator-within_weight e h =
    let p : 1 * denominator e ≤ numerator e * denominator e = mul-le-mul_right (denominator e) (numerator-positive e h) in
    mul-le (denominator e) (factorial (degree e)) (numerator e * denominator e) (grown (degree e)) (omega arith) (factorial-within (degree e))

stands-number : (P : ℕ → ℕ → Poly) (a : ℕ) → Stands P 1 (max 1 a * 1) 0 (λ n. scale (pos a) (one n)) (([], pos a) ∷ [])
stands-number P a = record {
  value = λ n φ. closing (pos a) (pair (one n) φ) (pair (scale (pos a) (one n)) φ) (pair_scale (pos a) (one n) φ);
  few = omega arith;
  labels = one_label (IsLow 0) [] (pos a) (record { partition = record { falls = tt; positive = tt }; low = omega arith });
}
  where
    closing : (a x y : ℤ) → y ≡ a *ℤ x → a *ℤ x +ℤ pos 0 ≡ pos 1 *ℤ y
    closing a x y e = omega (arith, ints)

pub clears-number : (P : ℕ → ℕ → Poly) (a : ℕ) (c : Node) → c.den ≡ 1 → c.degree ≡ 0 → Same c.terms (([], pos a) ∷ []) → ClearsTo P (number a) c
clears-number P a c d g h = record { den_is = d; degree_is = g; stands = table-stands c.terms (([], pos a) ∷ []) c.table h P 1 (max 1 a * 1) 0 (cleared_value (number a)) (stands-number P a) }

pub clears-fraction : (P : ℕ → ℕ → Poly) (a b : ℕ) (c : Node) → c.den ≡ b → c.degree ≡ 0 → Same c.terms (([], pos a) ∷ []) → ClearsTo P (fraction a b) c
clears-fraction P a b c d g h = record { den_is = d; degree_is = g; stands = table-stands c.terms (([], pos a) ∷ []) c.table h P 1 (max 1 a * 1) 0 (cleared_value (fraction a b)) (stands-number P a) }

pub clears-negation : (P : ℕ → ℕ → Poly) (e : Tree) (c d : Node) → d.den ≡ c.den → d.degree ≡ c.degree → Same d.terms (scale (negsuc 0) c.terms) → ClearsTo P e c → ClearsTo P (negation e) d
clears-negation P e c d i j h k =
    let N = numerator e * grown (degree e) in
    record {
      den_is = i ∙ k.den_is;
      degree_is = j ∙ k.degree_is;
      stands =
          table-stands d.terms (scale (negsuc 0) c.terms) d.table h P (factorial (degree e)) (numerator e * grown (degree e)) (degree e) (cleared_value (negation e))
          (stands-same P (factorial (degree e)) (numerator e * grown (degree e)) (degree e) (λ n. scale (negsuc 0) (cleared_value e n)) (cleared_value (negation e)) (scale (negsuc 0) c.terms) (λ n. minus_once (cleared_value e n))
          (stands-scale P (factorial (degree e)) (numerator e * grown (degree e)) (numerator e * grown (degree e)) (degree e) (negsuc 0) (cleared_value e) c.terms k.stands
          (let u : nat_abs (negsuc 0) ≡ 1 = refl in let v : 1 * (numerator e * grown (degree e)) ≡ numerator e * grown (degree e) = omega arith in omega arith)));
    }

pub large-negation : (P : ℕ → ℕ → Poly) (e : Tree) (c : Node) → HasDenominators e → ClearsTo P e c → HasLarge (scale (negsuc 0) c.terms) → 2 ^ 127 ≤ weight Basis.completes (negation e)
large-negation P e c d h l =
    let a = coefficient-few (scale (negsuc 0) c.terms) l.label in
    let b = absolute-scale (negsuc 0) c.terms in
    let s = h.stands.few in
    let w = growth-within_weight e d in
    let g = l.large in
    let u : nat_abs (negsuc 0) ≡ 1 = refl in
    let v : 1 * absolute_total c.terms ≡ absolute_total c.terms = omega arith in
    omega arith

-- ---- the value of a product

pub node-greatest : (P : ℕ → ℕ → Poly) (e : Tree) (c : Node) → ClearsTo P e c → greatest_size c.terms ≤ degree e
node-greatest P e c h = stands-greatest P (factorial (degree e)) (numerator e * grown (degree e)) (degree e) (cleared_value e) c.terms h.stands

joined-bound : (e f : Tree) (k : ℕ) → k * (factorial (degree e) * factorial (degree f)) ≡ factorial (degree e + degree f)
    → k * ((numerator e * grown (degree e)) * (numerator f * grown (degree f))) ≤ (numerator e * numerator f) * grown (degree e + degree f)
joined-bound e f k h =
    let g = mul-le-mul_left (numerator e * numerator f) (grown-product (degree e) (degree f) k h) in
    let r = regroup k (numerator e) (grown (degree e)) (numerator f) (grown (degree f)) in
    omega arith
  where
    regroup : (k n b m c : ℕ) → k * ((n * b) * (m * c)) ≡ (n * m) * (k * (b * c))
    regroup k n b m c = omega arith

pub clears-product : (P : ℕ → ℕ → Poly) → ((n k : ℕ) → In n (P k n)) → (e f : Tree) (c d s : Node) (k : ℕ) → s.den ≡ c.den * d.den → s.degree ≡ c.degree + d.degree
    → k * (factorial c.degree * factorial d.degree) ≡ factorial (c.degree + d.degree) → Gains [] (joined (scale (pos k) c.terms) d.terms) s.terms
    → ClearsTo P e c → ClearsTo P f d → ClearsTo P (product e f) s
clears-product P places e f c d s k m g w h i j =
    let x = i.degree_is in
    let y = j.degree_is in
    let v : k * (factorial (degree e) * factorial (degree f)) ≡ factorial (degree e + degree f) = sym (ap₂ (λ p q. k * (factorial p * factorial q)) x y) ∙ w ∙ ap₂ (λ p q. factorial (p + q)) x y in
    record {
      den_is = m ∙ ap₂ ◌*◌ i.den_is j.den_is;
      degree_is = g ∙ ap₂ ◌+◌ x y;
      stands =
          table-stands s.terms (joined (scale (pos k) c.terms) d.terms) s.table (gains_same [] (joined (scale (pos k) c.terms) d.terms) s.terms h) P (factorial (degree e + degree f)) ((numerator e * numerator f) * grown (degree e + degree f)) (degree e + degree f) (cleared_value (product e f))
          (stands-product P places (factorial (degree e)) (numerator e * grown (degree e)) (degree e) (factorial (degree f)) (numerator f * grown (degree f)) (degree f) (factorial (degree e + degree f))
          ((numerator e * numerator f) * grown (degree e + degree f)) k (cleared_value e) (cleared_value f) c.terms d.terms i.stands j.stands v (joined-bound e f k v));
    }

pub large-product : (P : ℕ → ℕ → Poly) (e f : Tree) (c d : Node) (k : ℕ) (z : ℤ) → HasDenominators e → HasDenominators f → z ≡ pos k → k * (factorial c.degree * factorial d.degree) ≡ factorial (c.degree + d.degree)
    → ClearsTo P e c → ClearsTo P f d
    → Overflows equal [] (joined (scale z c.terms) d.terms)
    → 2 ^ 127 ≤ weight Basis.completes (product e f)
large-product P e f c d k z he hf zk w i j large =
    let x = i.degree_is in
    let y = j.degree_is in
    let v : k * (factorial (degree e) * factorial (degree f)) ≡ factorial (degree e + degree f) = sym (ap₂ (λ p q. k * (factorial p * factorial q)) x y) ∙ w ∙ ap₂ (λ p q. factorial (p + q)) x y in
    let l = large-products [] z c.terms d.terms (numerator f * grown (degree f)) large j.stands.few in
    let b = joined-bound e f k v in
    let a = i.stands.few in
    let q = growth-within_weight (product e f) (he, hf) in
    let u = ap nat_abs zk in
    let t : k * absolute_total c.terms ≤ k * (numerator e * grown (degree e)) = mul-le-mul_left k a in
    let r : k * absolute_total c.terms * (numerator f * grown (degree f)) ≤ k * (numerator e * grown (degree e)) * (numerator f * grown (degree f)) = mul-le-mul_right (numerator f * grown (degree f)) t in
    let n : nat_abs z * absolute_total c.terms * (numerator f * grown (degree f)) ≡ k * absolute_total c.terms * (numerator f * grown (degree f)) = ap (λ p. p * absolute_total c.terms * (numerator f * grown (degree f))) u in
    let o = mul_assoc k (numerator e * grown (degree e)) (numerator f * grown (degree f)) in
    omega arith

pub large-product_denominator : (P : ℕ → ℕ → Poly) (e f : Tree) (c d : Node) → HasDenominators e → HasDenominators f → ClearsTo P e c → ClearsTo P f d → 2 ^ 127 ≤ c.den * d.den → 2 ^ 127 ≤ weight Basis.completes (product e f)
large-product_denominator P e f c d i j h k l =
    let w = denominator-within_weight (product e f) (i, j) in
    let t = times-more (denominator e * denominator f) (factorial (degree e + degree f)) (factorial-positive (degree e + degree f)) in
    let same : c.den * d.den ≡ denominator e * denominator f = ap₂ ◌*◌ h.den_is k.den_is in
    omega arith
