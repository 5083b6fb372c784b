-- The values in m of the nodes of an expression, which are its subexpressions. Each value is a list with integer coefficients and a denominator.
--     converted-number .. -product    the list of a node is the node's expression times the node's denominator
--     large-negation .. -product      if `Large` is returned for a node, its weight is 2^127 or more
use Rattle.std.proofs.Common.{◌≡◌, ℕ, ◌*◌, ◌/◌, ◌^◌, ◌≤◌, max, List, [], ◌∷◌, sym, ◌∙◌, ap₂, subst, inl, inr, arith, ℤ, pos, negsuc, rules}
use Rattle.std.specs.Prelude.{nat_abs}
use Rattle.std.proofs.lemmas.Int.{ints}
use Rattle.std.proofs.lemmas.Nat.{mul-le}
use Rattle.sym_model.specs.Sum.{Once}
use Rattle.sym_model.specs.Partition.{IsPartition}
use Rattle.sym_model.specs.Polynomial.{Same, coefficient, negate, plus, scale}
use Rattle.sym_model.specs.Expansion.{Basis}
use Rattle.sym_model.specs.Expression.{Tree, number, fraction, negation, sum, product, degree, lcm, denominator, cleared_value}
use Rattle.sym_model.specs.Weight.{growth, numerator, weight}
use Rattle.sym_model.specs.WholeTerms.{WholeTerms, labels}
use Rattle.sym_model.proofs.Polynomials.{coefficient_scale, coefficient_negate, Same_sym, Same_trans}
use Rattle.monomial_laws.specs.ExpressionTerms.{IsCleared, HasDenominators}
use Rattle.monomial_laws.specs.MonomialProduct.{product_coefficient}
use Rattle.monomial_laws.proofs.ExpressionTerms.{list_respects, cleared-number, cleared-fraction, cleared-negation, cleared-sum, cleared-product, scaled}
use Rattle.monomial_laws.proofs.Majorants.{bounded_value, bounded-scale, bounded_respects}
use Rattle.monomial_laws.proofs.WeightBounds.{product_within_growth, growth-mono, growth-within_weight, denominator-within_weight}
use Rattle.basis_expand.specs.declared.cleared.Cleared.{Cleared}
use Rattle.basis_expand.specs.Clearing.{ClearsTo}
use Rattle.sparse_polys.specs.Large.{HasLarge, SumIsLarge, ProductIsLarge}
use Rattle.sparse_polys.proofs.Bounds.{coefficient-within, past-weight}
use Rattle.sym_model.proofs.Integers.{neg_one-product}
use Rattle.std.proofs.Math.Nat.{le_trans}

pub converted-number : (a : ℕ) (c : Cleared) → c.den ≡ 1 → Same c.terms (([], pos a) ∷ []) → ClearsTo (number a) c
converted-number a c d h = record {
  den_is = d;
  value = list_respects (([], pos a) ∷ []) c.terms (cleared_value (number a)) (Same_sym c.terms (([], pos a) ∷ []) h) (cleared-number a);
}

pub converted-fraction : (a b : ℕ) (c : Cleared) → c.den ≡ b → Same c.terms (([], pos a) ∷ []) → ClearsTo (fraction a b) c
converted-fraction a b c d h = record {
  den_is = d;
  value = list_respects (([], pos a) ∷ []) c.terms (cleared_value (fraction a b)) (Same_sym c.terms (([], pos a) ∷ []) h) (cleared-fraction a b);
}

pub minus_once : (W : WholeTerms) → Same (scale (negsuc 0) W) (negate W)
minus_once W label = coefficient_scale (negsuc 0) W label ∙ neg_one-product (coefficient W label) ∙ sym (coefficient_negate W label)

pub converted-negation : (e : Tree) (c d : Cleared) → d.den ≡ c.den → Same d.terms (scale (negsuc 0) c.terms) → ClearsTo e c → ClearsTo (negation e) d
converted-negation e c d i h k = record {
  den_is = i ∙ k.den_is;
  value =
      list_respects (negate c.terms) d.terms (cleared_value (negation e))
      (Same_sym d.terms (negate c.terms) (Same_trans d.terms (scale (negsuc 0) c.terms) (negate c.terms) h (minus_once c.terms)))
      (cleared-negation c.terms e k.value);
}

multiples : (e f : Tree) (c d : Cleared) (p q : ℤ) → p ≡ pos (lcm c.den d.den / c.den) → q ≡ pos (lcm c.den d.den / d.den) → ClearsTo e c → ClearsTo f d
    → IsCleared (plus (scale p c.terms) (scale q d.terms)) (sum e f)
multiples e f c d p q i j h k =
    subst (λ z. IsCleared (plus (scale z c.terms) (scale q d.terms)) (sum e f))
    (ap₂ (λ (x y : ℕ). pos (lcm x y / x)) (sym h.den_is) (sym k.den_is) ∙ sym i)
    (subst (λ z. IsCleared (plus (scale (pos (lcm (denominator e) (denominator f) / denominator e)) c.terms) (scale z d.terms)) (sum e f))
    (ap₂ (λ (x y : ℕ). pos (lcm x y / y)) (sym h.den_is) (sym k.den_is) ∙ sym j)
    (cleared-sum c.terms d.terms e f h.value k.value))

pub converted-sum : (e f : Tree) (c d s : Cleared) (p q : ℤ) → p ≡ pos (lcm c.den d.den / c.den) → q ≡ pos (lcm c.den d.den / d.den) → s.den ≡ lcm c.den d.den
    → Same s.terms (plus (scale p c.terms) (scale q d.terms)) → ClearsTo e c → ClearsTo f d → ClearsTo (sum e f) s
converted-sum e f c d s p q i j m w h k = record {
  den_is = m ∙ ap₂ (λ (x y : ℕ). lcm x y) h.den_is k.den_is;
  value =
      list_respects (plus (scale p c.terms) (scale q d.terms)) s.terms (cleared_value (sum e f))
      (Same_sym s.terms (plus (scale p c.terms) (scale q d.terms)) w)
      (multiples e f c d p q i j h k);
}

pub converted-product : (e f : Tree) (c d s : Cleared) → s.den ≡ c.den * d.den
    → ((ν : List ℕ) → IsPartition ν → coefficient s.terms ν ≡ product_coefficient c.terms d.terms ν)
    → ClearsTo e c → ClearsTo f d → ClearsTo (product e f) s
converted-product e f c d s m w h k = search (rules, cleared-product)

pub large-negation : (e : Tree) (c : Cleared) → HasDenominators e → ClearsTo e c → HasLarge (scale (negsuc 0) c.terms) → 2 ^ 127 ≤ weight Basis.monomials (negation e)
large-negation e c d h l =
    past-weight (negation e) (scale (negsuc 0) c.terms) d
    (list_respects (negate c.terms) (scale (negsuc 0) c.terms) (cleared_value (negation e))
    (Same_sym (scale (negsuc 0) c.terms) (negate c.terms) (minus_once c.terms))
    (cleared-negation c.terms e h.value))
    l.label l.partition l.large

four : (a b c d : ℕ) → a ≤ b → b ≡ c → c ≤ d → a ≤ d
four a b c d h k l = omega arith

pub large-sum_denominator : (e f : Tree) (c d : Cleared) → HasDenominators e → HasDenominators f → ClearsTo e c → ClearsTo f d → 2 ^ 127 ≤ lcm c.den d.den → 2 ^ 127 ≤ weight Basis.monomials (sum e f)
large-sum_denominator e f c d i j h k l =
    let w = denominator-within_weight (sum e f) (i, j) in
    let same : lcm c.den d.den ≡ lcm (denominator e) (denominator f) = ap₂ (λ (x y : ℕ). lcm x y) h.den_is k.den_is in
    four (2 ^ 127) (lcm c.den d.den) (lcm (denominator e) (denominator f)) (weight Basis.monomials (sum e f)) l same w

pub large-product_denominator : (e f : Tree) (c d : Cleared) → HasDenominators e → HasDenominators f → ClearsTo e c → ClearsTo f d → 2 ^ 127 ≤ c.den * d.den → 2 ^ 127 ≤ weight Basis.monomials (product e f)
large-product_denominator e f c d i j h k l =
    let w = denominator-within_weight (product e f) (i, j) in
    let same : c.den * d.den ≡ denominator e * denominator f = ap₂ ◌*◌ h.den_is k.den_is in
    four (2 ^ 127) (c.den * d.den) (denominator e * denominator f) (weight Basis.monomials (product e f)) l same w

pub large-product : (e f : Tree) (A B : WholeTerms) → HasDenominators e → HasDenominators f → Once (labels A) → Once (labels B) → IsCleared A e → IsCleared B f
    → ProductIsLarge A B → 2 ^ 127 ≤ weight Basis.monomials (product e f)
large-product e f A B i j o p h k (ν, is, l) =
    let within =
    product_within_growth (numerator e) (numerator f) (degree e) (degree f) A B o p
    (λ n. bounded_respects (numerator e) (degree e) n (cleared_value e n) _ (Same_sym _ (cleared_value e n) (h n)) (bounded_value e n))
    (λ n. bounded_respects (numerator f) (degree f) n (cleared_value f n) _ (Same_sym _ (cleared_value f n) (k n)) (bounded_value f n)) ν in
    let w = growth-within_weight (product e f) (i, j) in
    omega (arith, ints)

multiple-within : (e : Tree) (q N d : ℕ) (A : WholeTerms) → IsCleared A e → numerator e * q ≤ N → degree e ≤ d → (l : HasLarge (scale (pos q) A)) → 2 ^ 127 ≤ N * growth Basis.monomials d
multiple-within e q N d A h n g l =
    let within =
    coefficient-within (numerator e * q) (degree e) (scale (pos q) A) (λ k. scale (pos q) (cleared_value e k)) (scaled q A e h)
    (λ k. bounded-scale (numerator e) (degree e) q k (cleared_value e k) (bounded_value e k)) l.label l.partition in
    let grown = mul-le (numerator e * q) (growth Basis.monomials (degree e)) N (growth Basis.monomials d) n (growth-mono (degree e) d g) in
    let large = l.large in
    four (2 ^ 127) (nat_abs (coefficient (scale (pos q) A) l.label)) (numerator e * q * growth Basis.monomials (degree e)) (N * growth Basis.monomials d) large within grown
  where
    four : (a b c d : ℕ) → a ≤ b → b ≤ c → c ≤ d → a ≤ d
    four a b c d h k l = omega arith

pub large-sum : (e f : Tree) (c d : Cleared) (p q : ℤ) → HasDenominators e → HasDenominators f → p ≡ pos (lcm c.den d.den / c.den) → q ≡ pos (lcm c.den d.den / d.den) → ClearsTo e c → ClearsTo f d
    → SumIsLarge c.terms d.terms p q → 2 ^ 127 ≤ weight Basis.monomials (sum e f)
large-sum e f c d p q i j u v h k (inl l) =
    let r = lcm (denominator e) (denominator f) / denominator e in
    let is : p ≡ pos (lcm (denominator e) (denominator f) / denominator e) = u ∙ ap₂ (λ (x y : ℕ). pos (lcm x y / x)) h.den_is k.den_is in
    let bound = multiple-within e (lcm (denominator e) (denominator f) / denominator e) (numerator (sum e f)) (max (degree e) (degree f)) c.terms h.value (omega arith) (omega arith)
    (subst (λ z. HasLarge (scale z c.terms)) is l) in
    le_trans {n = (2 ^ 127)} {m = (numerator (sum e f) * growth Basis.monomials (max (degree e) (degree f)))} {k = (weight Basis.monomials (sum e f))} bound (growth-within_weight (sum e f) (i, j))
large-sum e f c d p q i j u v h k (inr (inl l)) =
    let is : q ≡ pos (lcm (denominator e) (denominator f) / denominator f) = v ∙ ap₂ (λ (x y : ℕ). pos (lcm x y / y)) h.den_is k.den_is in
    let bound = multiple-within f (lcm (denominator e) (denominator f) / denominator f) (numerator (sum e f)) (max (degree e) (degree f)) d.terms k.value (omega arith) (omega arith)
    (subst (λ z. HasLarge (scale z d.terms)) is l) in
    le_trans {n = (2 ^ 127)} {m = (numerator (sum e f) * growth Basis.monomials (max (degree e) (degree f)))} {k = (weight Basis.monomials (sum e f))} bound (growth-within_weight (sum e f) (i, j))
large-sum e f c d p q i j u v h k (inr (inr l)) =
    past-weight (sum e f) (plus (scale p c.terms) (scale q d.terms)) (i, j) (multiples e f c d p q u v h k) l.label l.partition l.large

pub Same-sum_again : (S A B : WholeTerms) (p p' q q' : ℤ) → p ≡ p' → q ≡ q' → Same S (plus (scale p A) (scale q B)) → Same S (plus (scale p' A) (scale q' B))
Same-sum_again S A B p p' q q' e f h = subst (λ z. Same S (plus (scale z A) (scale q' B))) e (subst (λ z. Same S (plus (scale p A) (scale z B))) f h)

pub SumIsLarge-again : (A B : WholeTerms) (p p' q q' : ℤ) → p ≡ p' → q ≡ q' → SumIsLarge A B p q → SumIsLarge A B p' q'
SumIsLarge-again A B p p' q q' e f h = subst (λ z. SumIsLarge A B z q') e (subst (λ z. SumIsLarge A B p z) f h)
