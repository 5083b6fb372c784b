-- Expressions as lists of terms c·m_λ. A list is *the list of f in m* if the sum of its terms c·m_λ is f, in every number of variables. The
-- *cleared value* of an expression is its value times its common denominator; `IsCleared` says that a list is the list of the cleared value in m.
--     cleared-number .. cleared-product      the list of each kind of expression, computed from the lists of its subexpressions
use Rattle.std.proofs.Common.{◌≡◌, ℕ, ◌/◌, List, [], ◌∷◌, sym, ◌∙◌, ap, ℤ, pos, ◌+ℤ◌, ◌*ℤ◌, neg_ℤ, rules}
use Rattle.sym_model.specs.Polynomial.{Poly, coefficient, Same, one, pair, plus, scale, negate, times}
use Rattle.sym_model.specs.Partition.{IsPartition}
use Rattle.sym_model.specs.Bases.{monomial, product_over}
use Rattle.sym_model.specs.Expression.{Tree, number, fraction, negation, sum, product, lcm, denominator, cleared_value}
use Rattle.sym_model.specs.WholeTerms.{WholeTerms}
use Rattle.monomial_laws.specs.MonomialProduct.{product_coefficient}
use Rattle.monomial_laws.specs.ExpressionTerms.{in_monomials, IsList, IsCleared}
use Rattle.sym_model.proofs.Ring.{one-product}
use Rattle.sym_model.proofs.Polynomials.{pair_plus, pair_scale, pair_negate, pair_determined, same_from_pair, Same_sym, Same_trans, plus_respects, scale_respects, negate_respects, times_respects}
use Rattle.sym_model.proofs.WholeTerms.{pair-combined, combined_respects}
use Rattle.monomial_laws.proofs.PowerSumLists.{monomial-none}
use Rattle.monomial_laws.proofs.Splits.{terms_product}
use lib.IntN.{+ℤ_idr}

list-plus : (A B : WholeTerms) (n : ℕ) → Same (in_monomials (plus A B) n) (plus (in_monomials A n) (in_monomials B n))
list-plus A B n = search (rules, same_from_pair, pair-combined, pair_plus)

pub list-scale : (c : ℤ) (A : WholeTerms) (n : ℕ) → Same (in_monomials (scale c A) n) (scale c (in_monomials A n))
list-scale c A n = search (rules, same_from_pair, pair-combined, pair_scale)

list-negate : (A : WholeTerms) (n : ℕ) → Same (in_monomials (negate A) n) (negate (in_monomials A n))
list-negate A n = search (rules, same_from_pair, pair-combined, pair_negate, neg_ℤ)

pub list_respects : (A B : WholeTerms) (f : ℕ → Poly) → Same A B → IsList A f → IsList B f
list_respects A B f e h n =
    Same_trans (in_monomials B n) (in_monomials A n) (f n)
    (Same_sym (in_monomials A n) (in_monomials B n) (combined_respects (λ label. monomial label n) A B e))
    (h n)

-- ---- the list in the monomial basis m of each kind of expression

list-number : (a n : ℕ) → Same (in_monomials (([], pos a) ∷ []) n) (scale (pos a) (one n))
list-number a n =
    same_from_pair (in_monomials (([], pos a) ∷ []) n) (scale (pos a) (one n))
    (λ φ.
    pair-combined (λ label. monomial label n) (([], pos a) ∷ []) φ
    ∙ +ℤ_idr (pos a *ℤ pair (monomial [] n) φ)
    ∙ ap (λ z. pos a *ℤ z) (pair_determined (monomial [] n) (one n) φ (monomial-none n))
    ∙ sym (pair_scale (pos a) (one n) φ))

pub cleared-number : (a : ℕ) → IsCleared (([], pos a) ∷ []) (number a)
cleared-number a n = list-number a n

pub cleared-fraction : (a b : ℕ) → IsCleared (([], pos a) ∷ []) (fraction a b)
cleared-fraction a b n = list-number a n

pub cleared-negation : (A : WholeTerms) (e : Tree) → IsCleared A e → IsCleared (negate A) (negation e)
cleared-negation A e h n = search (rules, list-negate, negate_respects)

pub scaled : (q : ℕ) (A : WholeTerms) (e : Tree) → IsCleared A e → IsList (scale (pos q) A) (λ n. scale (pos q) (cleared_value e n))
scaled q A e h n = search (rules, list-scale, scale_respects)

-- let A and B be lists in the monomial basis m of the cleared values of e and f, and let q be the least common multiple of the denominators of e and
-- f. If A is multiplied by q/(denominator of e) and B by q/(denominator of f), the sum of the two lists is a list of the cleared value of e + f
pub cleared-sum : (A B : WholeTerms) (e f : Tree) → IsCleared A e → IsCleared B f
    → IsCleared (plus (scale (pos (lcm (denominator e) (denominator f) / denominator e)) A) (scale (pos (lcm (denominator e) (denominator f) / denominator f)) B)) (sum e f)
cleared-sum A B e f h k n =
    let q = lcm (denominator e) (denominator f) / denominator e in
    let r = lcm (denominator e) (denominator f) / denominator f in
    Same_trans
    (in_monomials (plus (scale (pos q) A) (scale (pos r) B)) n)
    (plus (in_monomials (scale (pos q) A) n) (in_monomials (scale (pos r) B) n))
    (plus (scale (pos q) (cleared_value e n)) (scale (pos r) (cleared_value f n)))
    (list-plus (scale (pos q) A) (scale (pos r) B) n)
    (plus_respects
    (in_monomials (scale (pos q) A) n) (scale (pos q) (cleared_value e n))
    (in_monomials (scale (pos r) B) n) (scale (pos r) (cleared_value f n))
    (scaled q A e h n) (scaled r B f k n))

-- if A and B are the lists of f and g in m, and C has at each partition ν the coefficient `product_coefficient A B ν`, then C is the list of f·g
pub list-product : (A B C : WholeTerms) (f g : ℕ → Poly) → IsList A f → IsList B g
    → ((ν : List ℕ) → IsPartition ν → coefficient C ν ≡ product_coefficient A B ν) → IsList C (λ n. times (f n) (g n))
list-product A B C f g h k e n =
    Same_trans (in_monomials C n) (times (in_monomials A n) (in_monomials B n)) (times (f n) (g n))
    (Same_sym (times (in_monomials A n) (in_monomials B n)) (in_monomials C n) (terms_product A B C e n))
    (times_respects (in_monomials A n) (f n) (in_monomials B n) (g n) (h n) (k n))

pub cleared-product : (A B C : WholeTerms) (e f : Tree) → IsCleared A e → IsCleared B f
    → ((ν : List ℕ) → IsPartition ν → coefficient C ν ≡ product_coefficient A B ν) → IsCleared C (product e f)
cleared-product A B C e f h k p = list-product A B C (cleared_value e) (cleared_value f) h k p

pub list-no_factor : (f : ℕ → ℕ → Poly) → IsList (([], pos 1) ∷ []) (product_over f [])
list-no_factor f n = search (rules, same_from_pair, pair_determined, list-number, pair_scale, one-product)

pub list-factor : (f : ℕ → ℕ → Poly) (k : ℕ) (parts : List ℕ) (A B C : WholeTerms) → IsList A (f k) → IsList B (product_over f parts)
    → ((ν : List ℕ) → IsPartition ν → coefficient C ν ≡ product_coefficient A B ν) → IsList C (product_over f (k ∷ parts))
list-factor f k parts A B C h i e = list-product A B C (f k) (product_over f parts) h i e

pub list-monomial : (parts : List ℕ) → IsList ((parts, pos 1) ∷ []) (monomial parts)
list-monomial parts n =
    same_from_pair (in_monomials ((parts, pos 1) ∷ []) n) (monomial parts n)
    (λ φ. pair-combined (λ label. monomial label n) ((parts, pos 1) ∷ []) φ ∙ +ℤ_idr (pos 1 *ℤ pair (monomial parts n) φ) ∙ one-product (pair (monomial parts n) φ))
