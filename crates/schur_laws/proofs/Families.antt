-- Families of symmetric polynomials: one polynomial for each number of variables (`IsSymmetricFamily`). The *cleared value* of an expression is the
-- polynomial that is its value times its common denominator.
--     family-one, -plus, -scale, -negate, -times, -basis     1, sums, multiples, negatives, products and basis polynomials are such families
--     family-value        the cleared values (`cleared_value`) of an expression are such a family
--     degree-value        the degree of the cleared value of an expression is at most the degree of the expression
--     expansions_agree    an expansion of an expression in d variables is one in every number of variables, if no degree exceeds d
use Rattle.std.proofs.Common.{ℕ, ◌/◌, ◌≤◌, inl, inr, true, ℤ, pos, neg_ℤ, List, [], ◌∷◌, length, ◌*ℤ◌, refl, ◌∙◌, ap, arith, rules}
use Rattle.std.proofs.lemmas.Bool.{cases_eq}
use Rattle.sym_model.specs.Polynomial.{Poly, Same, In, same, nothing, one, plus, scale, negate, times, restrict}
use Rattle.sym_model.specs.Partition.{IsPartition, size, sorted_parts}
use Rattle.sym_model.specs.Bases.{at_most_one, has, product_over, elementary_of, complete_of, power_sum_of}
use Rattle.sym_model.specs.Expansion.{Basis, elementaries, completes, power_sums, schurs, basis_polynomial, Terms, cleared, denominators, value, IsExpansionOf}
use Rattle.sym_model.specs.Expression.{Tree, number, fraction, atom, negation, sum, difference, product, degree, lcm, denominator, cleared_value}
use Rattle.sym_model.specs.WholeTerms.{HaveLabels, numerators}
use Rattle.sym_model.specs.Symmetric.{Symmetric}
use Rattle.sym_model.specs.Weight.{numerator}
use Rattle.sym_model.proofs.Polynomials.{pair_negate, pair_restrict, same_from_pair, Same_trans, plus_respects, scale_respects, negate_respects, times_respects, In_one, In_plus, In_scale, In_negate, In_times, coefficient_outside, coefficient_plus, coefficient_scale}
use Rattle.sym_model.proofs.PolynomialLaws.{restrict-plus, restrict-times, restrict-one, restrict-scale}
use Rattle.sym_model.proofs.Monomials.{In-monomials}
use Rattle.sym_model.proofs.SortedParts.{IsPartition-none}
use Rattle.sym_model.proofs.Restrictions.{restrict-monomial, restrict-elementary, restrict-complete, restrict-power_sum}
use Rattle.tableau_laws.proofs.FewerLetters.{restrict-skew_schur}
use Rattle.alternant_laws.proofs.TableauInvolution.{symmetric-skew_schur}
use Rattle.beta_list_laws.proofs.NeighbourExchanges.{has-exchange}
use Rattle.monomial_laws.proofs.Powers.{In-product_over}
use Rattle.monomial_laws.proofs.Majorants.{In-atom, In-cleared_value, bounded_value, coefficient-higher}
use Rattle.schur_laws.specs.SymmetricFamily.{IsSymmetricFamily, HasDegreeAtMost}
use Rattle.schur_laws.specs.PartitionAtoms.{HasPartitions}
use Rattle.schur_laws.proofs.FewVariables.{families_agree}
use Rattle.schur_laws.proofs.SymmetricPolynomials.{symmetric-monomials, sorts_to-exchange, at_most_one-exchange, symmetric-plus, symmetric-scale, symmetric-negate, symmetric-times, symmetric-one}
use lib.IntN.{*ℤ-zero}

pub family-one : IsSymmetricFamily one
family-one = record { variables = In_one; symmetric = symmetric-one; compatible = λ k n h. restrict-one k n }

pub family-plus : (f g : ℕ → Poly) → IsSymmetricFamily f → IsSymmetricFamily g → IsSymmetricFamily (λ n. plus (f n) (g n))
family-plus f g s t = record {
  variables = λ n. In_plus n (f n) (g n) (s.variables n) (t.variables n);
  symmetric = λ n. symmetric-plus (f n) (g n) (s.symmetric n) (t.symmetric n);
  compatible = λ k n h.
      Same_trans (restrict k (plus (f n) (g n))) (plus (restrict k (f n)) (restrict k (g n))) (plus (f k) (g k))
      (restrict-plus k (f n) (g n))
      (plus_respects (restrict k (f n)) (f k) (restrict k (g n)) (g k) (s.compatible k n h) (t.compatible k n h));
}

pub family-scale : (c : ℤ) (f : ℕ → Poly) → IsSymmetricFamily f → IsSymmetricFamily (λ n. scale c (f n))
family-scale c f s = record {
  variables = λ n. In_scale n c (f n) (s.variables n);
  symmetric = λ n. symmetric-scale c (f n) (s.symmetric n);
  compatible = λ k n h.
      Same_trans (restrict k (scale c (f n))) (scale c (restrict k (f n))) (scale c (f k))
      (restrict-scale k c (f n))
      (scale_respects c (restrict k (f n)) (f k) (s.compatible k n h));
}

restrict-negate : (k : ℕ) (f : Poly) → Same (restrict k (negate f)) (negate (restrict k f))
restrict-negate k f = search (rules, same_from_pair, pair_restrict, pair_negate, neg_ℤ)

pub family-negate : (f : ℕ → Poly) → IsSymmetricFamily f → IsSymmetricFamily (λ n. negate (f n))
family-negate f s = record {
  variables = λ n. In_negate n (f n) (s.variables n);
  symmetric = λ n. symmetric-negate (f n) (s.symmetric n);
  compatible = λ k n h.
      Same_trans (restrict k (negate (f n))) (negate (restrict k (f n))) (negate (f k))
      (restrict-negate k (f n))
      (negate_respects (restrict k (f n)) (f k) (s.compatible k n h));
}

pub family-times : (f g : ℕ → Poly) → IsSymmetricFamily f → IsSymmetricFamily g → IsSymmetricFamily (λ n. times (f n) (g n))
family-times f g s t = record {
  variables = λ n. In_times n (f n) (g n) (s.variables n) (t.variables n);
  symmetric = λ n. symmetric-times n (f n) (g n) (s.variables n) (t.variables n) (s.symmetric n) (t.symmetric n);
  compatible = λ k n h.
      Same_trans (restrict k (times (f n) (g n))) (times (restrict k (f n)) (restrict k (g n))) (times (f k) (g k))
      (restrict-times k (f n) (g n))
      (times_respects (restrict k (f n)) (f k) (restrict k (g n)) (g k) (s.compatible k n h) (t.compatible k n h));
}

-- ---- the basis polynomials are families of symmetric polynomials

symmetric-product_over : (f : ℕ → ℕ → Poly) (parts : List ℕ) (n : ℕ) → ((d : ℕ) → In n (f d n)) → ((d : ℕ) → Symmetric (f d n)) → Symmetric (product_over f parts n)
symmetric-product_over f [] n i s = symmetric-one n
symmetric-product_over f (d ∷ parts) n i s =
    symmetric-times n (f d n) (product_over f parts n) (i d) (In-product_over f parts n i) (s d) (symmetric-product_over f parts n i s)

symmetric-basis : (basis : Basis) (parts : List ℕ) (n : ℕ) → IsPartition parts → Symmetric (basis_polynomial basis parts n)
symmetric-basis Basis.monomials parts n p = symmetric-monomials (λ α. same (sorted_parts α) parts) n (size parts) (sorts_to-exchange parts)
symmetric-basis elementaries parts n p =
    symmetric-product_over elementary_of parts n (λ d. In-monomials at_most_one n d) (λ d. symmetric-monomials at_most_one n d at_most_one-exchange)
symmetric-basis completes parts n p =
    symmetric-product_over complete_of parts n (λ d. In-monomials (λ α. true) n d) (λ d. symmetric-monomials (λ α. true) n d (λ left a b right. refl))
symmetric-basis power_sums parts n p =
    symmetric-product_over power_sum_of parts n (λ d. In-monomials (has d) n d) (λ d. symmetric-monomials (has d) n d (has-exchange d))
symmetric-basis schurs parts n p = symmetric-skew_schur n parts [] p IsPartition-none

restrict-basis : (basis : Basis) (parts : List ℕ) (k n : ℕ) → k ≤ n → IsPartition parts → Same (restrict k (basis_polynomial basis parts n)) (basis_polynomial basis parts k)
restrict-basis Basis.monomials parts k n h p = restrict-monomial parts k n h
restrict-basis elementaries parts k n h p = restrict-elementary parts k n h
restrict-basis completes parts k n h p = restrict-complete parts k n h
restrict-basis power_sums parts k n h p = restrict-power_sum parts k n p.positive h
restrict-basis schurs parts k n h p = restrict-skew_schur parts [] k n h IsPartition-none

pub family-basis : (basis : Basis) (parts : List ℕ) → IsPartition parts → IsSymmetricFamily (basis_polynomial basis parts)
family-basis basis parts p = search (rules, In-atom, symmetric-basis, restrict-basis)

-- ---- the cleared values of expressions are families of symmetric polynomials

pub family-value : (e : Tree) → HasPartitions e → IsSymmetricFamily (cleared_value e)
family-value (number a) p = family-scale (pos a) one family-one
family-value (fraction a b) p = family-scale (pos a) one family-one
family-value (atom basis parts) p = family-basis basis parts p
family-value (negation e) p = family-negate (cleared_value e) (family-value e p)
family-value (sum e f) p =
    let q = lcm (denominator e) (denominator f) in
    family-plus (λ n. scale (pos (q / denominator e)) (cleared_value e n)) (λ n. scale (pos (q / denominator f)) (cleared_value f n))
    (family-scale (pos (q / denominator e)) (cleared_value e) (family-value e p.0))
    (family-scale (pos (q / denominator f)) (cleared_value f) (family-value f p.1))
family-value (difference e f) p =
    let q = lcm (denominator e) (denominator f) in
    family-plus (λ n. scale (pos (q / denominator e)) (cleared_value e n)) (λ n. negate (scale (pos (q / denominator f)) (cleared_value f n)))
    (family-scale (pos (q / denominator e)) (cleared_value e) (family-value e p.0))
    (family-negate (λ n. scale (pos (q / denominator f)) (cleared_value f n)) (family-scale (pos (q / denominator f)) (cleared_value f) (family-value f p.1)))
family-value (product e f) p = family-times (cleared_value e) (cleared_value f) (family-value e p.0) (family-value f p.1)

-- in every number of variables, the cleared value of an expression has at most the degree of the expression
pub degree-value : (e : Tree) (n : ℕ) → HasDegreeAtMost (degree e) (cleared_value e n)
degree-value e n α h = elim (cases_eq (length α) n) [
  | inl l ↦ coefficient-higher (numerator e) (degree e) n (cleared_value e n) (bounded_value e n) α l h
  | inr l ↦ coefficient_outside n (cleared_value e n) α (In-cleared_value e n) l
]

degree_raised : (c d : ℕ) (f : Poly) → c ≤ d → HasDegreeAtMost c f → HasDegreeAtMost d f
degree_raised c d f h g α k = g α (omega arith)

degree-plus : (d : ℕ) (f g : Poly) → HasDegreeAtMost d f → HasDegreeAtMost d g → HasDegreeAtMost d (plus f g)
degree-plus d f g h k α l = coefficient_plus f g α ∙ rw (h α l, k α l) refl

degree-scale : (d : ℕ) (c : ℤ) (f : Poly) → HasDegreeAtMost d f → HasDegreeAtMost d (scale c f)
degree-scale d c f h α l = coefficient_scale c f α ∙ ap (λ z. c *ℤ z) (h α l) ∙ *ℤ-zero c

pub degree-basis : (basis : Basis) (parts : List ℕ) (n : ℕ) → HasDegreeAtMost (size parts) (basis_polynomial basis parts n)
degree-basis basis parts n = degree-value (atom basis parts) n

-- ---- 0 and the polynomials of lists of terms are families of symmetric polynomials

family-nothing : IsSymmetricFamily (λ n. nothing)
family-nothing = record { variables = λ n t m. absurd m; symmetric = λ n left a b right. refl; compatible = λ k n h α. refl }

family-list : (basis : Basis) (q : ℕ) (terms : Terms (List ℕ)) → HaveLabels IsPartition (numerators terms)
    → IsSymmetricFamily (λ n. cleared (λ label. basis_polynomial basis label n) q terms)
family-list basis q [] p = family-nothing
family-list basis q (t ∷ terms) p =
    family-plus (λ n. scale (t.1.0 *ℤ pos (q / t.1.1)) (basis_polynomial basis t.0 n)) (λ n. cleared (λ label. basis_polynomial basis label n) q terms)
    (family-scale (t.1.0 *ℤ pos (q / t.1.1)) (basis_polynomial basis t.0) (family-basis basis t.0 (p (t.0, t.1.0) (inl refl))))
    (family-list basis q terms (λ u m. p u (inr m)))

degree-list : (basis : Basis) (q d n : ℕ) (terms : Terms (List ℕ)) → HaveLabels (λ label. size label ≤ d) (numerators terms)
    → HasDegreeAtMost d (cleared (λ label. basis_polynomial basis label n) q terms)
degree-list basis q d n [] h = λ α l. refl
degree-list basis q d n (t ∷ terms) h =
    degree-plus d (scale (t.1.0 *ℤ pos (q / t.1.1)) (basis_polynomial basis t.0 n)) (cleared (λ label. basis_polynomial basis label n) q terms)
    (degree-scale d (t.1.0 *ℤ pos (q / t.1.1)) (basis_polynomial basis t.0 n) (degree_raised (size t.0) d (basis_polynomial basis t.0 n) (h (t.0, t.1.0) (inl refl)) (degree-basis basis t.0 n)))
    (degree-list basis q d n terms (λ u m. h u (inr m)))

-- let d be at least the degree of the expression e and the size of each label of `terms`, and let all labels be partitions: if `terms` expands e in d
-- variables, it expands e in every number of variables
pub expansions_agree : (d : ℕ) (basis : Basis) (terms : Terms (List ℕ)) (e : Tree) → HaveLabels IsPartition (numerators terms)
    → HaveLabels (λ label. size label ≤ d) (numerators terms) → HasPartitions e → degree e ≤ d
    → IsExpansionOf basis terms d (cleared_value e d) (denominator e) → (n : ℕ) → IsExpansionOf basis terms n (cleared_value e n) (denominator e)
expansions_agree d basis terms e p h i k x n = record {
  positive = x.positive;
  equal =
      families_agree d (λ m. scale (pos (denominator e)) (value basis terms m)) (λ m. scale (pos (denominators terms)) (cleared_value e m))
      (family-scale (pos (denominator e)) (value basis terms) (family-list basis (denominators terms) terms p))
      (family-scale (pos (denominators terms)) (cleared_value e) (family-value e i))
      (λ m. degree-scale d (pos (denominator e)) (value basis terms m) (degree-list basis (denominators terms) d m terms h))
      (λ m. degree-scale d (pos (denominators terms)) (cleared_value e m) (degree_raised (degree e) d (cleared_value e m) k (degree-value e m)))
      x.equal n;
}
