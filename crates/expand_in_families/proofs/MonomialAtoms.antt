-- The expansion of a monomial symmetric polynomial of degree d in the basis e, h or p. In the list of terms for d! times this polynomial, the
-- absolute values of the coefficients add up to at most `grown d`, which is d!·(2d)^d.
use Rattle.std.proofs.Common.{ℕ, ◌*◌, ◌≤◌, List, [], ◌∷◌, sym, ◌∙◌, arith, pos}
use Rattle.sym_model.specs.Partition.{size}
use Rattle.sym_model.specs.Polynomial.{Poly, Same, scale}
use Rattle.sym_model.specs.Bases.{monomial, product_over}
use Rattle.sym_model.specs.Expansion.{Basis, Terms, IsExpansionOf, Represents}
use Rattle.sym_model.specs.Weight.{factorial, growth}
use Rattle.sym_model.specs.WholeTerms.{WholeTerms, absolute_total, combined}
use Rattle.sym_model.proofs.Polynomials.{pair_determined, pair_scale, scale_respects, Same_sym, Same_trans}
use Rattle.sym_model.proofs.WholeTerms.{pair_of_combined}
use Rattle.monomial_laws.specs.ExpressionTerms.{in_monomials, IsList}
use Rattle.monomial_laws.proofs.ExpressionTerms.{list_respects, list-monomial}
use Rattle.monomial_laws.proofs.Majorants.{bounded-atom}
use Rattle.basis_change_laws.specs.JoinedLists.{Stands}
use Rattle.basis_change_laws.proofs.GrowthBounds.{grown}
use Rattle.sparse_polys.specs.Tables.{IsWholeTable}
use Rattle.sparse_polys.specs.LabelSizes.{AreWithin}
use Rattle.sparse_polys.proofs.WholeLists.{label-partition}
use Rattle.sparse_polys.specs.declared.family.Family.{Family}
use Rattle.sparse_polys.specs.declared.family.Family.TheVariants.{Elementary, Complete, PowerSum}
use Rattle.sparse_polys.specs.Families.{basis_in, polynomial_of}
use Rattle.basis_change.specs.Clearing.{IsBoundedBy, IsMultipleIn}
use Rattle.basis_change.specs.ClearedAnswer.{IsMultiplied}
use Rattle.basis_change.proofs.Bounds.{same_growth}
use Rattle.basis_change.proofs.ClearedAnswers.{bounded-terms}

-- a list that represents f divided by q, with its labels read as products of e_k, h_k or p_k over their parts, is an expansion of f divided by q in
-- the basis e, h or p
pub expansion-family : (family : Family) (terms : Terms (List ℕ)) (n : ℕ) (f : Poly) (q : ℕ) → Represents (λ label. product_over (polynomial_of family) label n) terms f q → IsExpansionOf (basis_in family) terms n f q
expansion-family Elementary terms n f q h = h
expansion-family Complete terms n f q h = h
expansion-family PowerSum terms n f q h = h

pub multiplied : (family : Family) → IsMultiplied (basis_in family)
multiplied Elementary = tt
multiplied Complete = tt
multiplied PowerSum = tt

multiple-family : (family : Family) (q : ℕ) (list terms : WholeTerms) → IsMultipleIn (basis_in family) q list terms → (n : ℕ) → Same (combined (λ label. product_over (polynomial_of family) label n) terms) (scale (pos q) (in_monomials list n))
multiple-family Elementary q list terms h = h
multiple-family Complete q list terms h = h
multiple-family PowerSum q list terms h = h

-- `list` is the list in the monomial basis m with the one term m_label
module _ (label : List ℕ) (list : WholeTerms) (table : IsWholeTable list) (same : Same list ((label, pos 1) ∷ [])) where
  is-list : IsList list (monomial label)
  is-list = list_respects ((label, pos 1) ∷ []) list (monomial label) (Same_sym list ((label, pos 1) ∷ []) same) (list-monomial label)

  pub bounded-monomial : IsBoundedBy 1 list
  bounded-monomial = bounded-terms 1 (size label) list (monomial label) table is-list (bounded-atom Basis.monomials label)

  pub monomial-stands : (target : Family) (terms : WholeTerms) → IsWholeTable terms → AreWithin (size label) terms → IsMultipleIn (basis_in target) (factorial (size label)) list terms
      → absolute_total terms ≤ 1 * growth (basis_in target) (size label)
      → Stands (polynomial_of target) (factorial (size label)) (grown (size label)) (size label) (monomial label) terms
  monomial-stands target terms is w multiple few = record {
    value = λ n φ.
        let Q : List ℕ → Poly = λ l. product_over (polynomial_of target) l n in
        let f = scale (pos (factorial (size label))) (monomial label n) in
        sym (pair_of_combined Q terms φ)
        ∙ pair_determined (combined Q terms) f φ
        (Same_trans (combined Q terms) (scale (pos (factorial (size label))) (in_monomials list n)) f (multiple-family target (factorial (size label)) list terms multiple n)
        (scale_respects (pos (factorial (size label))) (in_monomials list n) (monomial label n) (is-list n)))
        ∙ pair_scale (pos (factorial (size label))) (monomial label n) φ;
    few = let e = same_growth target (size label) in omega (arith, rw e at few);
    labels = λ t m. record { partition = label-partition terms is t m; low = w t m };
  }
