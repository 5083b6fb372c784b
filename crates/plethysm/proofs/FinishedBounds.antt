-- Bounds for the coefficients and for the sizes of the labels of a plethysm F[G] in m, from the bounds of the lists F and G in m. A list in m is a
-- list of terms c·m_λ.
use Rattle.std.proofs.Common.{ℕ, ◌+◌, ◌*◌, ◌^◌, List, length}
use Rattle.sym_model.specs.Polynomial.{Same}
use Rattle.sym_model.specs.Plethysm.{plethysm, repeated_monomials}
use Rattle.sym_model.specs.Expansion.{Terms}
use Rattle.sym_model.specs.WholeTerms.{WholeTerms}
use Rattle.sym_model.specs.Bases.{monomial}
use Rattle.sym_model.specs.ListWeight as listed
use Rattle.sym_model.proofs.Polynomials.{Same_sym}
use Rattle.sym_model.proofs.WholeTerms.{combined_respects}
use Rattle.monomial_laws.specs.Majorant as majorant
use Rattle.monomial_laws.specs.ExpressionTerms.{in_monomials, over, IsList}
use Rattle.monomial_laws.proofs.Majorants.{bounded_respects}
use Rattle.monomial_laws.proofs.Splits.{In-monomial_terms}
use Rattle.sparse_polys.specs.Tables.{IsFractionTable, IsWholeTable}
use Rattle.sparse_polys.specs.LabelSizes.{AreWithin}
use Rattle.sparse_polys.proofs.Bounds.{AreWithin-list}
use Rattle.sparse_polys.proofs.WholeLists.{Once-keys}
use Rattle.basis_change.specs.Clearing.{IsBoundedBy}
use Rattle.basis_change.proofs.ClearedAnswers.{bounded-terms}
use Rattle.plethysm_laws.proofs.SubstitutedBounds.{bounded-substitute}
use Rattle.plethysm_laws.proofs.ListBounds.{bounded-list}
use Rattle.plethysm.specs.BoundedSums.{IsBoundedSum}
use Rattle.plethysm.proofs.FactorLists.{places, sums}

-- N and D bound the list `outer` in m (`listed.IsBounded`), whose labels have at most a cells; V is D times `outer`; K bounds the list W in m at the
-- degree b (`IsBoundedSum`); and `list` is the plethysm V[W] in m
module _ (N D a K b : ℕ) (outer : Terms (List ℕ)) (V W list : WholeTerms) (is : IsFractionTable outer) (bounded : listed.IsBounded N D outer) (within : AreWithin a outer)
    (same : Same V (over D outer)) (h : IsBoundedSum K b W) (also : IsWholeTable list) (value : IsList list (λ n. plethysm (in_monomials V) b n (in_monomials W n))) where
  bounded-at : (n : ℕ) → majorant.IsBounded (N * (a + 1) * K ^ a) (a * b) n (plethysm (in_monomials V) b n (in_monomials W n))
  bounded-at n =
      let m = length (repeated_monomials b n (in_monomials W n)) in
      bounded-substitute (N * (a + 1)) a K b n (repeated_monomials b n (in_monomials W n)) (in_monomials V m) (in_monomials W n) h.some
      (places W K b h n) (sums W K b h n) (In-monomial_terms W n) (h.bounded n)
      (bounded_respects (N * (a + 1)) a m (in_monomials (over D outer) m) (in_monomials V m)
      (Same_sym (in_monomials V m) (in_monomials (over D outer) m) (combined_respects (λ label. monomial label m) V (over D outer) same))
      (bounded-list N D a m outer (Once-keys outer is) within bounded))

  pub finished-bounded : IsBoundedBy (N * (a + 1) * K ^ a) list
  finished-bounded = bounded-terms (N * (a + 1) * K ^ a) (a * b) list (λ n. plethysm (in_monomials V) b n (in_monomials W n)) also value bounded-at

  pub finished-within : AreWithin (a * b) list
  finished-within = AreWithin-list (N * (a + 1) * K ^ a) (a * b) list (λ n. plethysm (in_monomials V) b n (in_monomials W n)) also value bounded-at
