-- Lists of terms whose partitions are reduced by rim hooks (quantum products) or into the alcove (fusion products).
use Rattle.std.specs.Prelude.{◌≡◌, ℕ, ℤ, ◌*ℤ◌, List, [], ◌∷◌}
use Rattle.std.specs.Prelude.{Option, Some, None, flat_map}
use Rattle.sym_model.specs.Polynomial.{Same}
use Rattle.sym_model.specs.Expansion.{Terms}
use Rattle.sym_model.specs.WholeTerms.{WholeTerms, WholeTermsOf, numerators, coefficient_by}
use Rattle.sym_model.specs.WholeTerms.{same_power}
use Rattle.sym_model.specs.RimHookReduction.{ReducesTo}
use Rattle.sym_model.specs.AlcoveReduction.{alcove_reduction}

-- a reduction by rim hooks: a partition with a sign and a power of q, or None for 0
abbrev pub Reduction : Type 0
Reduction = Option (List ℕ × ℤ × ℕ)

-- `reductions` has one reduction for each term: the reduction of its label, a partition with at most k rows, by rim
-- hooks of n cells
abbrev pub AreReductions : ℕ → ℕ → WholeTerms → List Reduction → Type 0
AreReductions k n [] [] = Unit {0}
AreReductions k n (t ∷ terms) (r ∷ reductions) =
    ReducesTo k n t.0 r × AreReductions k n terms reductions
AreReductions k n _ _ = ⊥

-- the terms after their reduction by rim hooks: each label is replaced by its reduction in the second list, a power of
-- q and a partition, and the coefficient is multiplied by the sign of the reduction; a term with the reduction `None`
-- is left out
abbrev pub reduced_terms : WholeTerms → List Reduction → WholeTermsOf (ℕ × List ℕ)
reduced_terms (t ∷ terms) (Some r ∷ reductions) =
    ((r.2, r.0), t.1 *ℤ r.1) ∷ reduced_terms terms reductions
reduced_terms (t ∷ terms) (None ∷ reductions) = reduced_terms terms reductions
reduced_terms _ _ = []

-- the list `terms`, with the numerators of its coefficients, is as a formal sum the list `classical` with each partition
-- replaced by its reduction by rim hooks of n cells; the partitions of `classical` have at most k rows
pub record IsRimHookReduction (k n : ℕ) (classical : WholeTerms)
    (terms : Terms (ℕ × List ℕ)) : Type 0 where
  pub reductions : List Reduction
  pub reduce : AreReductions k n classical reductions
  pub sums : (label : ℕ × List ℕ)
      → coefficient_by same_power (numerators terms) label
      ≡ coefficient_by same_power (reduced_terms classical reductions) label

-- the list of the one term that a reduction into the alcove gives, for a label with the coefficient c: the partition
-- of the reduction, with c times its sign as the coefficient; the empty list if the reduction is None
abbrev pub reflected_term : ℤ → Option (List ℕ × ℤ) → WholeTerms
reflected_term c None = []
reflected_term c (Some reduced) = (reduced.0, c *ℤ reduced.1) ∷ []

-- the terms after their reduction: each label is replaced by its reduction into the alcove of k rows and level n - k,
-- and the coefficient is multiplied by the sign of the reduction; a term with the reduction `None` is left out
abbrev pub reflected_terms : ℕ → ℕ → WholeTerms → WholeTerms
reflected_terms k n terms =
    flat_map (λ (t : List ℕ × ℤ). reflected_term t.1 (alcove_reduction k n t.0)) terms

-- the list `terms`, with the numerators of its coefficients, is as a formal sum the list `classical` with each partition
-- replaced by its reduction into the alcove of k rows and level n - k
abbrev pub IsAlcoveReductionOf : ℕ → ℕ → WholeTerms → Terms (List ℕ) → Type 0
IsAlcoveReductionOf k n classical terms = Same (numerators terms) (reflected_terms k n classical)
