-- Schur polynomials as lists of terms in e, h or p.
use Rattle.std.specs.Prelude.{ℕ, List}
use Rattle.sym_model.specs.Polynomial.{Poly}
use Rattle.sym_model.specs.Conjugate.{conjugate}
use Rattle.sym_model.specs.Expansion.{completes}
use Rattle.sym_model.specs.Partition.{size}
use Rattle.sym_model.specs.Schur.{schur}
use Rattle.sym_model.specs.Weight.{factorial, growth}
use Rattle.sym_model.specs.WholeTerms.{WholeTerms}
use Rattle.basis_change_laws.specs.JoinedLists.{Stands}
use Rattle.family_lists.specs.KeptLists.{AreListsOf}
use Rattle.sparse_polys.specs.declared.family.Family.{Family}
use Rattle.sparse_polys.specs.declared.family.Family.TheVariants.{Elementary, Complete, PowerSum}

-- The signed sum over the ways to remove special rim hooks from a shape until no cell is left, if a hook of k cells gives the factor
-- h_k for the family h, or e_k for e: for h the Schur polynomial of the shape, and for e that of the conjugate shape. The case of p is never used.
abbrev pub schur_in : Family → List ℕ → ℕ → Poly
schur_in Elementary shape = schur (conjugate shape)
schur_in Complete shape = schur shape
schur_in PowerSum shape = schur shape

-- the list, each label read as the product of the polynomials P over its parts, is d! times the polynomial `schur_in` of the shape, with d the size
-- of the shape; the absolute values of its coefficients add up to at most d!·(2d)^d
abbrev pub IsSchurList : (ℕ → ℕ → Poly) → Family → List ℕ → WholeTerms → Type 0
IsSchurList P family shape terms =
    Stands P (factorial (size shape)) (growth completes (size shape)) (size shape)
    (schur_in family shape) terms

-- for each pair of a shape and a list: `IsSchurList` holds of the shape and the list
abbrev pub AreSchurLists : (ℕ → ℕ → Poly) → Family → List (List ℕ × WholeTerms) → Type 0
AreSchurLists P family = AreListsOf (IsSchurList P family)
