-- The reductions by rim hooks of the labels of a classical product are exactly the reductions that `reduction_by_remainders` computes from the
-- remainders of the beta lists. A classical product is the list of terms that expands a product of Schur polynomials.
use Rattle.std.proofs.Common.{◌≡◌, ◌≤◌, ℕ, List, [], ◌∷◌, refl, ap₂, inl, inr, ℤ}
use Rattle.sym_model.specs.Sum.{Among}
use Rattle.sym_model.specs.Partition.{IsPartition, rows}
use Rattle.sym_model.specs.WholeTerms.{WholeTerms, HaveLabels}
use Rattle.sym_model.specs.Reductions.{Reduction, AreReductions}
use Rattle.sym_model.specs.Products.{classical_product}
use Rattle.alternant_laws.proofs.ClassicalProducts.{classical_product-term}
use Rattle.beta_list_laws.specs.ReductionLists.{reductions_of}
use Rattle.beta_list_laws.proofs.Ends.{reduces_only}

are_only : (k n : ℕ) (terms : WholeTerms) (reductions : List Reduction) → 1 ≤ n → ((t : List ℕ × ℤ) → Among t terms → IsPartition t.0)
    → AreReductions k n terms reductions → reductions ≡ reductions_of k n terms
are_only k n [] [] h p a = refl
are_only k n [] (r ∷ reductions) h p a = absurd a
are_only k n (t ∷ terms) [] h p a = absurd a
are_only k n (t ∷ terms) (r ∷ reductions) h p a = ap₂ ◌∷◌ (reduces_only k n t.0 r h (p t (inl refl)) a.0) (are_only k n terms reductions h (λ u m. p u (inr m)) a.1)

pub classical_labels : (k : ℕ) (factors : List (List ℕ)) → HaveLabels (λ shape. IsPartition shape × (rows shape ≤ k)) (classical_product k factors)
classical_labels k factors t m = let c = classical_product-term k factors t m in (c.partition, c.few)

-- if `reductions` are reductions of the labels of a classical product by rim hooks (`AreReductions`), they are the reductions by remainders
-- (`reductions_of`)
pub classical_only : (k n : ℕ) (factors : List (List ℕ)) (reductions : List Reduction) → 1 ≤ n → AreReductions k n (classical_product k factors) reductions
    → reductions ≡ reductions_of k n (classical_product k factors)
classical_only k n factors reductions h =
    are_only k n (classical_product k factors) reductions h (λ t m. (classical_product-term k factors t m).partition)
