-- The product of a list of terms and a factor, with each partition of the product replaced by its reduction: one step of a product of several
-- factors. The weight of a step is the sum of |c|·W over the terms (label, c) of the list; W is the sum of the absolute values of the coefficients of
-- the classical product of the partition of the label and the factor.
use Rattle.std.specs.Prelude.{ℕ, ◌+◌, ◌≤◌, Bool, List, [], ◌∷◌}
use Rattle.sym_model.specs.Partition.{rows}
use Rattle.sym_model.specs.PastLimit.{HasHeavy}
use Rattle.sym_model.specs.ReductionSteps.{IsWeightFrom}
use Rattle.sym_model.specs.Products.{classical_product}
use Rattle.linear_combinations.specs.Gains.{WholeTermsOf, HaveLabels, Overflows, mass, replaced}

-- the reduced product of a label and a factor: in the classical product, in k variables, of `shape label` and the factor, each partition μ is replaced
-- by the list of terms `reduced label μ`
abbrev pub products : {L : Type 0} → ℕ → (L → List ℕ) → (L → List ℕ → WholeTermsOf L) → List ℕ → L
    → WholeTermsOf L
products k shape reduced factor label =
    replaced (reduced label) (classical_product k (shape label ∷ factor ∷ []))

-- the reduced product of a list of terms and a factor: each label is replaced by its reduced product with the factor
abbrev pub multiplied : {L : Type 0} → ℕ → (L → List ℕ) → (L → List ℕ → WholeTermsOf L) → List ℕ
    → WholeTermsOf L → WholeTermsOf L
multiplied k shape reduced factor terms = replaced (products k shape reduced factor) terms

-- for each label of the terms, its shape has at most k rows, and its number of cells plus `more` is at most 4096
abbrev pub HaveRoom : {L : Type 0} → ℕ → (L → List ℕ) → (L → ℕ) → ℕ → WholeTermsOf L → Type 0
HaveRoom k shape cells more terms =
    HaveLabels (λ l. (rows (shape l) ≤ k) × (cells l + more ≤ 4096)) terms

-- the label of the first factor is multiplied by the other factors one after another, each product being reduced (`step`): the weight of one of these
-- steps is 2^127 or more
abbrev pub IsHeavyFrom : {L : Type 0} → (L → List ℕ)
    → (List ℕ → WholeTermsOf L → WholeTermsOf L → Type 0) → (List ℕ → L) → ℕ → List (List ℕ)
    → Type 0
IsHeavyFrom shape step start k factors = HasHeavy (IsWeightFrom shape step start k factors)

-- there is a list of terms that overflows when it is added to the list `old` (`Overflows`), and the absolute values of its coefficients add up to at
-- most `most`
abbrev pub OverflowsWithin : {L : Type 0} → (L → L → Bool) → WholeTermsOf L → ℕ → Type 0
OverflowsWithin {L} eq old most = (g : WholeTermsOf L) × (mass g ≤ most) × Overflows eq old g
