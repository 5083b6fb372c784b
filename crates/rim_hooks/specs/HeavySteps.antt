-- Products of several factors that are reduced after each factor: some step has a weight of 2^127 or more. A step multiplies a list of terms by one
-- more factor and reduces the product. Its weight is the sum of |c|·W over the terms (label, c) of the list; W is the sum of the absolute values of
-- the coefficients of the classical product of the partition of the label and the factor.
use Rattle.std.specs.Prelude.{ℕ, List}
use Rattle.sym_model.specs.PastLimit.{HasHeavy}
use Rattle.sym_model.specs.ReductionSteps.{IsStepWeight}
use Rattle.sym_model.specs.WholeTerms.{WholeTermsOf}

-- the terms are multiplied by the factors one after another, each product being reduced (`step`): the weight of one of these steps is 2^127 or more
abbrev pub HasHeavyStep : {Label : Type 0}
    → (Label → List ℕ)
    → (List ℕ → WholeTermsOf Label → WholeTermsOf Label → Type 0)
    → ℕ
    → WholeTermsOf Label
    → List (List ℕ)
    → Type 0
HasHeavyStep {Label = Label} shape step k terms factors =
    HasHeavy (IsStepWeight {Label = Label} shape step k terms factors)
