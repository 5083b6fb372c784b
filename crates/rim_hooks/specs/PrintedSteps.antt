-- Texts that read back as a product that results from reducing after each factor.
use Rattle.std.specs.Prelude.{◌≡◌, ℕ, List, Some}
use Rattle.sym_model.specs.Expansion.{Terms}
use Rattle.sym_model.specs.Kind.{label_rules, powers, product}
use Rattle.sym_model.specs.PrintedBlock.{read_by}
use Rattle.sym_model.specs.ReductionSteps.{IsReducedInSteps, IsReflectedInSteps}
use Rattle.sym_model.specs.WholeTerms.{numerators}

-- the text reads back as a list that results from multiplying the factors in k variables and reducing by rim hooks of n cells after each factor
pub record ReadsReducedInSteps (k n : ℕ) (factors : List (List ℕ)) (text : List ℕ) : Type 0 where
  pub terms : Terms (ℕ × List ℕ)
  pub reads : read_by (label_rules powers) text ≡ Some terms
  pub steps : IsReducedInSteps k n factors (numerators terms)

-- the text reads back as a list that results from multiplying the factors in k variables and reflecting into the alcove of level n - k after each
-- factor
pub record ReadsReflectedInSteps (k n : ℕ) (factors : List (List ℕ)) (text : List ℕ) : Type 0 where
  pub terms : Terms (List ℕ)
  pub reads : read_by (label_rules product) text ≡ Some terms
  pub steps : IsReflectedInSteps k n factors (numerators terms)
