-- Quantum and fusion products of several factors. A list of terms, at first only the first factor, is multiplied by one
-- further factor after another, and after each multiplication it is reduced, by rim hooks or into the alcove. Each such
-- step has a weight, which bounds the coefficients in it.
use Rattle.std.specs.Prelude.{◌≡◌, ℕ, ◌+◌, Bool, false, ℤ, pos, ◌*ℤ◌, List, [], ◌∷◌}
use Rattle.std.specs.Prelude.{◌++◌, map, ◌⊎◌, flat_map}
use Rattle.sym_model.specs.Sum.{Among}
use Rattle.sym_model.specs.Polynomial.{Same, same, scale}
use Rattle.sym_model.specs.WholeTerms.{WholeTerms, WholeTermsOf, coefficient_by, same_power}
use Rattle.sym_model.specs.WholeTerms.{absolute_total, weighed}
use Rattle.sym_model.specs.Products.{classical_product}
use Rattle.sym_model.specs.Reductions.{Reduction, AreReductions, reduced_terms}
use Rattle.sym_model.specs.Reductions.{reflected_terms}

-- the list of terms is collected: no coefficient is 0, and no two terms have the same label by `test`
abbrev pub AreCollected : {Label : Type 0} → (Label → Label → Bool) → WholeTermsOf Label → Type 0
AreCollected test [] = Unit {0}
AreCollected {Label = Label} test (t ∷ terms) =
    (t.1 ≡ pos 0 → ⊥)
    × ((u : Label × ℤ) → Among u terms → test t.0 u.0 ≡ false)
    × AreCollected test terms

-- ---- the product of a list of terms and one factor, reduced

-- `reductions` has one list for each of the terms. Let λ be the partition of a term, and let P be the classical product
-- of λ and the factor in k variables. Then the list for this term consists of the reductions of the partitions in P, by
-- rim hooks of n cells.
abbrev pub ReduceEach : ℕ → ℕ → List ℕ → WholeTermsOf (ℕ × List ℕ) → List (List Reduction) → Type 0
ReduceEach k n factor [] [] = Unit {0}
ReduceEach k n factor (t ∷ terms) (r ∷ reductions) =
    AreReductions k n (classical_product k (t.0.1 ∷ factor ∷ [])) r
    × ReduceEach k n factor terms reductions
ReduceEach k n factor _ _ = ⊥

-- the terms times c·q^power
abbrev pub with_power : ℕ → ℤ → WholeTermsOf (ℕ × List ℕ) → WholeTermsOf (ℕ × List ℕ)
with_power power c terms = map (λ (t : (ℕ × List ℕ) × ℤ). ((power + t.0.0, t.0.1), c *ℤ t.1)) terms

-- the product of the terms and the factor, reduced: each term c·q^d·λ is replaced by c·q^d times the classical
-- product of λ and the factor in k variables, with each partition of that product replaced by its reduction in
-- `reductions`
abbrev pub reduced_each : ℕ → List ℕ → WholeTermsOf (ℕ × List ℕ) → List (List Reduction)
    → WholeTermsOf (ℕ × List ℕ)
reduced_each k factor (t ∷ terms) (r ∷ reductions) =
    with_power t.0.0 t.1 (reduced_terms (classical_product k (t.0.1 ∷ factor ∷ [])) r)
    ++ reduced_each k factor terms reductions
reduced_each k factor _ _ = []

-- one step of a quantum product: `next` is the collected list of the product of the terms and the factor in k
-- variables, in which each partition is replaced by its reduction by rim hooks of n cells, and the powers of q are
-- multiplied
pub record IsQuantumStep (k n : ℕ) (factor : List ℕ)
    (terms next : WholeTermsOf (ℕ × List ℕ)) : Type 0 where
  pub reductions : List (List Reduction)
  pub reduce : ReduceEach k n factor terms reductions
  pub collected : AreCollected same_power next
  pub sums : (label : ℕ × List ℕ)
      → coefficient_by same_power next label
      ≡ coefficient_by same_power (reduced_each k factor terms reductions) label

-- one step of a fusion product: `next` is the collected list of the product of the terms and the factor in k
-- variables, in which each partition is replaced by its reduction into the alcove of k rows and level n - k
pub record IsFusionStep (k n : ℕ) (factor : List ℕ) (terms next : WholeTerms) : Type 0 where
  pub collected : AreCollected same next
  pub sums : Same
      next
      (flat_map (λ (t : List ℕ × ℤ). scale t.1
      (reflected_terms k n (classical_product k (t.0 ∷ factor ∷ [])))) terms)

-- a chain of steps leads from the list `terms` to the list `last`, one step for each factor in turn; `step factor
-- terms next` says that one step with this factor leads from `terms` to `next`
abbrev pub StepsLead : {Label : Type 0}
    → (List ℕ → WholeTermsOf Label → WholeTermsOf Label → Type 0)
    → WholeTermsOf Label
    → List (List ℕ)
    → WholeTermsOf Label
    → Type 0
StepsLead step terms [] last = terms ≡ last
StepsLead {Label = Label} step terms (factor ∷ factors) last =
    (next : WholeTermsOf Label) × step factor terms next × StepsLead step next factors last

-- a chain of steps leads from the label of the first factor, with the coefficient 1, to the list `last`, one step for
-- each further factor in turn; false if there is no factor
abbrev pub LeadsTo : {Label : Type 0}
    → (List ℕ → WholeTermsOf Label → WholeTermsOf Label → Type 0)
    → (List ℕ → Label)
    → List (List ℕ)
    → WholeTermsOf Label
    → Type 0
LeadsTo step start [] last = ⊥
LeadsTo step start (first ∷ factors) last = StepsLead step ((start first, pos 1) ∷ []) factors last

-- the list `last` is the quantum product of the factors for k rows and n - k columns, computed factor by factor with
-- a reduction by rim hooks of n cells after each factor
abbrev pub IsReducedInSteps : ℕ → ℕ → List (List ℕ) → WholeTermsOf (ℕ × List ℕ) → Type 0
IsReducedInSteps k n factors last = LeadsTo (IsQuantumStep k n) (λ first. (0, first)) factors last

-- the list `last` is the fusion product of the factors for k rows at level n - k, computed factor by factor with a
-- reduction into the alcove after each factor
abbrev pub IsReflectedInSteps : ℕ → ℕ → List (List ℕ) → WholeTerms → Type 0
IsReflectedInSteps k n factors last = LeadsTo (IsFusionStep k n) (λ first. first) factors last

-- ---- the weights of the steps of a quantum or fusion product

-- the weight of the classical product of the factors in k variables: the sum of the absolute values of its
-- coefficients
abbrev pub classical_weight : ℕ → List (List ℕ) → ℕ
classical_weight k factors = absolute_total (classical_product k factors)

-- the weight of a step with this factor from the list `terms`: the sum of |c|·W over the terms (label, c), with W the
-- weight of the classical product, in k variables, of the factor and the partition `shape label`
abbrev pub step_weight : {Label : Type 0} → (Label → List ℕ) → ℕ → List ℕ → WholeTermsOf Label → ℕ
step_weight shape k factor terms =
    weighed (λ label. classical_weight k (shape label ∷ factor ∷ [])) terms

-- `weight` is the weight of one of the steps in a chain of steps from the list `terms`, one step for each factor in
-- turn
abbrev pub IsStepWeight : {Label : Type 0}
    → (Label → List ℕ)
    → (List ℕ → WholeTermsOf Label → WholeTermsOf Label → Type 0)
    → ℕ
    → WholeTermsOf Label
    → List (List ℕ)
    → ℕ
    → Type 0
IsStepWeight shape step k terms [] weight = ⊥
IsStepWeight {Label = Label} shape step k terms (factor ∷ factors) weight =
    (weight ≡ step_weight shape k factor terms)
    ⊎ ((next : WholeTermsOf Label) × step factor terms next
    × IsStepWeight shape step k next factors weight)

-- `weight` is the weight of one of the steps in a chain of steps from the label of the first factor, with the
-- coefficient 1, one step for each further factor in turn
abbrev pub IsWeightFrom : {Label : Type 0}
    → (Label → List ℕ)
    → (List ℕ → WholeTermsOf Label → WholeTermsOf Label → Type 0)
    → (List ℕ → Label)
    → ℕ
    → List (List ℕ)
    → ℕ
    → Type 0
IsWeightFrom shape step start k [] weight = ⊥
IsWeightFrom shape step start k (first ∷ factors) weight =
    IsStepWeight shape step k ((start first, pos 1) ∷ []) factors weight

-- the partition of a label that is a power of q with a partition
abbrev pub shape_of : ℕ × List ℕ → List ℕ
shape_of label = label.1

-- `weight` is the weight of one of the steps of the quantum product of the factors for k rows and n - k columns, one
-- step for each factor after the first
abbrev pub IsQuantumWeight : ℕ → ℕ → List (List ℕ) → ℕ → Type 0
IsQuantumWeight k n factors weight =
    IsWeightFrom shape_of (IsQuantumStep k n) (λ first. (0, first)) k factors weight

-- `weight` is the weight of one of the steps of the fusion product of the factors for k rows at level n - k, one step
-- for each factor after the first
abbrev pub IsFusionWeight : ℕ → ℕ → List (List ℕ) → ℕ → Type 0
IsFusionWeight k n factors weight =
    IsWeightFrom (λ shape. shape) (IsFusionStep k n) (λ first. first) k factors weight
