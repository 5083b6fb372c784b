-- The answer to each command whose answer is a list of terms, defined by polynomials; and the cases in which such an
-- answer is too large for numbers of 128 bits: a coefficient that the definition gives exceeds 2^127 - 1, or a weight
-- is 2^127 or more. A weight bounds all numbers of a computation.
use Rattle.std.specs.Prelude.{ℕ, ◌+◌, Some}
use Rattle.sym_model.specs.Schur.{skew_schur}
use Rattle.sym_model.specs.Stanley.{stanley_in}
use Rattle.sym_model.specs.Plethysm.{plethysm as plethysm_of}
use Rattle.sym_model.specs.Expansion.{IsExpansionOf}
use Rattle.sym_model.specs.Expression.{cleared_value, degree, denominator}
use Rattle.sym_model.specs.Products.{schur_product, ExpandsInSchurs, IsProductCoefficientOf}
use Rattle.sym_model.specs.Products.{IsCoproductOf, classical_product, IsSchubertPolynomialOf}
use Rattle.sym_model.specs.Products.{IsSchubertProductOf, IsDoubleProductOf}
use Rattle.sym_model.specs.Reductions.{IsRimHookReduction, IsAlcoveReductionOf}
use Rattle.sym_model.specs.Kind.{number, expansion, product, pairs, powers, permutations}
use Rattle.sym_model.specs.Kind.{polynomial, shifts}
use Rattle.sym_model.specs.Answer.{Answer, answer, number_in}
use Rattle.sym_model.specs.Command.{Command, mult, skew, coef, coprod, quantum, fusion, schubert}
use Rattle.sym_model.specs.Command.{schubmult, expand, plethysm, dschubmult, stanley}
use Rattle.std.specs.Prelude.{◌≡◌, ℤ}
use Rattle.sym_model.specs.Weight as expressions
use Rattle.sym_model.specs.Plethysm.{plethysm_weight}
use Rattle.sym_model.specs.PastLimit.{HasPast, HasHeavy, IsCoefficientOfProduct, IsCoefficientOfSkew}
use Rattle.sym_model.specs.PastLimit.{IsCoproductCoefficient, IsCoefficientOfSchubert}
use Rattle.sym_model.specs.PastLimit.{IsCoefficientOfStanley, pair_weight, double_weight}
use Rattle.sym_model.specs.ReductionSteps.{IsQuantumWeight, IsFusionWeight}

-- the given answer is the one that the command asks for; false if the answer is not of the kind that the command asks
-- for, and for `tab`, `rsk`, `unrsk`, `rect`, `growth`, `batch` and `work`, whose answers are not lists of terms
abbrev pub Meets : Command → Answer → Type 0
Meets (mult variables one_line factors) (answer product terms) =
    ExpandsInSchurs variables (schur_product factors) terms
Meets (skew variables one_line outer inner) (answer product terms) =
    ExpandsInSchurs variables (skew_schur outer inner) terms
Meets (coef outer left right) (answer number terms) =
    IsProductCoefficientOf outer left right (number_in terms)
Meets (coprod shape) (answer pairs terms) = IsCoproductOf shape terms
Meets (quantum k columns factors) (answer powers terms) =
    IsRimHookReduction k (k + columns) (classical_product k factors) terms
Meets (fusion k level factors) (answer product terms) =
    IsAlcoveReductionOf k (k + level) (classical_product k factors) terms
Meets (schubert w) (answer polynomial terms) = IsSchubertPolynomialOf w terms
Meets (schubmult u v) (answer permutations terms) = IsSchubertProductOf u v terms
Meets (expand target one_line e) (answer expansion terms) =
    (n : ℕ) → IsExpansionOf target terms n (cleared_value e n) (denominator e)
Meets (plethysm target outer inner) (answer expansion terms) =
    (n : ℕ)
    → IsExpansionOf
    target
    terms
    n
    (plethysm_of (cleared_value outer) (degree inner) n (cleared_value inner n))
    (denominator outer)
Meets (dschubmult u v) (answer shifts terms) = IsDoubleProductOf u v terms
Meets (stanley variables w) (answer product terms) =
    ExpandsInSchurs (Some variables) (stanley_in w) terms
Meets _ _ = ⊥

-- c is a coefficient that the answer to the command has by its definition, for `mult`, `skew`, `coef`, `coprod`,
-- `schubert` and `stanley`; false for the other commands
abbrev pub IsDefinedCoefficient : Command → ℤ → Type 0
IsDefinedCoefficient (mult variables one_line factors) c =
    IsCoefficientOfProduct variables factors c
IsDefinedCoefficient (skew variables one_line outer inner) c =
    IsCoefficientOfSkew variables outer inner c
IsDefinedCoefficient (coef outer left right) c = IsProductCoefficientOf outer left right c
IsDefinedCoefficient (coprod shape) c = IsCoproductCoefficient shape c
IsDefinedCoefficient (schubert w) c = IsCoefficientOfSchubert w c
IsDefinedCoefficient (stanley variables w) c = IsCoefficientOfStanley variables w c
IsDefinedCoefficient _ c = ⊥

-- a coefficient that the answer to the command has by its definition (`IsDefinedCoefficient`) exceeds 2^127 - 1
abbrev pub HasPastCoefficient : Command → Type 0
HasPastCoefficient command = HasPast (IsDefinedCoefficient command)

-- the number is a weight of the command: for `quantum` and `fusion`, the weight of one of the multiplications by a
-- factor, one for each factor after the first; for `schubmult`, `expand`, `plethysm` and `dschubmult`, the one weight
-- that is defined for the command; the other commands have no weight
abbrev pub HasWeight : Command → ℕ → Type 0
HasWeight (quantum k columns factors) weight = IsQuantumWeight k (k + columns) factors weight
HasWeight (fusion k level factors) weight = IsFusionWeight k (k + level) factors weight
HasWeight (schubmult u v) weight = weight ≡ pair_weight u v
HasWeight (expand target one_line e) weight = weight ≡ expressions.weight target e
HasWeight (plethysm target outer inner) weight =
    weight
    ≡ plethysm_weight
    (expressions.numerator outer)
    (denominator outer)
    (degree outer)
    (expressions.numerator inner)
    (degree inner)
HasWeight (dschubmult u v) weight = weight ≡ double_weight u v
HasWeight _ weight = ⊥

-- a weight of the command (`HasWeight`) is 2^127 or more
abbrev pub IsHeavy : Command → Type 0
IsHeavy command = HasHeavy (HasWeight command)
