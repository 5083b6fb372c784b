-- The result of changing a list with integer coefficients and labels of at most d cells into another basis (`IsChanged`). If the target basis is e, h
-- or p, the list is first multiplied by d!, so that the result has integer coefficients too; the clearing factor is d! for these bases, and 1 for m
-- and s.
use Rattle.std.proofs.Common.{◌≡◌, ℕ, ◌*◌, ◌^◌, ◌≤◌, refl, arith, Ok, Err, rules}
use Rattle.std.specs.Prelude.{Result, IsErr, IsErrAnd}
use Rattle.calc_base.specs.declared.faults.SumFault.{SumFault}
use Rattle.calc_base.specs.declared.faults.SumFault.TheVariants.{Large}
use Rattle.sym_model.specs.Expansion.{Basis, elementaries, completes, power_sums, schurs}
use Rattle.sym_model.specs.Weight.{factorial, growth}
use Rattle.sym_model.proofs.Polynomials.{coefficient_scale}
use Rattle.sym_model.proofs.Ring.{one-product}
use Rattle.std.proofs.lemmas.Nat.{mul-le}
use Rattle.sym_model.specs.ExpressionOffence.{degree_limit}
use Rattle.sym_model.specs.WholeTerms.{WholeTerms}
use Rattle.monomial_laws.proofs.Growths.{factorial-positive}
use Rattle.monomial_laws.proofs.WeightBounds.{growth-positive}
use Rattle.basis_change_laws.proofs.GrowthBounds.{factorial-within}
use Rattle.sparse_polys.specs.Tables.{IsWholeTable}
use Rattle.sparse_polys.specs.declared.family.Family.{Family}
use Rattle.sparse_polys.specs.declared.family.Family.TheVariants.{Elementary, Complete, PowerSum}
use Rattle.sparse_polys.specs.Families.{basis_in}
use Rattle.basis_change.specs.Clearing.{IsBoundedBy, clearing_factor}
use Rattle.basis_change.specs.ClearedAnswer.{IsChanged, IsMultiplied}
use Rattle.basis_change.proofs.Bounds.{same_growth, growth-least}

pub factor-family : (family : Family) (d : ℕ) → clearing_factor (basis_in family) d ≡ factorial d
factor-family Elementary d = refl
factor-family Complete d = refl
factor-family PowerSum d = refl

pub factor-multiplied : (target : Basis) (d : ℕ) → IsMultiplied target → clearing_factor target d ≡ factorial d
factor-multiplied Basis.monomials d m = absurd m
factor-multiplied elementaries d m = refl
factor-multiplied completes d m = refl
factor-multiplied power_sums d m = refl
factor-multiplied schurs d m = absurd m

pub factor-positive : (target : Basis) (d : ℕ) → 1 ≤ clearing_factor target d
factor-positive Basis.monomials d = omega arith
factor-positive elementaries d = factorial-positive d
factor-positive completes d = factorial-positive d
factor-positive power_sums d = factorial-positive d
factor-positive schurs d = omega arith

pub factor-within : (target : Basis) (d : ℕ) → clearing_factor target d ≤ growth target d
factor-within Basis.monomials d = growth-positive d
factor-within elementaries d = omega (arith, same_growth Elementary d, factorial-within d)
factor-within completes d = factorial-within d
factor-within power_sums d = omega (arith, same_growth PowerSum d, factorial-within d)
factor-within schurs d = omega (arith, growth-least schurs d, growth-positive d)

-- the greatest degree that is allowed for a target (`degree_limit`) is at most 20
pub limit-most : (target : Basis) → degree_limit target ≤ 20
limit-most Basis.monomials = omega arith
limit-most elementaries = omega arith
limit-most completes = omega arith
limit-most power_sums = omega arith
limit-most schurs = omega arith

pub large-factor : (target : Basis) (N D d : ℕ) → 1 ≤ N → 2 ^ 127 ≤ D * clearing_factor target d → 2 ^ 127 ≤ N * D * growth target d
large-factor target N D d n h =
    let t = mul-le 1 D N D n (omega arith) in
    let m = mul-le D (clearing_factor target d) (N * D) (growth target d) (omega arith) (factor-within target d) in
    omega arith

pub failed : (target : Basis) (size : ℕ) (list : WholeTerms) (r : Result WholeTerms SumFault) (fault : SumFault) → IsErr r → IsErrAnd r (λ y. y ≡ fault)
    → (fault ≡ Large → (N : ℕ) → IsBoundedBy N list → 2 ^ 127 ≤ N * growth target size)
    → IsChanged target size list r
failed target size list (Ok v) fault h k l = cc
failed target size list (Err x) fault h k l = search rules

-- a list in the monomial basis m with integer coefficients, unchanged, is a result of changing the list into the target basis m (`IsChanged`)
pub unchanged : (size : ℕ) (list : WholeTerms) → IsWholeTable list → IsChanged Basis.monomials size list (Ok list)
unchanged size list is = search (rules, coefficient_scale, one-product)
