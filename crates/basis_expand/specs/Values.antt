-- The results of evaluating an expression in a target, the basis of the result with its operations. A value *represents* an expression e in the
-- sense of a relation `Stands`, and an expression is *heavy* if a property `Heavy` holds for it; each target defines both.
use Rattle.std.specs.Prelude.{ℕ, ◌≤◌, Result, IfOk, IsErrOf}
use Rattle.calc_base.specs.declared.faults.SumFault.{SumFault}
use Rattle.calc_base.specs.declared.faults.SumFault.TheVariants.{Large}
use Rattle.sym_model.specs.Expression.{Tree, denominator, degree}
use Rattle.sym_model.specs.Weight.{numerator}
use Rattle.monomial_laws.specs.ExpressionTerms.{HasDenominators}

-- a result without an error is a value v that represents e (`Stands e v`), and `Large` is returned only if e is heavy (`Heavy e`)
pub record IsMade {V : Type 0} (Stands : Tree → V → Type 0) (Heavy : Tree → Type 0) (e : Tree)
    (result : Result V SumFault) : Type 0 where
  pub ok : IfOk result (Stands e)
  pub large : IsErrOf result Large → Heavy e

-- the expression e can be evaluated: its denominators are positive, and its degree is at most `limit`
pub record IsTaken (limit : ℕ) (e : Tree) : Type 0 where
  pub plain : HasDenominators e
  pub low : degree e ≤ limit

-- `left` and `right` represent (`Stands`) some expressions e and f such that `node e f` has positive denominators and a degree of at most `limit`
abbrev pub AreOperands : {V : Type 0} → (Tree → Tree → Tree) → ℕ → (Tree → V → Type 0) → V → V
    → Type 0
AreOperands node limit Stands left right =
    (e f : Tree) × IsTaken limit (node e f) × Stands e left × Stands f right

-- for all expressions e and f that `left` and `right` represent (`Stands`): if `node e f` has positive denominators and a degree of at most
-- `limit`, then a result without an error represents `node e f`, and `Large` is returned only if `node e f` is heavy (`Heavy`)
abbrev pub IsMadeOf : {V : Type 0} → (Tree → Tree → Tree) → ℕ → (Tree → V → Type 0)
    → (Tree → Type 0) → V → V → Result V SumFault → Type 0
IsMadeOf node limit Stands Heavy left right result =
    (e f : Tree) → IsTaken limit (node e f) → Stands e left → Stands f right
    → IsMade Stands Heavy (node e f) result

-- the numerator, the denominator and the degree of e, which determine its weight, are at most those of f
pub record IsNoHeavier (e f : Tree) : Type 0 where
  pub num : numerator e ≤ numerator f
  pub den : denominator e ≤ denominator f
  pub deg : degree e ≤ degree f
