-- Expressions as lists of terms in the monomial basis m: a list with integer coefficients and a number represent an expression if the number is the
-- denominator of the expression, and the list is the expression times this denominator.
use Rattle.std.specs.Prelude.{◌≡◌, ◌^◌, ◌≤◌, Result}
use Rattle.calc_base.specs.declared.faults.SumFault.{SumFault}
use Rattle.sym_model.specs.Expansion.{monomials}
use Rattle.sym_model.specs.Expression.{Tree, denominator}
use Rattle.sym_model.specs.Weight.{weight}
use Rattle.monomial_laws.specs.ExpressionTerms.{IsCleared}
use Rattle.basis_expand.specs.Values.{IsMade}
use Rattle.basis_expand.specs.declared.cleared.Cleared.{Cleared}

-- the list `c.terms` in m with integer coefficients is the value of e times its denominator, and `c.den` is this denominator
pub record ClearsTo (e : Tree) (c : Cleared) : Type 0 where
  pub den_is : c.den ≡ denominator e
  pub value : IsCleared c.terms e

-- the weight of e for the target basis m is 2^127 or more
abbrev pub IsHeavyInMonomials : Tree → Type 0
IsHeavyInMonomials e = 2 ^ 127 ≤ weight monomials e

-- a result without an error is a list and a denominator that represent e (`ClearsTo`); `Large` is returned only if the weight of e for the target
-- basis m is 2^127 or more
abbrev pub IsConverted : Tree → Result Cleared SumFault → Type 0
IsConverted e result = IsMade ClearsTo IsHeavyInMonomials e result
