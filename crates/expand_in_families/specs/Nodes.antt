-- The relation between expressions and their values in the target basis, which is e, h or p in which they are expanded. A value is a list of terms in
-- the target basis, a denominator and a degree. The weight of an expression for a target is a bound for the numbers in its expansion.
use Rattle.std.specs.Prelude.{◌≡◌, ℕ, ◌*◌, ◌^◌, ◌≤◌, Result}
use Rattle.calc_base.specs.declared.faults.SumFault.{SumFault}
use Rattle.sym_model.specs.Polynomial.{Poly}
use Rattle.sym_model.specs.Expansion.{Basis}
use Rattle.sym_model.specs.Expression.{Tree, denominator, degree, cleared_value}
use Rattle.sym_model.specs.Weight.{factorial, growth, numerator, weight}
use Rattle.basis_change_laws.specs.JoinedLists.{Stands}
use Rattle.basis_expand.specs.Values.{IsMade}
use Rattle.expand_in_families.specs.declared.node.Node.{Node}

-- the list `c.terms` is the value of e times its denominator `c.den` and d!, with d = `c.degree` the degree of e; a label of the list denotes the
-- product of the polynomials P over its parts. The absolute values of the coefficients add up to at most d!·(2d)^d times the bound `numerator` of e.
pub record ClearsTo (P : ℕ → ℕ → Poly) (e : Tree) (c : Node) : Type 0 where
  pub den_is : c.den ≡ denominator e
  pub degree_is : c.degree ≡ degree e
  pub stands : Stands P (factorial (degree e)) (numerator e * growth Basis.completes (degree e))
      (degree e) (cleared_value e) c.terms

-- the weight of e for the target basis h is 2^127 or more
abbrev pub IsHeavyInFamilies : Tree → Type 0
IsHeavyInFamilies e = 2 ^ 127 ≤ weight Basis.completes e

-- a result without an error represents e (`ClearsTo`): its list is e times the denominator and the factorial of the degree of e; `Large` is returned
-- only if the weight of e for the target basis h is 2^127 or more
abbrev pub IsConverted : (ℕ → ℕ → Poly) → Tree → Result Node SumFault → Type 0
IsConverted P e result = IsMade (ClearsTo P) IsHeavyInFamilies e result
