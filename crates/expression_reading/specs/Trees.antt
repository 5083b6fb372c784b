-- The expressions and bases of the program (`Expr`, `Letter`) as those of the types in the definitions of `sym_model` (`Tree`, `Basis`), and the
-- bounds of a `Formula`.
use Rattle.std.specs.Prelude.{pos, ◌≤◌, nat_abs, Bool, true, ◌&&◌, IsTrue}
use lib.Signed.{le_z, lt_z}
use Rattle.calc_base.specs.declared.words.Basis.{Basis as Letter}
use Rattle.calc_base.specs.declared.words.Basis.TheVariants.{M, E, H, P, S}
use Rattle.sym_model.specs.Expansion.{Basis, monomials, elementaries, completes, power_sums, schurs}
use Rattle.sym_model.specs.Expression.{Tree, number, fraction, atom, negation, sum, difference}
use Rattle.sym_model.specs.Expression.{product, degree, nesting}
use Rattle.expression_reading.specs.declared.expr.Expr.{Expr, Number, Fraction, Atom, Negation'}
use Rattle.expression_reading.specs.declared.expr.Expr.{Sum', Difference', Product'}

-- a basis of the program, as a basis of the type in the definitions (`sym_model`)
abbrev pub basis_of : Letter → Basis
basis_of M = monomials
basis_of E = elementaries
basis_of H = completes
basis_of P = power_sums
basis_of S = schurs

-- an expression of the program, as an expression of the type in the definitions (`sym_model`); each number is replaced by its absolute value
abbrev pub tree_of : Expr → Tree
tree_of (Number num) = number (nat_abs num)
tree_of (Fraction num den) = fraction (nat_abs num) (nat_abs den)
tree_of (Atom basis label) = atom (basis_of basis) label
tree_of (Negation' p inner) = negation (tree_of inner)
tree_of (Sum' p left q right) = sum (tree_of left) (tree_of right)
tree_of (Difference' p left q right) = difference (tree_of left) (tree_of right)
tree_of (Product' p left q right) = product (tree_of left) (tree_of right)

-- whether all numbers and numerators of the expression are at least 0, and all denominators are positive
abbrev pub has_no_signs : Expr → Bool
has_no_signs (Number num) = le_z (pos 0) num
has_no_signs (Fraction num den) = le_z (pos 0) num && lt_z (pos 0) den
has_no_signs (Atom basis label) = true
has_no_signs (Negation' p inner) = has_no_signs inner
has_no_signs (Sum' p left q right) = has_no_signs left && has_no_signs right
has_no_signs (Difference' p left q right) = has_no_signs left && has_no_signs right
has_no_signs (Product' p left q right) = has_no_signs left && has_no_signs right

-- the bounds of a `Formula`: no negative number and no denominator 0, a nesting of at most 4096 and a degree of at most 20
pub record IsFormula (e : Expr) : Type 0 where
  pub numbers : IsTrue (has_no_signs e)
  pub nested : nesting (tree_of e) ≤ 4096
  pub low : degree (tree_of e) ≤ 20
