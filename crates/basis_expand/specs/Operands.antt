-- The values of expressions that are expanded in Schur polynomials: a value is an atom (a basis element such as e[2,1]), or a list of terms in Schur
-- polynomials.
use Rattle.std.specs.Prelude.{◌≡◌}
use Rattle.sym_model.specs.Expression.{Tree, atom}
use Rattle.expression_reading.specs.Trees.{basis_of}
use Rattle.basis_expand.specs.declared.operand.Operand.{Operand}
use Rattle.basis_expand.specs.declared.operand.Operand.TheVariants.{Atom, Expanded}
use Rattle.basis_expand.specs.SchurLists.{StandsFor}

-- the operand is an atom and the expression is this atom, or the operand is a list, which is the expansion of the expression in Schur polynomials
abbrev pub IsOperand : Tree → Operand → Type 0
IsOperand e (Atom basis label) = e ≡ atom (basis_of basis) label
IsOperand e (Expanded list) = StandsFor e list

-- holds for every expression: `Large` may be returned for any of them, and the caller then uses another method
abbrev pub MayBeRefused : Tree → Type 0
MayBeRefused e = Unit {0}
