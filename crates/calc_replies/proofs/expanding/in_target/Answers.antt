use Rattle.std.proofs.Common.{◌≡◌, ◌≤◌, ◌^◌, ℕ, Result, List, sym, subst}
use Rattle.std.specs.Prelude.{IfOk, IsErrOf}
use Rattle.sym_model.specs.Expansion.{Terms, IsExpansionOf}
use Rattle.sym_model.specs.Expression.{cleared_value, denominator}
use Rattle.sym_model.specs.Weight.{weight}
use Rattle.calc_base.specs.declared.faults.SumFault.{SumFault}
use Rattle.calc_base.specs.declared.faults.SumFault.TheVariants.{Large}
use Rattle.calc_base.specs.declared.words.Basis.{Basis as Letter}
use Rattle.calc_base.specs.declared.words.Basis.TheVariants as letters
use Rattle.expression_reading.specs.declared.expr.Expr.{Expr}
use Rattle.expression_reading.specs.Trees.{basis_of, tree_of}
use Rattle.calc_replies.proofs.expanding.in_target.Goals as goal

expands : {a b : Letter} → a ≡ b → (t : Expr) (r : Result (Terms (List ℕ)) SumFault)
    → IfOk r (λ list. (n : ℕ) → IsExpansionOf (basis_of a) list n (cleared_value (tree_of t) n)
    (denominator (tree_of t)))
    → IfOk r (λ list. (n : ℕ) → IsExpansionOf (basis_of b) list n (cleared_value (tree_of t) n)
    (denominator (tree_of t)))
expands e t r h = subst (λ l. IfOk r (λ list. (n : ℕ) → IsExpansionOf (basis_of l) list n
    (cleared_value (tree_of t) n) (denominator (tree_of t)))) e h

large : {a b : Letter} → a ≡ b → (t : Expr) (r : Result (Terms (List ℕ)) SumFault) →
    (IsErrOf r Large → 2 ^ 127 ≤ weight (basis_of a) (tree_of t)) → IsErrOf r Large →
    2 ^ 127 ≤ weight (basis_of b) (tree_of t)
large e t r h = subst (λ l. IsErrOf r Large → 2 ^ 127 ≤ weight (basis_of l) (tree_of t)) e h

pub returns-in-M-clause-expands : goal.returns-in-M-clause-expands
returns-in-M-clause-expands c = expands (sym c.in-M.is) c.args.formula.now.tree
    c.to_monomial_by_schurs.result c.to_monomial_by_schurs.ensures.value

pub returns-in-M-clause-large : goal.returns-in-M-clause-large
returns-in-M-clause-large c = large (sym c.in-M.is) c.args.formula.now.tree
    c.to_monomial_by_schurs.result c.to_monomial_by_schurs.ensures.large

pub returns-in-E-clause-expands : goal.returns-in-E-clause-expands
returns-in-E-clause-expands c = expands (sym c.in-E.is) c.args.formula.now.tree c.by_family.result
    c.by_family.ensures.expands

pub returns-in-E-clause-large : goal.returns-in-E-clause-large
returns-in-E-clause-large c = large (sym c.in-E.is) c.args.formula.now.tree c.by_family.result
    c.by_family.ensures.large

pub returns-in-H-clause-expands : goal.returns-in-H-clause-expands
returns-in-H-clause-expands c = expands (sym c.in-H.is) c.args.formula.now.tree
    c.by_family-in-H.result c.by_family-in-H.ensures.expands

pub returns-in-H-clause-large : goal.returns-in-H-clause-large
returns-in-H-clause-large c = large (sym c.in-H.is) c.args.formula.now.tree c.by_family-in-H.result
    c.by_family-in-H.ensures.large

pub returns-in-P-clause-expands : goal.returns-in-P-clause-expands
returns-in-P-clause-expands c = expands (sym c.in-P.is) c.args.formula.now.tree
    c.by_family-in-P.result c.by_family-in-P.ensures.expands

pub returns-in-P-clause-large : goal.returns-in-P-clause-large
returns-in-P-clause-large c = large (sym c.in-P.is) c.args.formula.now.tree c.by_family-in-P.result
    c.by_family-in-P.ensures.large

pub returns-in-S-clause-expands : goal.returns-in-S-clause-expands
returns-in-S-clause-expands c = expands (sym c.in-S.is) c.args.formula.now.tree c.to_schur.result
    c.to_schur.ensures.value

pub returns-in-S-clause-large : goal.returns-in-S-clause-large
returns-in-S-clause-large c = large (sym c.in-S.is) c.args.formula.now.tree c.to_schur.result
    c.to_schur.ensures.large
