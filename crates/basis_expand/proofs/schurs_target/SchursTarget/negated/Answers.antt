use Rattle.std.proofs.Common.{subst, sym, ◌∙◌, rules}
use Rattle.std.specs.Prelude.{nat_eq}
use Rattle.std.specs.Cmp.Lexicographic.{pointwise}
use Rattle.sym_model.specs.Expansion.{Fraction}
use Rattle.sym_model.specs.Expression.{negation}
use Rattle.sparse_polys.specs.Combination.{IsMultipleOf}
use Rattle.basis_expand.proofs.Making.{done, failed}
use Rattle.basis_expand.specs.Operands.{IsOperand, MayBeRefused}
use Rattle.basis_expand.proofs.Expressions.{negation-list, negation-nothing}
use Rattle.basis_expand.proofs.schurs_target.SchursTarget.negated.Goals as goal

pub list_of-requires : goal.list_of-requires
list_of-requires c = let t = c.requires.1 in (c.requires.0, c.requires.2, t.low)

pub returns-in_err-terms : goal.returns-in_err-terms
returns-in_err-terms c e t h = search (rules, failed)

pub returns-in_err-list : goal.returns-in_err-list
returns-in_err-list c e t h = search (rules, failed)

pub returns : goal.returns
returns c e t h =
    done IsOperand MayBeRefused (negation e) _
    (negation-list e c.in_ok-terms.terms c.in_ok-list.list c.len.ensures.combination
    c.in_ok-list.ensures.combination
    (subst (λ (x : Fraction). IsMultipleOf (pointwise nat_eq) c.in_ok-terms.terms x
    c.in_ok-list.list) c.from_whole.ensures.value c.in_ok-list.ensures.product)
    (c.in_ok-terms.ensures e h))

pub returns-then-len-eq0 : goal.returns-then-len-eq0
returns-then-len-eq0 c e t h =
    done IsOperand MayBeRefused (negation e) _
    (negation-nothing e c.in_ok-terms.terms (sym c.len.ensures.len ∙ c.if-len-eq0.true)
    (c.in_ok-terms.ensures e h))
