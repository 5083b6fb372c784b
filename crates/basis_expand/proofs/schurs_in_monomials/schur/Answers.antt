use Rattle.std.proofs.Common.{[], ◌∷◌, List, ℕ, pos, subst, ap, Err, rules}
use Rattle.sym_model.specs.Polynomial.{Same}
use Rattle.linear_combinations.proofs.Steps.{error_is, IsCombination-empty}
use Rattle.basis_expand.proofs.StripTables.{leads-start, many-alone}
use Rattle.basis_expand.proofs.ContentCounts.{limits-content, list-counted}
use Rattle.basis_expand.proofs.schurs_in_monomials.schur.Goals as goal

pub add_contents-requires-clause-limits : goal.add_contents-requires-clause-limits
add_contents-requires-clause-limits c = search (rules, limits-content)

pub add_contents-requires-clause-table : goal.add_contents-requires-clause-table
add_contents-requires-clause-table c = search (rules, IsCombination-empty)

pub returns-in_err-add_contents-clause-large : goal.returns-in_err-add_contents-clause-large
returns-in_err-add_contents-clause-large c = λ large.
    many-alone c.args.label.now c.in_ok-terms.terms c.size-cells.ensures.limits.partition
    c.in_ok-terms.ensures.table
    (subst (λ (l : List ℕ). Same c.in_ok-terms.terms ((l, pos 1) ∷ [])) c.parts.ensures.value
    c.in_ok-terms.ensures.value)
    (c.in_err-add_contents.ensures.large
    (ap Err (error_is _ _ _ c.from_residual-in_err-add_contents.ensures.1 large))
    c.in_ok-terms.terms []
    (leads-start c.in_ok-terms.terms))

pub returns-clause-value : goal.returns-clause-value
returns-clause-value c =
    list-counted c.args.label.now c.size-cells.result c.in_ok-terms.terms c.new-list.result
    c.add_contents.new.list
    c.size-cells.ensures.limits.partition c.size-cells.ensures.value c.new-list.ensures
    (subst (λ (l : List ℕ). Same c.in_ok-terms.terms ((l, pos 1) ∷ [])) c.parts.ensures.value
    c.in_ok-terms.ensures.value)
    c.in_ok-add_contents.ensures.counted
