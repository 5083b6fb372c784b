use Rattle.std.proofs.Common.{[], ap, Err, rules}
use Rattle.linear_combinations.proofs.Steps.{error_is, IsCombination-empty}
use Rattle.basis_expand.proofs.StripTables.{leads-start}
use Rattle.basis_expand.proofs.ContentCounts.{limits-content, lists-counted}
use Rattle.basis_expand.proofs.schurs_in_monomials.schurs_to_monomials.Goals as goal

pub add_contents-requires-clause-limits : goal.add_contents-requires-clause-limits
add_contents-requires-clause-limits c = search (rules, limits-content)

pub add_contents-requires-clause-table : goal.add_contents-requires-clause-table
add_contents-requires-clause-table c = search (rules, IsCombination-empty)

pub returns-in_err-add_contents-clause-large : goal.returns-in_err-add_contents-clause-large
returns-in_err-add_contents-clause-large c = λ large.
    c.in_err-add_contents.ensures.large (ap Err (error_is _ _ _ c.from_residual.ensures.1 large))
    c.args.terms.now []
    (leads-start c.args.terms.now)

pub returns-clause-value : goal.returns-clause-value
returns-clause-value c =
    lists-counted c.args.cells c.args.terms.now c.new-list.result c.add_contents.new.list
    c.in_ok-add_contents.ensures.terms c.requires.within
    c.new-list.ensures c.in_ok-add_contents.ensures.counted
