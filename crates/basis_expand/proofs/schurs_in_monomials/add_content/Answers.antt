use Rattle.std.proofs.Common.{[], ◌∷◌, ◌++◌, subst, rules}
use Rattle.std.specs.Cmp.Lexicographic.{nat_list_eq_equiv}
use Rattle.sym_model.specs.Polynomial.{Same}
use Rattle.linear_combinations.proofs.Labels.{same_partition}
use Rattle.linear_combinations.proofs.Found.{gains_same}
use Rattle.linear_combinations.proofs.Gains.{gains_term}
use Rattle.sparse_polys.proofs.WholeLists.{not_refused}
use Rattle.basis_expand.proofs.ContentCounts.{counts-end, nothing-more, fresh-found}
use Rattle.basis_expand.proofs.schurs_in_monomials.add_content.Goals as goal
use Rattle.std.proofs.lemmas.Result.{on_ok_weaker}

pub returns-then-is_zero-clause-counted : goal.returns-then-is_zero-clause-counted
returns-then-is_zero-clause-counted c = search (rules, counts-end, nothing-more)

pub returns-clause-counted : goal.returns-clause-counted
returns-clause-counted c = λ left.
    let label = c.in_ok-label.label in
    let ways = c.coefficient-ways.result in
    let old = c.args.list.now in
    let new = c.add_term.new.self in
    on_ok_weaker c.add_term.result (λ more.
    counts-end c.args.terms.now c.args.chosen.now c.in_ok-nothing.nothing left ways old new
    c.coefficient-ways.ensures.combination
    c.in_ok-nothing.ensures.ok c.coefficient-ways.ensures.value c.requires.fresh
    (subst (λ l. Same new (old ++ (l, ways) ∷ [])) c.in_ok-label.ensures.ok
    (gains_same old ((label, ways) ∷ []) new
    (gains_term nat_list_eq_equiv same_partition old new
    c.add_term.ensures.tables.before.combination c.add_term.ensures.tables.after.combination label ways more)))) c.add_term.ensures.ok

pub returns-clause-small : goal.returns-clause-small
returns-clause-small c = search (rules, not_refused, fresh-found)
