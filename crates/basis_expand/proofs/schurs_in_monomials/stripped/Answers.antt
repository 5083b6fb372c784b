use Rattle.std.proofs.Common.{[], subst, rules}
use Rattle.linear_combinations.specs.Gains.{Gains}
use Rattle.linear_combinations.proofs.Found.{gains_same}
use Rattle.linear_combinations.proofs.Steps.{error_is}
use Rattle.basis_expand.specs.Strips.{strip_terms}
use Rattle.basis_expand.proofs.schurs_in_monomials.stripped.Goals as goal

pub returns-clause-value : goal.returns-clause-value
returns-clause-value c =
    let added = strip_terms c.args.k c.args.terms.now in
    gains_same [] added c.add_by.new.self (subst (λ old. Gains old added c.add_by.new.self)
    c.new-list.ensures c.in_ok-add_by.ensures.gains)

pub returns-in_err-add_by-clause-large : goal.returns-in_err-add_by-clause-large
returns-in_err-add_by-clause-large c = search (rules, error_is)
