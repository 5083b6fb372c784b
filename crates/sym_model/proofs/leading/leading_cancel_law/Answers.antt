use Rattle.sym_model.proofs.LeadingTerms.{leading_cancel, leading_nothing, leads_times, leads_first}
use Rattle.sym_model.proofs.leading.leading_cancel_law.Goals as goal

pub returns-clause-cancel : goal.returns-clause-cancel
returns-clause-cancel c = leading_cancel

pub returns-clause-not_zero : goal.returns-clause-not_zero
returns-clause-not_zero c = leading_nothing

pub returns-clause-product : goal.returns-clause-product
returns-clause-product c = leads_times

pub returns-clause-first_term : goal.returns-clause-first_term
returns-clause-first_term c = leads_first
