-- Proofs of the clauses of `joined_commands_law`.
use Rattle.calc_words.proofs.Joining.{joined_freely, joined_first, joined_syntax}
use Rattle.calc_words.proofs.joined.joined_commands_law.Goals as goal

pub returns-clause-says : goal.returns-clause-says
returns-clause-says c = joined_freely

pub returns-clause-offends : goal.returns-clause-offends
returns-clause-offends c = joined_first

pub returns-clause-goes_wrong : goal.returns-clause-goes_wrong
returns-clause-goes_wrong c = joined_syntax
