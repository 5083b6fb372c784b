-- The proof of `one_command_law`: words spell at most one command and have at most one first error.
use Rattle.std.proofs.Common.{refl}
use Rattle.expression_laws.proofs.PhraseRuns.{one_phrase}
use Rattle.word_laws.proofs.EntryLists.{one_command, one_offence}
use Rattle.word_laws.proofs.commands.one_command_law.Goals as goal

pub returns-clause-all_commands : goal.returns-clause-all_commands
returns-clause-all_commands c = refl

pub returns-clause-line_commands : goal.returns-clause-line_commands
returns-clause-line_commands c = refl

pub returns-clause-one_command : goal.returns-clause-one_command
returns-clause-one_command c = one_command one_phrase

pub returns-clause-one_offence : goal.returns-clause-one_offence
returns-clause-one_offence c = one_offence one_phrase
