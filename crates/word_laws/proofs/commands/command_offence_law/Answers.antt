-- The proof of `command_offence_law`: the first error of a list of errors is one of them, and none of them is before it.
use Rattle.word_laws.proofs.FirstOffences.{first-among, none-before, none-empty, first_none}
use Rattle.word_laws.proofs.commands.command_offence_law.Goals as goal

pub returns-clause-is_one : goal.returns-clause-is_one
returns-clause-is_one c = first-among

pub returns-clause-none_before : goal.returns-clause-none_before
returns-clause-none_before c = none-before

pub returns-clause-none : goal.returns-clause-none
returns-clause-none c = λ os. (first_none os, none-empty os)
