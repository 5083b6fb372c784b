-- The proof of `words_of_commands_law`: for each command there are words of its form, and the expression of a command `expand` has a bounded degree.
use Rattle.word_laws.proofs.CommandFacts.{has_words, expression_degree}
use Rattle.word_laws.proofs.commands.words_of_commands_law.Goals as goal

pub returns-clause-words : goal.returns-clause-words
returns-clause-words c = has_words

pub returns-clause-degree : goal.returns-clause-degree
returns-clause-degree c = expression_degree
