-- The proof of `syntax_place_law`, on the place of the first error of syntax of words.
use Rattle.word_laws.proofs.LongestPrefixes.{taken_longest}
use Rattle.word_laws.proofs.EntryLists.{syntax_sound, command_sound, one_place}
use Rattle.word_laws.proofs.ExpressionWords.{bytes_longest}
use Rattle.word_laws.proofs.commands.syntax_place_law.Goals as goal

pub returns-clause-longest_prefix : goal.returns-clause-longest_prefix
returns-clause-longest_prefix c = taken_longest

pub returns-clause-place : goal.returns-clause-place
returns-clause-place c = syntax_sound

pub returns-clause-command : goal.returns-clause-command
returns-clause-command c = command_sound

pub returns-clause-bytes : goal.returns-clause-bytes
returns-clause-bytes c = bytes_longest

pub returns-clause-one_place : goal.returns-clause-one_place
returns-clause-one_place c = one_place
