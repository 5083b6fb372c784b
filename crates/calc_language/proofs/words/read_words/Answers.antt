use Rattle.std.proofs.Common.{map, rules}
use Rattle.std.specs.Prelude.{string_bytes}
use Rattle.calc_words.proofs.ReadingFacts.{accepts, refuses, goes_wrong}
use Rattle.calc_language.proofs.Entries.{within}
use Rattle.calc_language.proofs.words.read_words.Goals as goal

pub returns-clause-within : goal.returns-clause-within
returns-clause-within c = within (map string_bytes c.args.words.now) c.read.result c.read.ensures

pub returns-clause-accepts : goal.returns-clause-accepts
returns-clause-accepts c = search (rules, accepts)

pub returns-clause-refuses : goal.returns-clause-refuses
returns-clause-refuses c = search (rules, refuses)

pub returns-clause-goes_wrong : goal.returns-clause-goes_wrong
returns-clause-goes_wrong c = search (rules, goes_wrong)
