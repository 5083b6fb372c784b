use Rattle.calc_words.proofs.ReadParts.{wrong_as}
use Rattle.calc_words.proofs.command_words.CommandWords.places.Goals as goal

pub returns-clause-wrong : goal.returns-clause-wrong
returns-clause-wrong c = wrong_as _ _ _ _ c.cut.result c.requires.named c.cut.ensures.wrong
