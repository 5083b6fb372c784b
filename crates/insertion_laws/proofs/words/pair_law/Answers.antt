use Rattle.insertion_laws.proofs.WordsAndPairs.{pair_back, word_again}
use Rattle.insertion_laws.proofs.words.pair_law.Goals as goal

pub returns-clause-inserted : goal.returns-clause-inserted
returns-clause-inserted c = pair_back

pub returns-clause-back : goal.returns-clause-back
returns-clause-back c = word_again
