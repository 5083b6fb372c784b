use Rattle.insertion_laws.proofs.ReadingWords.{only_tableau_of, tableau_class}
use Rattle.insertion_laws.proofs.Triples.{class_tableau}
use Rattle.insertion_laws.proofs.knuth_words.class_law.Goals as goal

pub returns-clause-stays : goal.returns-clause-stays
returns-clause-stays c = tableau_class

pub returns-clause-same : goal.returns-clause-same
returns-clause-same c = class_tableau

pub returns-clause-only : goal.returns-clause-only
returns-clause-only c = only_tableau_of
