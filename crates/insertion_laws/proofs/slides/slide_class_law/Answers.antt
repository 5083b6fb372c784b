use Rattle.insertion_laws.proofs.SlidWords.{reached_only, slide_class}
use Rattle.insertion_laws.proofs.slides.slide_class_law.Goals as goal

pub returns-clause-class : goal.returns-clause-class
returns-clause-class c = slide_class

pub returns-clause-reached : goal.returns-clause-reached
returns-clause-reached c = reached_only
