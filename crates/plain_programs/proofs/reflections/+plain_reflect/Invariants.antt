use Rattle.sym_model.specs.AlcoveReduction.{squares}
use Rattle.plain_programs.proofs.reflections.+plain_reflect.Given as goal

abbrev pub decreases-plain_reflect : goal.decreases-plain_reflect
decreases-plain_reflect l = squares l.list.now
