use Rattle.std.proofs.Common.{rules}
use Rattle.sym_model.proofs.Signs.{even_sign}
use Rattle.coeff_rings.proofs.CheckedResults.{negated_number}
use Rattle.beta_sets.proofs.signs.turned.Goals as goal

pub returns-then-times-eq0 : goal.returns-then-times-eq0
returns-then-times-eq0 c = even_sign c.args.times c.args.c c.if-times-eq0.true

pub returns-else-times-eq0 : goal.returns-else-times-eq0
returns-else-times-eq0 c = search (rules, negated_number)
