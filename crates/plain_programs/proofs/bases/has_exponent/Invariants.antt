use Rattle.std.proofs.Common.{◌≡◌, drop}
use Rattle.sym_model.specs.Bases.{has}
use Rattle.plain_programs.proofs.bases.has_exponent.Given as goal

abbrev pub invariant-loop-exponent : goal.invariant-loop-exponent
invariant-loop-exponent l = has l.wanted (drop l.exponent-index l.exponents) ≡ has l.wanted l.exponents
