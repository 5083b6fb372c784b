use Rattle.std.proofs.Common.{◌≡◌, drop}
use Rattle.sym_model.specs.Bases.{at_most_one}
use Rattle.plain_programs.proofs.bases.is_at_most_one.Given as goal

abbrev pub invariant-loop-exponent : goal.invariant-loop-exponent
invariant-loop-exponent l = at_most_one (drop l.exponent-index l.exponents) ≡ at_most_one l.exponents
