use Rattle.std.proofs.Common.{rules}
use Rattle.calc_language.proofs.ReadTableaux.{letters_as_shape}
use Rattle.calc_language.proofs.pairs.tableaux_of.Goals as goal

pub straight-requires-2-clause-few : goal.straight-requires-2-clause-few
straight-requires-2-clause-few c = search (rules, letters_as_shape)
