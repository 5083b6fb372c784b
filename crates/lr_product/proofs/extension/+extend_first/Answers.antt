use Rattle.std.proofs.Common.{rules}
use Rattle.lr_product.proofs.Raising.{size-raised, length-placed, width_placed}
use Rattle.lr_product.proofs.Agreeing.{agree_then, agree_same}
use Rattle.lr_product.proofs.Pruned.{falls-placed}
use Rattle.lr_product.proofs.FreeLetters.{only-letter}
use Rattle.lr_product.proofs.extension.+extend_first.Goals as goal
use Rattle.std.proofs.lemmas.Result.{on_ok_weaker}

pub extend_first-requires : goal.extend_first-requires
extend_first-requires t c = search (rules, length-placed, size-raised, width_placed, falls-placed)

pub returns-in-Some-clause-adds : goal.returns-in-Some-clause-adds
returns-in-Some-clause-adds t c = search (rules, on_ok_weaker, agree_then, agree_same, only-letter)

pub returns-in-Some-clause-reached : goal.returns-in-Some-clause-reached
returns-in-Some-clause-reached t c = search (rules, size-raised, on_ok_weaker)
