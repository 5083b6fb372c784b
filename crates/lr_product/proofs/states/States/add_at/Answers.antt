use Rattle.std.proofs.Common.{rules}
use Rattle.lr_product.proofs.CountedStates.{entries_length, agree_put}
use Rattle.lr_product.proofs.Tables.{capped_sum}
use Rattle.lr_product.proofs.states.States.add_at.Goals as goal

pub index-had-requires : goal.index-had-requires
index-had-requires c = search (rules, entries_length)

pub index_mut-requires : goal.index_mut-requires
index_mut-requires c = search (rules, entries_length)

pub returns-clause-adds : goal.returns-clause-adds
returns-clause-adds c = search (rules, agree_put, capped_sum)
