use Rattle.std.proofs.Common.{rules}
use Rattle.lr_product.proofs.Tables.{agree_new}
use Rattle.lr_product.proofs.table.Table.add.Goals as goal
use Rattle.std.proofs.lemmas.Result.{on_ok_weaker}

pub returns-in-Err-clause-adds : goal.returns-in-Err-clause-adds
returns-in-Err-clause-adds c = search (rules, on_ok_weaker, agree_new)
