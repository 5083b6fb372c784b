use Rattle.std.proofs.Common.{rules}
use Rattle.lr_product.proofs.Agreeing.{agree_then, agree_same}
use Rattle.lr_product.proofs.ColumnExtension.{extended-seen}
use Rattle.lr_product.proofs.step.add_columns.Goals as goal
use Rattle.std.proofs.lemmas.Result.{on_ok_weaker}

pub returns-clause-adds : goal.returns-clause-adds
returns-clause-adds c = search (rules, on_ok_weaker, agree_then, agree_same, extended-seen)
