use Rattle.std.proofs.Common.{rules}
use Rattle.lr_product.proofs.RowFilling.{added-undone}
use Rattle.lr_product.proofs.row_letters.take_letters.Goals as goal
use Rattle.std.proofs.lemmas.List.{get_or_read}

pub returns : goal.returns
returns c before after was len within = search (rules, get_or_read, added-undone)
