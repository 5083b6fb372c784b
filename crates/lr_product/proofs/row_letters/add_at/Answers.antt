use Rattle.std.proofs.Common.{rules}
use Rattle.lr_product.proofs.RowFilling.{added-set}
use Rattle.lr_product.proofs.row_letters.add_at.Goals as goal
use Rattle.std.proofs.lemmas.List.{get_or_read}

pub returns : goal.returns
returns c = search (rules, get_or_read, added-set)
