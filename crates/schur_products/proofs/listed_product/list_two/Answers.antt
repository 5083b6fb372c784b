use Rattle.std.proofs.Common.{rules}
use Rattle.schur_products.proofs.Exchanged.{if_given, lists_swapped}
use Rattle.schur_products.proofs.listed_product.list_two.Goals as goal

pub returns-then-rows : goal.returns-then-rows
returns-then-rows c = search (rules, if_given, lists_swapped)
