use Rattle.std.proofs.Common.{rules}
use Rattle.lr_product.proofs.Raising.{placed}
use Rattle.lr_product.proofs.letters.raise.Goals as goal
use Rattle.std.proofs.lemmas.List.{get_or_read}

pub returns-then-letter-gt0 : goal.returns-then-letter-gt0
returns-then-letter-gt0 c = search (rules, get_or_read, placed)
