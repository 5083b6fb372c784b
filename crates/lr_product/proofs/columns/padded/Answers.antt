use Rattle.std.proofs.Common.{length-append, rules}
use Rattle.lr_product.proofs.Rounds.{resize-zero, resize-full}
use Rattle.lr_product.proofs.columns.padded.Goals as goal

pub loop-state-preserved : goal.loop-state-preserved
loop-state-preserved c = search (rules, resize-zero, length-append)

pub returns : goal.returns
returns c = search (rules, resize-full)
