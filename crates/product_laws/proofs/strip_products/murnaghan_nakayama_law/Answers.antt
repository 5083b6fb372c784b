use Rattle.product_laws.proofs.RimHookSums.{rim_hooks}
use Rattle.product_laws.proofs.strip_products.murnaghan_nakayama_law.Goals as goal

pub returns : goal.returns
returns c = record { rim_hooks = rim_hooks }
