use Rattle.std.proofs.Common.{take}
use Rattle.lr_coproduct.proofs.Exchanging.{ListsExchanged}
use Rattle.lr_coproduct.proofs.exchange.exchanged.Given as goal

abbrev pub invariant-loop-at : goal.invariant-loop-at
invariant-loop-at l = ListsExchanged l.shape l.inner (take l.at l.inners) l.terms.items
