use Rattle.std.proofs.Common.{subst, sym}
use Rattle.schubert_transition.specs.Kept.{IsSchubertStore}
use Rattle.schubert_transition.proofs.KeptEntries.{promoted_store}
use Rattle.schubert_transition.proofs.memo.Memo.promote.Goals as goal

pub invariant_of-self : goal.invariant_of-self
invariant_of-self c = subst IsSchubertStore (sym c.promote.ensures.entries)
    (promoted_store c.args.w.now c.self.inside.cache c.self.invariant)

pub returns-clause-kept : goal.returns-clause-kept
returns-clause-kept c = subst IsSchubertStore (sym c.promote.ensures.entries)
    (promoted_store c.args.w.now c.self.inside.cache c.self.invariant)
