use Rattle.schubert_transition.proofs.KeptEntries.{found_if}
use Rattle.schubert_transition.proofs.memo.Memo.kept.Goals as goal

pub returns-clause-is : goal.returns-clause-is
returns-clause-is c = found_if c.args.w.now c.self.inside.cache.entries c.peek.result
    c.self.invariant.kept c.peek.ensures
