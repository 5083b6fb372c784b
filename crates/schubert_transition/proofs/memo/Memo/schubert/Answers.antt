use Rattle.std.proofs.Common.{inl, inr}
use Rattle.schubert_transition.proofs.KeptEntries.{comes_first}
use Rattle.schubert_transition.proofs.memo.Memo.schubert.Goals as goal

pub returns-in-Some-clause-asked : goal.returns-in-Some-clause-asked
returns-in-Some-clause-asked c =
    let was = rw c.in-Some.is at c.in_ok-terms.ensures.found in
    inr (inl (was, c.promote.ensures.first))

pub returns-in-None-clause-asked : goal.returns-in-None-clause-asked
returns-in-None-clause-asked c =
    let none = rw c.in-None.is at c.in_ok-terms.ensures.found in
    elim (comes_first c.args.w.now c.args.self.now c.made.new.self none c.made.ensures.put)
    [ inl same ↦ inl same | inr first ↦ inr (inr first) ]
