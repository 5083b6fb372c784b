use Rattle.schubert_transition.proofs.KeptEntries.{copied}
use Rattle.schubert_transition.proofs.memo.Memo.copy_of.Goals as goal

pub returns-in_ok-copy-in-Some-clause-is : goal.returns-in_ok-copy-in-Some-clause-is
returns-in_ok-copy-in-Some-clause-is c =
    copied c.args.w.now c.in-Some.kept.now c.in_ok-copy-in-Some.field-0
    c.in_ok-copy-in-Some.ensures.combination c.in_ok-copy-in-Some.ensures.same
    c.in-Some.ensures.is
