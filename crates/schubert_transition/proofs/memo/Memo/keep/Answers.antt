use Rattle.std.proofs.Common.{subst, sym, arith}
use Rattle.schubert_transition.specs.TermLists.{IsSchubertOf}
use Rattle.schubert_transition.proofs.KeptEntries.{copied, as_long}
use Rattle.schubert_transition.proofs.memo.Memo.keep.Goals as goal

pub put-requires-clause-is : goal.put-requires-clause-is
put-requires-clause-is c =
    subst (λ v. IsSchubertOf v c.in-Ok-copy.copy) (sym c.in-Ok.ensures.ok)
    (copied c.args.w.now c.args.terms.now c.in-Ok-copy.copy c.in-Ok-copy.ensures.combination
    c.in-Ok-copy.ensures.same c.requires.is)

pub put-requires-clause-few : goal.put-requires-clause-few
put-requires-clause-few c =
    let a = as_long c.args.terms.now c.in-Ok-copy.copy c.requires.is.table
    c.in-Ok-copy.ensures.combination c.in-Ok-copy.ensures.same in
    let b = c.requires.few in
    omega arith
