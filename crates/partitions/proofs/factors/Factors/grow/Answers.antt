use Rattle.partitions.proofs.Growing.{HasSums-grown}
use Rattle.partitions.proofs.factors.Factors.grow.Goals as goal

pub invariant_of-self-2 : goal.invariant_of-self-2
invariant_of-self-2 c =
    HasSums-grown c.self.inside.factors.items _ c.args.next _ _ _ _ c.self.invariant
    c.size.ensures.limits.partition
    (rw c.self.view_is c.requires.room) (rw c.self.view_is c.requires.small)
    c.in_ok-push.ensures.items c.size.ensures.value c.rows.ensures.value
