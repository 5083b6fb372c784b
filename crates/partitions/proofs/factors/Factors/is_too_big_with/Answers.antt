use Rattle.partitions.proofs.Growing.{AreTooBig-grown}
use Rattle.partitions.proofs.factors.Factors.is_too_big_with.Goals as goal

pub returns : goal.returns
returns c =
    let h = AreTooBig-grown c.self.inside.factors.items c.args.next.now _ _ _ _ c.self.invariant
    c.size.ensures.value c.rows.ensures.value in
    rw (← c.self.view_is) (
      λ is. h.1 (c.is_too_big.ensures.0 is),
      λ big. c.is_too_big.ensures.1
          (h.0 big),
    )
