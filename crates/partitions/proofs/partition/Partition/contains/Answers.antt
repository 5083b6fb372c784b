use Rattle.std.proofs.Common.{◌≡◌, ◌+◌, ◌-◌, ◌≤◌, get_or, ap, ◌∙◌, subst, arith}
use Rattle.partitions.proofs.partition.Partition.contains.Goals as goal

pub returns-then-number_at-part : goal.returns-then-number_at-part
returns-then-number_at-part c =
    let row = c.loop-row.row in
    let e : (row + 1) - 1 ≡ row = omega arith in
    let outer : c.number_at.result ≡ get_or c.args.self.now row 0 =
    c.number_at.ensures ∙ ap (λ xs. get_or xs row 0) c.parts-outer.ensures.value in
    let inner : get_or c.parts-part-items.result.now row 0 ≡ get_or c.args.inner.now row 0 =
    ap (λ xs. get_or xs row 0) c.parts-part-items.ensures.value in (
      λ h. cc,
      λ h.
          let k : get_or c.args.inner.now row 0 ≤ get_or c.args.self.now row 0 =
          subst (λ i. get_or c.args.inner.now i 0 ≤ get_or c.args.self.now i 0) e (h (row + 1)) in
          absurd (omega arith),
    )
