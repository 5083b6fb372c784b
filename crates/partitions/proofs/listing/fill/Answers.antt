use Rattle.std.proofs.Common.{◌≡◌, ◌-◌, ◌<◌, ◌≤◌, ◌++◌, length, take, sym, ◌∙◌, ap, arith}
use Rattle.std.proofs.Math.Nat.{min-le_right, le-min}
use Rattle.std.proofs.lemmas.List.{length-set, append-nil}
use Rattle.partitions.specs.Listing.{greatest_within}
use Rattle.partitions.proofs.Steps.{fill-step}
use Rattle.partitions.proofs.listing.fill.Goals as goal

pub loop-left-preserved : goal.loop-left-preserved
loop-left-preserved c =
    let xs = c.loop-left.buffer in
    let p = c.min-part.result in
    let part = c.loop-left.part in
    let left = c.loop-left.left in
    let some : 0 < left = c.loop-left-test.true in
    let least : 1 ≤ part = omega (arith, c.loop-left.invariant.1 some) in
    let one : 1 ≤ left = omega arith in
    let positive : 0 < p = omega (arith, c.min-part.ensures, le-min least one) in
    let fits : p ≤ left = omega (arith, c.min-part.ensures, min-le_right part left) in (
      omega (arith, length-set xs c.loop-left.at p),
      λ _. positive,
      fill-step xs c.loop-left.at left part p (omega arith) some c.min-part.ensures
          ∙ c.loop-left.invariant.2,
    )

pub returns-clause-parts : goal.returns-clause-parts
unfolding greatest_within
returns-clause-parts c =
    let at = c.loop-left.at in
    let xs = c.loop-left.buffer in
    let none : c.loop-left.left ≡ 0 = omega arith in
    sym (append-nil (take at xs))
    ∙ ap (λ n. take at xs ++ greatest_within n c.loop-left.part (length xs - at)) (sym none)
    ∙ c.loop-left.invariant.2
