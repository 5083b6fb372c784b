use Rattle.std.proofs.Common.{◌≡◌, ◌+◌, ◌-◌, ◌<◌, length, take, get_or, sym, ap, ◌∙◌, subst, arith}
use Rattle.sym_model.specs.Partition.{without_last_zeros}
use Rattle.partitions.proofs.Parts.{cut-zero, cut-positive}
use Rattle.partitions.proofs.lists.numbers_before_zeros.Goals as goal
use Rattle.partitions.proofs.lists.numbers_before_zeros.Goals.{then-loop-len-test+else-numbers-len-eq0}
use Rattle.partitions.proofs.lists.numbers_before_zeros.Goals.{else-loop-len-test}

pub loop-len-preserved : goal.loop-len-preserved
loop-len-preserved c =
    let n = c.loop-len.len in
    let xs = c.args.numbers.now in
    let e : (n - 1) + 1 ≡ n = omega arith in
    let last : n - 1 < length xs = omega arith in
    let one = cut-zero xs (n - 1) last c.if-numbers-len-eq0.true in
    (omega arith, one ∙ ap (λ k. without_last_zeros (take k xs)) e ∙ c.loop-len.invariant.1)

pub returns : goal.returns
returns c =
    let n = c.loop-len.len in
    let xs = c.args.numbers.now in
    elim c.loop-len-test.branch [
      | then-loop-len-test+else-numbers-len-eq0 w ↦
          let e : (n - 1) + 1 ≡ n = omega arith in
          let last : n - 1 < length xs = omega arith in
          let positive : 0 < get_or xs (n - 1) 0 = omega (arith, w.if-numbers-len-eq0.false) in
          let positive_cut = cut-positive xs (n - 1) last positive in
          sym (subst (λ k. without_last_zeros (take k xs) ≡ take k xs) e positive_cut)
          ∙ c.loop-len.invariant.1
      | else-loop-len-test w ↦
          let e : n ≡ 0 = omega arith in
          ap (λ k. take k xs) e ∙ sym (ap (λ k. without_last_zeros (take k xs)) e)
          ∙ c.loop-len.invariant.1
    ]
