use Rattle.std.proofs.Common.{◌≡◌, ◌+◌, ◌-◌, get_or, ap, ◌∙◌, arith}
use Rattle.sym_model.proofs.Parts.{get_or-le-size}
use Rattle.partitions.proofs.BetaSteps.{beta-more}
use Rattle.partitions.proofs.beta.lengthened.Goals as goal

pub overflow_add-part : goal.overflow_add-part
overflow_add-part c =
    let part = c.number_at-part.ensures in
    omega (arith, part, get_or-le-size c.args.parts.now c.from-in-loop-i.result, c.requires.limits.small)

pub loop-i-preserved : goal.loop-i-preserved
loop-i-preserved c =
    let place : c.from-in-loop-i.result ≡ c.loop-i.i = c.from-in-loop-i.ensures in
    beta-more c.args.parts.now c.loop-i.entries.items c.push.new.self.items c.args.k c.loop-i.i _
    c.loop-i.invariant
    (ap (λ n. n + (c.args.k - 1 - c.loop-i.i))
    (c.number_at-part.ensures ∙ ap (λ i. get_or c.args.parts.now i 0) place)) c.in_ok-push.ensures.ok
