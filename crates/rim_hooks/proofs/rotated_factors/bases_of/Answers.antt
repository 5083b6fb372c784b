use Rattle.std.proofs.Common.{subst, arith}
use Rattle.std.specs.Prelude.{IfSome}
use Rattle.rim_hooks.specs.Bases.{IsBase}
use Rattle.rim_hooks.proofs.FactorSteps.{first_two}
use Rattle.rim_hooks.proofs.TurnedFactors.{two_turned, next_turned}
use Rattle.rim_hooks.proofs.rotated_factors.bases_of.Goals as goal

pub loop-at-init : goal.loop-at-init
loop-at-init c =
    let k = c.args.k in
    let n = c.args.n in
    let f = c.factor_at.result.now in
    let g = c.factor_at-2.result.now in
    let a = c.in-Some.first in
    let b = c.in-Some-2.second in
    let first : IsBase k n f a.shape a.turns a.power = subst (λ o. IfSome o (λ x. IsBase k n f x.shape x.turns x.power)) c.in-Some.is c.in_ok-first.ensures in
    let second : IsBase k n g b.shape b.turns b.power = subst (λ o. IfSome o (λ x. IsBase k n g x.shape x.turns x.power)) c.in-Some-2.is c.in_ok-second.ensures in
    let wide = c.requires.limits.2 in
    let short = c.requires.limits.0 in
    let small_a = first.small in
    let small_b = second.small in
    let light_a = first.light in
    let light_b = second.light in
    record {
      turned = two_turned k n c.args.factors.now c.in_ok-pair.field-0 f g a.shape b.shape a.turns b.turns a.power b.power
          (first_two c.args.factors.now f g c.factor_at.ensures c.factor_at-2.ensures) c.in_ok-pair.ensures.ok first second;
      least = omega arith;
      most = c.len-len.ensures.limits.least;
      turns = omega arith;
      power = omega arith;
    }

pub loop-at-preserved : goal.loop-at-preserved
loop-at-preserved c =
    let k = c.args.k in
    let n = c.args.n in
    let f = c.factor_at-in-loop-at.result.now in
    let b = c.in-Some-3.next in
    let is : IsBase k n f b.shape b.turns b.power = subst (λ o. IfSome o (λ x. IsBase k n f x.shape x.turns x.power)) c.in-Some-3.is c.in_ok-next.ensures in
    let wide = c.requires.limits.2 in
    let short = c.requires.limits.0 in
    let small = is.small in
    let light = is.light in
    let turns = c.in_ok-push.ensures.turns in
    let power = c.in_ok-push.ensures.power in
    let before_turns = c.loop-at.invariant.turns in
    let before_power = c.loop-at.invariant.power in
    record {
      turned = next_turned k n c.args.factors.now c.loop-at.bases.factors c.push.new.self.factors c.loop-at.at f b.shape c.loop-at.bases.turns c.loop-at.bases.power b.turns b.power
          c.push.new.self.turns c.push.new.self.power c.factor_at-in-loop-at.ensures c.loop-at.invariant.turned is c.in_ok-push.ensures.factors turns power;
      least = omega arith;
      most = omega arith;
      turns = omega arith;
      power = omega arith;
    }
