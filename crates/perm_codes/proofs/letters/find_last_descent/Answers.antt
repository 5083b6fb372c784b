use Rattle.std.proofs.Common.{◌≡◌, suc, ◌-◌, ◌<◌, Some, length, slice_index, sym, ap, ◌∙◌, subst}
use Rattle.std.proofs.Common.{arith}
use Rattle.perm_codes.proofs.Descents.{RisesAfter, no_descent, descent_here}
use Rattle.perm_codes.proofs.letters.find_last_descent.Goals as goal

pub returns-then-letters-i : goal.returns-then-letters-i
returns-then-letters-i c =
    let w = c.args.letters.now in
    let i = c.loop-i.i in
    let e : suc (c.loop-i.i - 1) ≡ c.loop-i.i = omega arith in
    let inside : suc (c.loop-i.i - 1) < length c.args.letters.now =
    omega (arith, c.loop-i.invariant.0) in
    let falls = subst (λ k. slice_index w k < slice_index w (i - 1)) (sym e) c.if-letters-i.true in
    let rises = subst (λ k. RisesAfter k w) (sym e) c.loop-i.invariant.1 in
    ap Some (sym e) ∙ sym (descent_here w (i - 1) inside falls rises)

pub returns : goal.returns
returns c =
    let none : c.loop-i.i ≡ 0 = omega arith in
    sym (no_descent c.args.letters.now (subst (λ k. RisesAfter k c.args.letters.now) none
    c.loop-i.invariant.1))
