use Rattle.std.proofs.Common.{◌-◌, take, drop, ap, ◌∙◌, subst, arith}
use Rattle.std.proofs.lemmas.List.{take_all, length-take-le, length-drop}
use Rattle.monk_product.specs.ShortPerms.{IsGreatestBelow}
use Rattle.monk_product.proofs.ShortPerms.{as_stored}
use Rattle.monk_product.proofs.short_perm.ShortPerm.greatest_below.Goals as goal

pub returns : goal.returns
returns c =
    let u = c.self.inside.letters in
    let count = c.args.end - c.args.first in
    let long = c.self.invariant.long in
    let rest = length-drop c.args.first u in
    let order = c.requires.order in
    let inside = c.requires.inside in
    let items = length-take-le count (drop c.args.first u) (omega arith) in
    let all = c.loop-x-test.false in
    subst (λ l. IsGreatestBelow c.args.letter l c.loop-x.low)
    (take_all c.loop-x.x-index (take count (drop c.args.first u)) (omega arith)
    ∙ ap (λ v. take (c.args.end - c.args.first) (drop c.args.first v))
    (as_stored u c.args.self.now c.self.view_is c.self.invariant.long)) c.loop-x.invariant
