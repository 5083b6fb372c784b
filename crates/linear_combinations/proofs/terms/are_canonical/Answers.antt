use Rattle.std.proofs.Common.{sym, ◌∙◌}
use Rattle.std.specs.Option.{option_copied}
use Rattle.linear_combinations.proofs.Following.{follows-not, follows-all}
use Rattle.linear_combinations.proofs.terms.are_canonical.Goals as goal

pub returns-then-not-may_follow : goal.returns-then-not-may_follow
returns-then-not-may_follow g c =
    follows-not g.L.Label.order g.L.Label.is_label g.R.Scalar.value c.args.pairs.now
    c.loop-label.label-index (option_copied c.loop-label.previous) c.loop-label.invariant
    c.loop-label-item.result c.loop-label-test.true c.loop-label-item.is (sym c.may_follow.ensures
    ∙ c.if-not-may_follow.true)

pub returns : goal.returns
returns g c =
    follows-all g.L.Label.order g.L.Label.is_label g.R.Scalar.value c.args.pairs.now
    c.loop-label.label-index (option_copied c.loop-label.previous) c.loop-label.invariant
    c.loop-label-test.false
