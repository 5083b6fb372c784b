use Rattle.std.proofs.Common.{sym, ◌∙◌}
use Rattle.sym_model.specs.Canonical.{is_reduced}
use Rattle.linear_combinations.proofs.Following.{reduced-unless_zero, all_three}
use Rattle.linear_combinations.proofs.terms.may_follow.Goals as goal

pub returns-then-stands_later : goal.returns-then-stands_later
returns-then-stands_later g c =
    let value = g.R.Scalar.value c.args.c in
    let reduced = reduced-unless_zero value c.is_zero.result
    (g.met.R.Scalar.lowest c.args.c c.is_zero.ensures.held) c.is_zero.ensures.zero in
    reduced ∙ all_three _ (is_reduced value) _ (sym c.stands_later.ensures ∙ c.if-stands_later.true)
    c.lies_in_limits.ensures
