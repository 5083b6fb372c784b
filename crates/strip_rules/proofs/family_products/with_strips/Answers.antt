use Rattle.std.proofs.Common.{subst, pos, ap, Err}
use Rattle.std.specs.Prelude.{nat_eq}
use Rattle.linear_combinations.specs.Gains.{Gains, Overflows, replaced, each_by}
use Rattle.linear_combinations.proofs.Steps.{error_is}
use Rattle.strip_rules.specs.BeadMoves.{strips}
use Rattle.strip_rules.proofs.BeadSums.{strip_times, strips_fit}
use Rattle.strip_rules.proofs.family_products.with_strips.Goals as goal

pub add_by-requires : goal.add_by-requires
add_by-requires c t m = (c.requires.few, c.requires.within t m)

pub returns-clause-value : goal.returns-clause-value
returns-clause-value c f d are low =
    let a = c.in_ok-add_by.ensures in
    strip_times c.args.strip c.args.cells d f c.args.list.now c.add_by.new.self low are c.requires.within a.table
    (subst (λ old. Gains old (replaced (λ set. each_by (λ s. pos 1) (strips c.args.strip c.args.cells set)) c.args.list.now) c.add_by.new.self) c.new-sum.ensures a.gains)

pub returns-in_err-add_by-clause-small : goal.returns-in_err-add_by-clause-small
returns-in_err-add_by-clause-small c large =
    strips_fit c.args.strip c.args.cells c.args.list.now c.requires.few c.requires.within c.requires.mass
    (subst (λ old. Overflows nat_eq old (replaced (λ set. each_by (λ s. pos 1) (strips c.args.strip c.args.cells set)) c.args.list.now)) c.new-sum.ensures
    (c.in_err-add_by.ensures.large (ap Err (error_is _ _ _ c.from_residual.ensures.1 large))))
