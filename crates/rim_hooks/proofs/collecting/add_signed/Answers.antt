use Rattle.std.proofs.Common.{◌≡◌, sym, subst, ◌*ℤ◌, None, rules}
use Rattle.fraction_laws.specs.Checked.{checked_i128}
use Rattle.coeff_rings.proofs.Sizes.{refused_size}
use Rattle.linear_combinations.proofs.Gains.{overflows_alone}
use Rattle.rim_hooks.proofs.SignCasts.{kept_through}
use Rattle.rim_hooks.proofs.collecting.add_signed.Goals as goal

pub returns-in_default-clause-large : goal.returns-in_default-clause-large
returns-in_default-clause-large g c err =
    let sign = kept_through c.args.sign c.from.result c.new.result c.requires c.from.ensures
    c.new.ensures in
    overflows_alone g.met.L.Eq.laws g.met.L.Label.same_label c.args.sums.now c.args.label
    (c.args.c *ℤ c.args.sign)
    (refused_size (c.args.c *ℤ c.args.sign) (subst (λ s. checked_i128 (c.args.c *ℤ s) ≡ None) sign
    (sym c.in_default.ensures.product)))

pub returns-clause-gains : goal.returns-clause-gains
returns-clause-gains g c = search (rules, kept_through)

pub returns-clause-large : goal.returns-clause-large
returns-clause-large g c err = search (rules, kept_through)
