use Rattle.std.proofs.Common.{pos, ◌*ℤ◌, rules}
use Rattle.std.specs.Cmp.Lexicographic.{nat_list_eq_equiv}
use Rattle.std.proofs.lemmas.Bool.{both_ways}
use Rattle.monomial_laws.specs.MonomialProduct.{arrangements}
use Rattle.strip_rules.specs.StripProduct.{column}
use Rattle.linear_combinations.proofs.Labels.{same_partition}
use Rattle.linear_combinations.proofs.Gains.{overflows_alone}
use Rattle.strip_rules.proofs.elementary.add_shape.Goals as goal

pub times_count-requires : goal.times_count-requires
times_count-requires c = search (rules, both_ways)

pub returns-in_err-product-clause-large : goal.returns-in_err-product-clause-large
returns-in_err-product-clause-large c = λ err k e.
    let n = arrangements c.args.label.now (column k) c.args.shape.now in
    overflows_alone nat_list_eq_equiv same_partition c.args.sum.now c.args.shape.now
    (c.args.c *ℤ pos n) (c.in_err-product.ensures n (c.coefficient_at.ensures k e))
