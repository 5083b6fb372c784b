use Rattle.std.proofs.Common.{refl, ap, ◌∙◌, rules}
use Rattle.std.specs.Prelude.{Err, nat_eq}
use Rattle.std.specs.Cmp.Lexicographic.{pointwise}
use Rattle.linear_combinations.specs.Entries.{coefficient}
use Rattle.sparse_polys.proofs.Steps.{fits-zero_left}
use Rattle.sparse_polys.proofs.ValueLists.{coefficient_values, combination_values, more_values}
use Rattle.sparse_polys.proofs.ValueLists.{refused_values}
use Rattle.sparse_polys.proofs.products.add_new.Goals as goal

pub unreachable-requires : goal.unreachable-requires
unreachable-requires g c =
    let value = g.R.Scalar.value in
    fits-zero_left g.met.R.Scalar.sum_answers _ _ c.requires
    (refused_values value g.R.Scalar.is_held g.R.Scalar.checked_sum
    (coefficient (pointwise nat_eq) g.R.Scalar.zero c.args.sum.now c.args.monomial) c.args.c _ _
    (coefficient_values value g.R.Scalar.zero g.met.R.Scalar.zero_value.0 (pointwise nat_eq)
    c.args.sum.now c.args.monomial) refl
    (c.add_term.ensures.large.0 (c.in-Err-Large.is ∙ ap Err c.in-Err-Large.field-0-is)))

pub returns-in-Ok-clause-more : goal.returns-in-Ok-clause-more
returns-in-Ok-clause-more g c =
    more_values g.R.Scalar.value g.R.Scalar.zero g.met.R.Scalar.zero_value.0 (pointwise nat_eq)
    g.R.Scalar.sum g.met.R.Scalar.sum_value c.args.sum.now c.args.monomial c.args.c
    c.add_term.new.self c.in-Ok.ensures.ok

pub returns-in-Ok-clause-was : goal.returns-in-Ok-clause-was
returns-in-Ok-clause-was g c = search (rules, combination_values)

pub returns-in-Ok-clause-combination : goal.returns-in-Ok-clause-combination
returns-in-Ok-clause-combination g c = search (rules, combination_values)

pub returns-in-Err-NoMemory-clause-was : goal.returns-in-Err-NoMemory-clause-was
returns-in-Err-NoMemory-clause-was g c = search (rules, combination_values)

pub returns-in-Err-NoMemory-clause-combination : goal.returns-in-Err-NoMemory-clause-combination
returns-in-Err-NoMemory-clause-combination g c = search (rules, combination_values)
