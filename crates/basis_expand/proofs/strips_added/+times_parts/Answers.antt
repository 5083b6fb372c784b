use Rattle.std.proofs.Common.{◌-◌, length, get_or, take, drop, rules}
use Rattle.sym_model.specs.Bases.{product_over}
use Rattle.sparse_polys.specs.Families.{polynomial_of}
use Rattle.sym_model.specs.Polynomial.{times}
use Rattle.sym_model.proofs.Parts.{split_first}
use Rattle.sparse_polys.proofs.Coefficients.{if_answered}
use Rattle.basis_expand.proofs.FamilyFactors.{times-no_parts, times-more_parts}
use Rattle.basis_expand.proofs.strips_added.+times_parts.Goals as goal

pub returns-in_default : goal.returns-in_default
returns-in_default t c = search (rules, times-no_parts)

pub returns : goal.returns
returns t c =
    let k = get_or c.args.parts.now 0 0 in
    let rest = take (length c.args.parts.now - 1) (drop 1 c.args.parts.now) in
    if_answered c.times_part.result c.times_part.ensures
    (λ product h n f q i is.
    times-more_parts c.args.family k rest c.args.parts.now product
    (split_first c.args.parts.now c.in-len1-up.len_at_least) n f q
    (h n (times (product_over (polynomial_of c.args.family) rest n) f) q
    (c.in_ok-others.ensures n f q i is)))
