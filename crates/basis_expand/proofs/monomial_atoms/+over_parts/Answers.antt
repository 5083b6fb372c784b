use Rattle.std.proofs.Common.{◌≡◌, ◌-◌, List, ℕ, length, get_or, take, drop, subst, ap, arith, Err, rules}
use Rattle.std.proofs.Common.{◌+◌, ◌≤◌, ◌^◌}
use Rattle.std.specs.Prelude.{IfOk}
use Rattle.sym_model.specs.Partition.{size}
use Rattle.sym_model.specs.Expansion.{monomials}
use Rattle.sym_model.specs.Weight.{growth}
use Rattle.sym_model.specs.Bases.{product_over}
use Rattle.sym_model.proofs.Parts.{split_first}
use Rattle.monomial_laws.specs.ExpressionTerms.{IsList}
use Rattle.linear_combinations.proofs.Steps.{error_is, if_answered}
use Rattle.sparse_polys.proofs.Bounds.{AreWithin-list, greatest-within}
use Rattle.sparse_polys.specs.Families.{polynomial_of}
use Rattle.basis_expand.proofs.AtomLists.{list-none, large-later, IsBounded-product}
use Rattle.basis_expand.proofs.monomial_atoms.+over_parts.Goals as goal

pub returns-in_default-clause-value : goal.returns-in_default-clause-value
returns-in_default-clause-value t c = search (rules, if_answered, list-none)

pub returns-in_err-others-clause-large : goal.returns-in_err-others-clause-large
returns-in_err-others-clause-large t c = λ large.
    let split = split_first c.args.parts.now c.in-len1-up.len_at_least in
    subst (λ (p : List ℕ). 2 ^ 127 ≤ growth monomials (size p)) split
    (large-later (get_or c.args.parts.now 0 0)
    (size (take (length c.args.parts.now - 1) (drop 1 c.args.parts.now)))
    (c.in_err-others.ensures.large (ap Err (error_is _ _ _ c.from_residual.ensures.1 large))))

pub times_factor-requires-clause-low : goal.times_factor-requires-clause-low
times_factor-requires-clause-low t c =
    let rest = take (length c.args.parts.now - 1) (drop 1 c.args.parts.now) in
    let others = greatest-within (size rest) c.in_ok-others.others
    (AreWithin-list 1 (size rest) c.in_ok-others.others (product_over (polynomial_of c.args.family)
    rest) c.in_ok-others.ensures.table c.in_ok-others.ensures.value
    (IsBounded-product c.args.family rest)) in
    let sizes : get_or c.args.parts.now 0 0 + size (take (length c.args.parts.now - 1)
    (drop 1 c.args.parts.now)) ≡ size c.args.parts.now =
    ap size (split_first c.args.parts.now c.in-len1-up.len_at_least) in
    omega (arith, c.requires.low)

pub returns-clause-value : goal.returns-clause-value
returns-clause-value t c =
    let rest = take (length c.args.parts.now - 1) (drop 1 c.args.parts.now) in
    subst (λ (p : List ℕ). IfOk c.times_factor.result
    (λ list. IsList list (product_over (polynomial_of c.args.family) p)))
    (split_first c.args.parts.now c.in-len1-up.len_at_least)
    (c.times_factor.ensures.value rest c.in_ok-others.ensures.value)

pub returns-clause-large : goal.returns-clause-large
returns-clause-large t c = search (rules, split_first)
