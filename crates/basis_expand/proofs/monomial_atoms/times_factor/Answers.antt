use Rattle.std.proofs.Common.{ℕ, sym, subst, arith}
use Rattle.std.specs.Prelude.{IfOk}
use Rattle.sym_model.specs.Polynomial.{Same, times}
use Rattle.sparse_polys.proofs.WholeLists.{Once-labels}
use Rattle.sparse_polys.specs.Families.{polynomial_of}
use Rattle.sparse_polys.specs.declared.family.Family.{Family}
use Rattle.monomial_laws.specs.ExpressionTerms.{IsList, in_monomials, elementary_terms, complete_terms}
use Rattle.monomial_laws.specs.ExpressionTerms.{power_sum_terms_of}
use Rattle.monomial_laws.proofs.AtomTerms.{list-elementary, list-complete, list-power_sum}
use Rattle.basis_expand.proofs.AtomLists.{list-family, list-more, list-times}
use Rattle.basis_expand.proofs.AtomLists.{large-factor, large-factor_right, large-complete}
use Rattle.basis_expand.proofs.AtomLists.{have_room, few_cells, once-elementary}
use Rattle.basis_expand.proofs.AtomLists.{once-complete, factor-sizes}
use Rattle.basis_expand.proofs.monomial_atoms.times_factor.Goals as goal

pub times_elementary-requires : goal.times_elementary-requires
times_elementary-requires c = have_room c.args.k c.args.others.now c.requires.table c.requires.low

pub returns-in-Elementary-clause-value : goal.returns-in-Elementary-clause-value
returns-in-Elementary-clause-value c =
    list-times c.args.family c.args.k c.args.others.now c.times_elementary.result
    (subst (λ (f : Family). IfOk c.times_elementary.result (λ list. (n : ℕ)
    → Same (in_monomials list n) (times (polynomial_of f c.args.k n)
    (in_monomials c.args.others.now n)))) (sym c.in-Elementary.is) c.times_elementary.ensures.value)

pub returns-in-Elementary-clause-large : goal.returns-in-Elementary-clause-large
returns-in-Elementary-clause-large c = λ large parts others.
    let first = subst (λ (f : Family). IsList (elementary_terms c.args.k)
    (polynomial_of f c.args.k)) (sym c.in-Elementary.is) (list-elementary c.args.k) in
    large-factor c.args.family c.args.k parts (elementary_terms c.args.k) c.args.others.now
    (once-elementary c.args.k) (Once-labels c.args.others.now c.requires.table)
    first others (c.times_elementary.ensures.large large)

pub times_complete-requires : goal.times_complete-requires
times_complete-requires c = few_cells c.args.k c.args.others.now c.requires.low

pub returns-in-Complete-clause-value : goal.returns-in-Complete-clause-value
returns-in-Complete-clause-value c =
    list-times c.args.family c.args.k c.args.others.now c.times_complete.result
    (subst (λ (f : Family). IfOk c.times_complete.result (λ list. (n : ℕ)
    → Same (in_monomials list n) (times (polynomial_of f c.args.k n)
    (in_monomials c.args.others.now n)))) (sym c.in-Complete.is) c.times_complete.ensures.value)

pub returns-in-Complete-clause-large : goal.returns-in-Complete-clause-large
returns-in-Complete-clause-large c = λ large parts others.
    let first = subst (λ (f : Family). IsList (complete_terms c.args.k) (polynomial_of f c.args.k))
    (sym c.in-Complete.is) (list-complete c.args.k) in
    large-factor_right c.args.family c.args.k parts (complete_terms c.args.k) c.args.others.now
    (once-complete c.args.k) (Once-labels c.args.others.now c.requires.table)
    first others (large-complete c.args.k c.args.others.now (c.times_complete.ensures.large large))

pub times_whole_in_m-requires : goal.times_whole_in_m-requires
times_whole_in_m-requires c =
    let terms = subst (λ (f : Family). IsList (power_sum_terms_of c.args.k)
    (polynomial_of f c.args.k)) (sym c.in-PowerSum.is)
    (list-power_sum c.args.k c.requires.positive) in
    let A = c.in_ok-power_sum-in-PowerSum.field-0 in
    let first = list-family c.args.family c.args.k A (power_sum_terms_of c.args.k)
    c.in_ok-power_sum-in-PowerSum.ensures.value terms in
    let small = factor-sizes c.args.family c.args.k A c.in_ok-power_sum-in-PowerSum.ensures.table
    first in
    omega (arith, small, c.requires.low)

pub returns-in_ok-power_sum-in-PowerSum-clause-value
    : goal.returns-in_ok-power_sum-in-PowerSum-clause-value
returns-in_ok-power_sum-in-PowerSum-clause-value c =
    let terms = subst (λ (f : Family). IsList (power_sum_terms_of c.args.k)
    (polynomial_of f c.args.k)) (sym c.in-PowerSum.is)
    (list-power_sum c.args.k c.requires.positive) in
    let A = c.in_ok-power_sum-in-PowerSum.field-0 in
    let first = list-family c.args.family c.args.k A (power_sum_terms_of c.args.k)
    c.in_ok-power_sum-in-PowerSum.ensures.value terms in
    list-more c.args.family c.args.k A c.args.others.now c.times_whole_in_m-in-PowerSum.result first
    c.times_whole_in_m-in-PowerSum.ensures.coefficients

pub returns-in_ok-power_sum-in-PowerSum-clause-large
    : goal.returns-in_ok-power_sum-in-PowerSum-clause-large
returns-in_ok-power_sum-in-PowerSum-clause-large c = λ large parts others.
    let terms = subst (λ (f : Family). IsList (power_sum_terms_of c.args.k)
    (polynomial_of f c.args.k)) (sym c.in-PowerSum.is)
    (list-power_sum c.args.k c.requires.positive) in
    let A = c.in_ok-power_sum-in-PowerSum.field-0 in
    let first = list-family c.args.family c.args.k A (power_sum_terms_of c.args.k)
    c.in_ok-power_sum-in-PowerSum.ensures.value terms in
    large-factor c.args.family c.args.k parts A c.args.others.now
    (Once-labels A c.in_ok-power_sum-in-PowerSum.ensures.table)
    (Once-labels c.args.others.now c.requires.table)
    first others (c.times_whole_in_m-in-PowerSum.ensures.large large)
