use Rattle.std.proofs.Common.{arith, sym, subst, ◌∙◌}
use Rattle.std.proofs.lemmas.Nat.{mul-le}
use Rattle.std.proofs.lemmas.Result.{IfOk-weaker, err_from_is_err_and}
use Rattle.sym_model.specs.Expansion.{monomials, IsExpansionOf}
use Rattle.sym_model.specs.Expression.{cleared_value, degree, denominator}
use Rattle.sparse_polys.proofs.Bounds.{greatest-within}
use Rattle.expression_reading.specs.Trees.{tree_of}
use Rattle.expression_reading.proofs.WeightFacts.{positive}
use Rattle.expression_reading.proofs.GrowthFacts.{wide-weight}
use Rattle.plethysm.proofs.InnerLists.{natural-expansion}
use Rattle.plethysm_laws.proofs.NonnegativeTerms.{denominator-one}
use Rattle.sparse_polys.specs.MonomialProducts.{greatest_size}
use Rattle.calc_replies.proofs.Compositions.{inner-large}
use Rattle.calc_replies.proofs.composing.substituted.Goals as goal

pub returns-in_default-clause-large : goal.returns-in_default-clause-large
returns-in_default-clause-large c = λ is.
    let f = c.args.outer.now in
    let g = c.args.inner.now in
    let q = positive g.tree g.within.numbers in
    inner-large (tree_of f.tree) (tree_of g.tree) (positive f.tree f.within.numbers) q
    c.requires.some c.requires.limits.3 (wide-weight monomials (tree_of g.tree) q
    c.in_default.ensures)

pub returns-in_err-monomials-clause-large : goal.returns-in_err-monomials-clause-large
returns-in_err-monomials-clause-large c =
    let p = err_from_is_err_and c.from_residual.result c.from_residual.ensures.1 in
    let f = c.args.outer.now in
    let g = c.args.inner.now in
    rw (p.1, p.2) (λ is. inner-large (tree_of f.tree) (tree_of g.tree)
    (positive f.tree f.within.numbers) (positive g.tree g.within.numbers) c.requires.some
    c.requires.limits.3 (c.in_err-monomials.ensures.large is))

pub plethysm-requires-clause-positive : goal.plethysm-requires-clause-positive
plethysm-requires-clause-positive c =
    let f = c.args.outer.now in
    let g = c.args.inner.now in
    let p = positive f.tree f.within.numbers in
    let q = positive g.tree g.within.numbers in (
      omega (arith, p.0, c.requires.number),
      omega (arith, p.1, c.requires.divisor),
      omega (arith, q.0, c.in-Some.ensures.0),
    )

pub plethysm-requires-clause-whole : goal.plethysm-requires-clause-whole
plethysm-requires-clause-whole c = c.in-Some.ensures.1 ∙ denominator-one
    (tree_of c.args.inner.now.tree) c.requires.limits.3

pub plethysm-requires-clause-natural : goal.plethysm-requires-clause-natural
plethysm-requires-clause-natural c =
    natural-expansion (tree_of c.args.inner.now.tree) c.in_ok-monomials.monomials
    c.requires.limits.3 c.in_ok-monomials.ensures.table c.in_ok-monomials.ensures.bounded
    c.in_ok-monomials.ensures.value

pub plethysm-requires-clause-sizes : goal.plethysm-requires-clause-sizes
plethysm-requires-clause-sizes c =
    let a = degree (tree_of c.args.outer.now.tree) in
    let b = degree (tree_of c.args.inner.now.tree) in
    let x = greatest-within a c.args.list.now c.requires.labels in
    let y = greatest-within b c.in_ok-monomials.monomials c.in_ok-monomials.ensures.labels in (
      omega (arith, x, c.requires.limits.0),
      omega (arith, y, c.requires.limits.1),
      omega (
        arith,
        mul-le (greatest_size c.args.list.now)
            (greatest_size c.in_ok-monomials.monomials) a b x y,
        c.requires.limits.2,
      ),
    )

pub returns-clause-expands : goal.returns-clause-expands
returns-clause-expands c =
    let f = tree_of c.args.outer.now.tree in
    let g = tree_of c.args.inner.now.tree in
    IfOk-weaker c.plethysm.result _ _
    (λ list h n. h (degree g) c.in_ok-monomials.ensures.labels n (cleared_value f)
    (cleared_value g n) (denominator f) c.requires.value
    (subst (λ q. IsExpansionOf monomials c.in_ok-monomials.monomials n (cleared_value g n) q)
    (denominator-one g c.requires.limits.3) (c.in_ok-monomials.ensures.value n)))
    c.plethysm.ensures.value

pub returns-clause-large : goal.returns-clause-large
returns-clause-large c = λ is.
    let f = tree_of c.args.outer.now.tree in
    let g = tree_of c.args.inner.now.tree in
    rw (sym c.requires.number, sym c.requires.divisor, sym c.in-Some.ensures.0)
    (c.plethysm.ensures.large is (degree f) (degree g) c.requires.labels
    c.in_ok-monomials.ensures.labels)
