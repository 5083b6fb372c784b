use Rattle.std.proofs.Common.{◌≡◌, ◌≤◌, ◌^◌, arith, sym, subst, ap, ◌*◌}
use Rattle.std.proofs.lemmas.Result.{IfOk-weaker, err_from_is_err_and}
use Rattle.sym_model.specs.Expansion.{monomials}
use Rattle.sym_model.specs.Expression.{cleared_value, degree, denominator}
use Rattle.sym_model.specs.Weight.{numerator}
use Rattle.sparse_polys.specs.LabelSizes.{AreWithin}
use Rattle.sparse_polys.proofs.Bounds.{greatest-within}
use Rattle.expression_reading.specs.Trees.{tree_of}
use Rattle.expression_reading.proofs.WeightFacts.{positive}
use Rattle.expression_reading.proofs.GrowthFacts.{wide-weight}
use Rattle.sparse_polys.specs.MonomialProducts.{greatest_size}
use Rattle.calc_replies.proofs.Compositions.{outer-large, constant-weight}
use Rattle.calc_replies.proofs.composing.in_target.Goals as goal

pub returns-in_default-clause-large : goal.returns-in_default-clause-large
returns-in_default-clause-large c = λ is.
    let f = c.args.outer.now in
    let g = c.args.inner.now in
    let p = positive f.tree f.within.numbers in
    outer-large (tree_of f.tree) (tree_of g.tree) p (positive g.tree g.within.numbers)
    (wide-weight monomials (tree_of f.tree) p c.in_default.ensures)

pub returns-in_err-list-clause-large : goal.returns-in_err-list-clause-large
returns-in_err-list-clause-large c =
    let p = err_from_is_err_and c.from_residual.result c.from_residual.ensures.1 in
    let f = c.args.outer.now in
    let g = c.args.inner.now in
    rw (p.1, p.2) (λ is. outer-large (tree_of f.tree) (tree_of g.tree)
    (positive f.tree f.within.numbers) (positive g.tree g.within.numbers)
    (c.in_err-list.ensures.large is))

pub plethysm-requires-clause-positive : goal.plethysm-requires-clause-positive
plethysm-requires-clause-positive c =
    let f = c.args.outer.now in
    let p = positive f.tree f.within.numbers in
    (omega (arith, p.0, c.in-Some.ensures.0), omega (arith, p.1, c.in-Some.ensures.1), omega arith)

pub plethysm-requires-clause-sizes : goal.plethysm-requires-clause-sizes
plethysm-requires-clause-sizes c =
    let x = greatest-within (degree (tree_of c.args.outer.now.tree)) c.in_ok-list.list
    c.in_ok-list.ensures.labels in
    let none : greatest_size c.new.result ≡ 0 = ap greatest_size c.new.ensures in
    let product : greatest_size c.in_ok-list.list * greatest_size c.new.result ≡ greatest_size
    c.in_ok-list.list * 0 = ap (λ b. greatest_size c.in_ok-list.list * b) none in
    (omega (arith, x, c.requires.0), omega (arith, none), omega (arith, product))

pub returns-then-degree-eq0-clause-expands : goal.returns-then-degree-eq0-clause-expands
returns-then-degree-eq0-clause-expands c =
    let f = tree_of c.args.outer.now.tree in
    let g = tree_of c.args.inner.now.tree in
    let constant : degree f ≡ 0 = omega (arith, c.if-degree-eq0.true, c.degree.ensures) in
    let within = subst (λ d. AreWithin d c.in_ok-list.list) constant c.in_ok-list.ensures.labels in
    IfOk-weaker c.plethysm-then-degree-eq0.result _ _
    (λ list h n. h within n (degree g) (denominator f) (cleared_value f) (cleared_value g n)
    c.in_ok-list.ensures.value)
    c.plethysm-then-degree-eq0.ensures.constant

pub returns-then-degree-eq0-clause-large : goal.returns-then-degree-eq0-clause-large
returns-then-degree-eq0-clause-large c = λ is.
    let f = tree_of c.args.outer.now.tree in
    let g = tree_of c.args.inner.now.tree in
    let constant : degree f ≡ 0 = omega (arith, c.if-degree-eq0.true, c.degree.ensures) in
    let within = subst (λ d. AreWithin d c.in_ok-list.list) constant c.in_ok-list.ensures.labels in
    let none : AreWithin (degree g) c.new.result = subst (AreWithin (degree g)) (sym c.new.ensures)
    (λ t m. absurd m) in
    let heavy = c.plethysm-then-degree-eq0.ensures.large is 0 (degree g) within none in
    let same = constant-weight c.in-Some.bound.num c.in-Some.bound.den (numerator g) (degree g) in
    rw (constant, sym c.in-Some.ensures.0, sym c.in-Some.ensures.1)
    (subst (λ w. 2 ^ 127 ≤ w) same heavy)
