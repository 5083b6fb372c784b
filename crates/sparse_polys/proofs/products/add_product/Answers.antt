use Rattle.std.proofs.Common.{◌*◌, subst}
use Rattle.std.specs.Prelude.{nat_eq}
use Rattle.std.specs.Cmp.Lexicographic.{pointwise}
use Rattle.sym_model.specs.Polynomial.{join}
use Rattle.linear_combinations.specs.Entries.{coefficient, HasMoreAt, IsRefused}
use Rattle.sparse_polys.specs.Combination.{terms_of}
use Rattle.sparse_polys.proofs.ClearedSums.{cleared-product, Gains-entry, Overflows-entry}
use Rattle.sparse_polys.proofs.Accumulating.{Overflows-product}
use Rattle.sparse_polys.proofs.products.add_product.Goals as goal
use Rattle.std.proofs.lemmas.Result.{on_ok_weaker}

pub returns-in_default-clause-large : goal.returns-in_default-clause-large
returns-in_default-clause-large g c err d e h small cleared =
    Overflows-product g.R.Scalar.value c.args.a c.args.b d e c.in_default.ensures.answer h small
    (terms_of g.R.Scalar.value c.args.sum.now) (join c.args.left.now c.args.right.now)

pub returns-clause-ok : goal.returns-clause-ok
returns-clause-ok g c =
    let value = g.R.Scalar.value in
    let lowest = g.met.R.Scalar.lowest in
    let old = c.args.sum.now in
    on_ok_weaker c.add_term.result (λ more d e h cleared.
    let p = cleared-product d e (value c.args.a) (value c.args.b) (value c.in-Some.c)
    (lowest c.args.a c.mul.ensures.held.0) (lowest c.args.b c.mul.ensures.held.1)
    c.in-Some.ensures.answer.value h in
    Gains-entry value g.R.Scalar.zero g.met.R.Scalar.zero_value.0 (d * e) old
    (join c.args.left.now c.args.right.now) c.in-Some.c c.add_term.ensures.tables.before.combination p.positive p.divides
    cleared g.R.Scalar.sum g.met.R.Scalar.sum_value c.add_term.new.self
    (lowest c.in-Some.c c.in-Some.ensures.held_product) c.add_term.ensures.tables.after.combination
    (subst (λ l. HasMoreAt (pointwise nat_eq) g.R.Scalar.zero g.R.Scalar.sum old l c.in-Some.c
    c.add_term.new.self) c.in_ok-times.ensures more)
    _ p.value) c.add_term.ensures.ok

pub returns-clause-large : goal.returns-clause-large
returns-clause-large g c err d e h small cleared =
    let value = g.R.Scalar.value in
    let lowest = g.met.R.Scalar.lowest in
    let old = c.args.sum.now in
    let p = cleared-product d e (value c.args.a) (value c.args.b) (value c.in-Some.c)
    (lowest c.args.a c.mul.ensures.held.0) (lowest c.args.b c.mul.ensures.held.1)
    c.in-Some.ensures.answer.value h in
    Overflows-entry value g.R.Scalar.zero g.met.R.Scalar.zero_value.0 (d * e) old
    (join c.args.left.now c.args.right.now) c.in-Some.c c.add_term.ensures.tables.before.combination p.positive p.divides
    cleared g.R.Scalar.is_held g.R.Scalar.checked_sum g.met.R.Scalar.sum_answers small
    (subst (λ l. IsRefused g.R.Scalar.is_held g.R.Scalar.checked_sum
    (coefficient (pointwise nat_eq) g.R.Scalar.zero old l) c.in-Some.c) c.in_ok-times.ensures
    (c.add_term.ensures.large.0 err)) _ p.value
