use Rattle.std.proofs.Common.{◌≡◌, subst, ap, ◌∙◌, pos}
use Rattle.std.specs.Prelude.{Option}
use Rattle.std.specs.Int.{w128}
use Rattle.std.proofs.lemmas.Int.{to_z_pos}
use Rattle.fraction_laws.specs.Fractions.{whole, fraction_product}
use Rattle.fraction_laws.specs.Answers.{AnswersProduct}
use Rattle.sparse_polys.proofs.Accumulating.{product-value, refused-first, refused-second}
use Rattle.sparse_polys.proofs.expansion_products.times_count.Goals as goal
use Rattle.std.proofs.lemmas.Option.{IfSome_then}

pub returns-in_err-product-clause-none : goal.returns-in_err-product-clause-none
returns-in_err-product-clause-none g c none d e h small some =
    refused-first g.R.Scalar.value c.args.left c.args.right d e c.args.count
    c.in_err-product.ensures.answer h small some

pub returns-clause-value : goal.returns-clause-value
returns-clause-value g c =
    let lowest = g.met.R.Scalar.lowest in
    let is : g.R.Scalar.value c.from_whole.result ≡ whole (pos c.args.count) =
    c.from_whole.ensures.value ∙ ap whole (to_z_pos w128 c.args.count c.requires) in
    IfSome_then c.mul-2.result c.mul-2.ensures.answer.value (λ w v d e h.
    product-value d e (g.R.Scalar.value c.args.left) (g.R.Scalar.value c.args.right)
    (g.R.Scalar.value c.in_ok-product.product) (g.R.Scalar.value w) c.args.count
    (lowest c.args.left c.mul.ensures.held.0) (lowest c.args.right c.mul.ensures.held.1)
    (lowest c.in_ok-product.product c.mul-2.ensures.held.0)
    c.in_ok-product.ensures.answer.value
    (v ∙ ap (fraction_product (g.R.Scalar.value c.in_ok-product.product)) is) h)

pub returns-clause-none : goal.returns-clause-none
returns-clause-none g c none d e h small some =
    let lowest = g.met.R.Scalar.lowest in
    let is : g.R.Scalar.value c.from_whole.result ≡ whole (pos c.args.count) =
    c.from_whole.ensures.value ∙ ap whole (to_z_pos w128 c.args.count c.requires) in
    refused-second g.R.Scalar.value c.args.left c.args.right c.in_ok-product.product
    c.from_whole.result d e c.args.count
    (lowest c.args.left c.mul.ensures.held.0) (lowest c.args.right c.mul.ensures.held.1)
    c.in_ok-product.ensures.answer.value is
    (subst (λ (o : Option g.row.R.Denot). AnswersProduct g.R.Scalar.value c.in_ok-product.product
    c.from_whole.result o) none c.mul-2.ensures.answer)
    h small
