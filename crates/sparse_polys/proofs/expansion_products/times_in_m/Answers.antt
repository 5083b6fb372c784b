use Rattle.std.proofs.Common.{◌⊎◌, ◌*◌, ◌^◌, ◌<◌, ◌≤◌, ap, inl, inr, subst, ◌∙◌, sym}
use Rattle.std.specs.Prelude.{nat_eq}
use Rattle.std.specs.Cmp.Lexicographic.{pointwise}
use Rattle.std.proofs.lemmas.Bool.{cases_lt}
use Rattle.sym_model.specs.Sum.{Among}
use Rattle.sym_model.specs.Canonical.{is_label}
use Rattle.sym_model.specs.Expansion.{denominators}
use Rattle.sym_model.specs.ListWeight.{common_denominator}
use Rattle.sparse_polys.specs.Combination.{terms_of}
use Rattle.sparse_polys.specs.MonomialProducts.{IsTooLarge}
use Rattle.sparse_polys.proofs.Coefficients.{if_answered}
use Rattle.sparse_polys.proofs.ValueLists.{combination_values, length_values}
use Rattle.sparse_polys.proofs.Expansions.{expansion_product, expansion_nothing, sums_values}
use Rattle.sparse_polys.proofs.Expansions.{sums_of_sizes, common-denominators, least-denominators}
use Rattle.sparse_polys.proofs.expansion_products.times_in_m.Goals as goal
use native.Mathlib.Nat.{mul-pos}

pub returns-then-len-eq0-clause-value : goal.returns-then-len-eq0-clause-value
returns-then-len-eq0-clause-value g c n =
    let value = g.R.Scalar.value in
    expansion_nothing (terms_of value c.args.left.now) (terms_of value c.args.right.now)
    (terms_of value c.new.result) n _ (ap (terms_of value) c.new.ensures)
    (length_values value c.args.right.now ∙ sym c.len.ensures.len ∙ c.if-len-eq0.true)

pub returns-then-len-eq0-clause-labels : goal.returns-then-len-eq0-clause-labels
returns-then-len-eq0-clause-labels g c t m = absurd (subst (Among t) c.new.ensures m)

pub cleared_product-requires : goal.cleared_product-requires
cleared_product-requires g c = record { sizes = c.requires.sizes }

pub returns-clause-value : goal.returns-clause-value
returns-clause-value g c =
    let value = g.R.Scalar.value in
    if_answered c.cleared_product.result c.cleared_product.ensures.cleared
    (λ product cleared n.
    expansion_product (terms_of value c.args.left.now) (terms_of value c.args.right.now)
    (terms_of value product)
    (combination_values value (pointwise nat_eq) is_label c.args.left.now
    c.cleared_product.ensures.table)
    (combination_values value (pointwise nat_eq) is_label c.args.right.now
    c.len.ensures.combination) cleared n)

pub returns-clause-labels : goal.returns-clause-labels
returns-clause-labels g c =
    let value = g.R.Scalar.value in
    let left = terms_of value c.args.left.now in
    let right = terms_of value c.args.right.now in
    let a =
    common-denominators left
    (combination_values value (pointwise nat_eq) is_label c.args.left.now
    c.cleared_product.ensures.table) in
    let b =
    common-denominators right
    (combination_values value (pointwise nat_eq) is_label c.args.right.now
    c.len.ensures.combination) in
    if_answered c.cleared_product.result c.cleared_product.ensures.cleared
    (λ product cleared.
    sums_values value c.args.left.now c.args.right.now product
    (sums_of_sizes (denominators left) (denominators right) left right (terms_of value product)
    (mul-pos a.positive b.positive) (cleared (denominators left) (denominators right) a b)))

pub returns-clause-large : goal.returns-clause-large
returns-clause-large g c err =
    let value = g.R.Scalar.value in
    let left = terms_of value c.args.left.now in
    let right = terms_of value c.args.right.now in
    let d = common_denominator left in
    let e = common_denominator right in
    elim (cases_lt (d * e) (2 ^ 127)) as (λ (v : (d * e < 2 ^ 127) ⊎ (2 ^ 127 ≤ d * e)).
    IsTooLarge left right) [
      | inl small ↦ inr (c.cleared_product.ensures.large err d e
          (least-denominators left
          (combination_values value (pointwise nat_eq) is_label c.args.left.now
          c.cleared_product.ensures.table))
          (least-denominators right
          (combination_values value (pointwise nat_eq) is_label c.args.right.now
          c.len.ensures.combination)) small)
      | inr l ↦ inl l
    ]
