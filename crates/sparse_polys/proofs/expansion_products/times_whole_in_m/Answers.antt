use Rattle.std.proofs.Common.{ℕ, List, subst, arith, ◌^◌, pos}
use Rattle.std.specs.Prelude.{nat_eq, ◌≤ℤ◌}
use Rattle.std.specs.Cmp.Lexicographic.{pointwise}
use Rattle.sym_model.specs.Canonical.{is_label}
use Rattle.fraction_laws.specs.Fractions.{whole}
use Rattle.sym_model.specs.Partition.{IsPartition}
use Rattle.sym_model.specs.WholeTerms.{WholeTerms}
use Rattle.sparse_polys.proofs.Coefficients.{if_answered}
use Rattle.sparse_polys.proofs.Tables.{table_gained}
use Rattle.sparse_polys.proofs.ValueLists.{values_combination}
use Rattle.monomial_laws.specs.MonomialProduct.{product_coefficient}
use Rattle.monomial_laws.specs.ExpressionTerms.{absolute, over}
use Rattle.sparse_polys.specs.Combination.{terms_of}
use Rattle.sparse_polys.proofs.Expansions.{whole_product, whole-denominators, over-one}
use Rattle.sparse_polys.proofs.Expansions.{sums_of_sizes, sums_values}
use Rattle.sparse_polys.proofs.expansion_products.times_whole_in_m.Goals as goal

pub returns-clause-large : goal.returns-clause-large
returns-clause-large c err =
    let left = c.args.left.now in
    let right = c.args.right.now in
    let P : WholeTerms → WholeTerms → Type 0 =
    λ l r. (ν : List ℕ) × IsPartition ν × (pos (2 ^ 127) ≤ℤ product_coefficient (absolute l)
    (absolute r) ν) in
    subst (λ (l : WholeTerms). P l right) (over-one left)
    (subst (λ (r : WholeTerms). P (over 1 (terms_of whole left)) r) (over-one right)
    (c.cleared_product.ensures.large err 1 1 (whole-denominators left) (whole-denominators right)
    (omega arith)))

pub returns-clause-coefficients : goal.returns-clause-coefficients
returns-clause-coefficients c =
    let left = c.args.left.now in
    let right = c.args.right.now in
    if_answered c.cleared_product.result c.cleared_product.ensures.cleared
    (λ product cleared ν p.
    whole_product left right product
    (cleared 1 1 (whole-denominators left) (whole-denominators right)) ν p)

pub returns-clause-labels : goal.returns-clause-labels
returns-clause-labels c =
    let left = c.args.left.now in
    let right = c.args.right.now in
    if_answered c.cleared_product.result c.cleared_product.ensures.cleared
    (λ product cleared.
    sums_values whole left right product
    (sums_of_sizes 1 1 (terms_of whole left) (terms_of whole right) (terms_of whole product)
    (omega arith) (cleared 1 1 (whole-denominators left) (whole-denominators right))))

pub returns-clause-table : goal.returns-clause-table
returns-clause-table c =
    let left = c.args.left.now in
    let right = c.args.right.now in
    if_answered c.cleared_product.result c.cleared_product.ensures.cleared
    (λ product cleared.
    values_combination whole (pointwise nat_eq) is_label product
    (table_gained 1 _ _ (cleared 1 1 (whole-denominators left) (whole-denominators right))))
