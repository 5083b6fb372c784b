use Rattle.std.proofs.Common.{ℕ, ◌+◌, ◌^◌, ◌<◌, ◌≤◌, min, List, [], subst, sym, arith}
use Rattle.sym_model.specs.Partition.{rows}
use Rattle.sym_model.specs.GoodTableau.{product_count}
use Rattle.lr_product.specs.Counts.{good_count, HasCounts, IsPastSomewhere}
use Rattle.schur_laws.proofs.ProductCounts.{product_count-none}
use Rattle.linear_combinations.proofs.Steps.{if_answered}
use Rattle.lr_product.proofs.GoodCounts.{none_counted, same_product, lists_in, fits_in, past_in}
use Rattle.lr_product.proofs.Results.{on_any}
use Rattle.lr_product.proofs.product.counts_from.Goals as goal
use Rattle.std.proofs.lemmas.Result.{on_ok_weaker}

pub returns-then-rows-letters-clause-counts : goal.returns-then-rows-letters-clause-counts
returns-then-rows-letters-clause-counts c =
    let few : c.args.variables < rows c.args.left.now = omega (
      arith,
      c.if-rows-letters.true,
      c.min-letters.ensures,
      c.rows-3.ensures.value,
      c.rows.ensures.value,
      c.rows-2.ensures.value,
    )
    in
    let counts = none_counted c.args.variables (product_count c.args.variables c.args.left.now
    c.args.right.now) (λ ν. product_count-none c.args.variables c.args.left.now c.args.right.now
    ν few) in
    if_answered c.no_terms.result c.no_terms.ensures.none
    (λ terms e. subst (HasCounts c.args.variables
    (product_count c.args.variables c.args.left.now c.args.right.now)) (sym e) counts)

pub returns-then-rows-letters-clause-fits : goal.returns-then-rows-letters-clause-fits
returns-then-rows-letters-clause-fits c =
    let few : c.args.variables < rows c.args.left.now = omega (
      arith,
      c.if-rows-letters.true,
      c.min-letters.ensures,
      c.rows-3.ensures.value,
      c.rows.ensures.value,
      c.rows-2.ensures.value,
    )
    in
    on_any c.no_terms.result (λ ν q l. let e = product_count-none c.args.variables c.args.left.now
    c.args.right.now ν few in omega arith)

pub returns-clause-counts : goal.returns-clause-counts
returns-clause-counts c =
    let most : c.min-letters.result ≤ c.args.variables = omega (arith, c.min-letters.ensures) in
    let enough : min c.args.variables (rows c.args.left.now + rows c.args.right.now)
    ≤ c.min-letters.result = omega (
      arith,
      c.min-letters.ensures,
      c.rows.ensures.value,
      c.rows-2.ensures.value,
    ) in
    let same = same_product c.min-letters.result c.args.variables c.args.left.now c.args.right.now
    most enough c.rows.ensures.limits.partition c.rows-2.ensures.limits.partition
    (omega (arith, c.if-rows-letters.false, c.rows-3.ensures.value)) in
    if_answered c.good_counts.result c.good_counts.ensures.counts
    (λ terms l. lists_in c.min-letters.result c.args.variables
    (good_count c.min-letters.result c.args.left.now c.args.right.now [])
    (product_count c.args.variables c.args.left.now c.args.right.now) terms same
    (subst (λ s. HasCounts c.min-letters.result (good_count c.min-letters.result s c.args.right.now
    []) terms) c.parts.ensures.value l))

pub returns-clause-fits : goal.returns-clause-fits
returns-clause-fits c =
    let most : c.min-letters.result ≤ c.args.variables = omega (arith, c.min-letters.ensures) in
    let enough : min c.args.variables (rows c.args.left.now + rows c.args.right.now)
    ≤ c.min-letters.result = omega (
      arith,
      c.min-letters.ensures,
      c.rows.ensures.value,
      c.rows-2.ensures.value,
    ) in
    let same = same_product c.min-letters.result c.args.variables c.args.left.now c.args.right.now
    most enough c.rows.ensures.limits.partition c.rows-2.ensures.limits.partition
    (omega (arith, c.if-rows-letters.false, c.rows-3.ensures.value)) in
    on_ok_weaker c.good_counts.result (λ f. fits_in c.min-letters.result c.args.variables
    (good_count c.min-letters.result c.args.left.now c.args.right.now [])
    (product_count c.args.variables c.args.left.now c.args.right.now) same
    (subst (λ s. (parts : List ℕ) → good_count c.min-letters.result s c.args.right.now [] parts < 2
    ^ 127) c.parts.ensures.value f)) c.good_counts.ensures.fits

pub returns-clause-large : goal.returns-clause-large
returns-clause-large c = λ e.
    let most : c.min-letters.result ≤ c.args.variables = omega (arith, c.min-letters.ensures) in
    let enough : min c.args.variables (rows c.args.left.now + rows c.args.right.now)
    ≤ c.min-letters.result = omega (
      arith,
      c.min-letters.ensures,
      c.rows.ensures.value,
      c.rows-2.ensures.value,
    ) in
    let same = same_product c.min-letters.result c.args.variables c.args.left.now c.args.right.now
    most enough c.rows.ensures.limits.partition c.rows-2.ensures.limits.partition
    (omega (arith, c.if-rows-letters.false, c.rows-3.ensures.value)) in
    past_in c.min-letters.result c.args.variables (good_count c.min-letters.result c.args.left.now
    c.args.right.now []) (product_count c.args.variables c.args.left.now c.args.right.now) same
    (subst (λ s. IsPastSomewhere c.min-letters.result
    (good_count c.min-letters.result s c.args.right.now [])) c.parts.ensures.value
    (c.good_counts.ensures.large e))
