use Rattle.std.proofs.Common.{◌+◌, ◌*◌, take, drop, suc, ◌∙◌, ap, rules}
use Rattle.std.proofs.Common.{subst, ◌*ℤ◌}
use Rattle.std.specs.Prelude.{Err}
use Rattle.std.proofs.lemmas.List.{take_all}
use Rattle.std.specs.Prelude.{nat_eq}
use Rattle.std.specs.Cmp.Lexicographic.{pointwise}
use Rattle.sym_model.specs.Canonical.{is_label}
use Rattle.sym_model.proofs.SortedParts.{rows_within_size}
use Rattle.fraction_laws.specs.Fractions.{scaled}
use Rattle.linear_combinations.specs.Gains.{scaled as multiple}
use Rattle.sparse_polys.proofs.Steps.{error_is}
use Rattle.sparse_polys.specs.Combination.{terms_of}
use Rattle.sparse_polys.specs.MonomialProducts.{product_terms}
use Rattle.linear_combinations.specs.Cleared.{GainsCleared, OverflowsCleared}
use Rattle.sparse_polys.proofs.Accumulating.{Overflows-many}
use Rattle.linear_combinations.proofs.Cleared.{Gains-none, Gains-next, Overflows-next}
use Rattle.sparse_polys.proofs.ExactCounts.{all_among}
use Rattle.sparse_polys.proofs.ProductLists.{counted_terms, counted_pieces, counted_gains}
use Rattle.sparse_polys.proofs.ProductLists.{counted_overflows}
use Rattle.sym_model.proofs.Lists.{take-read, split-read}
use Rattle.sparse_polys.proofs.expansion_products.add_pair.Goals as goal
use Rattle.sym_model.proofs.Sums.{Among-get_or}

pub returns-in_err-terms-clause-large : goal.returns-in_err-terms-clause-large
returns-in_err-terms-clause-large g c err d e h small a b cleared =
    search (rules, Overflows-many, error_is)

pub loop-term-init : goal.loop-term-init
loop-term-init g c d e h cleared =
    Gains-none (d * e) (terms_of g.R.Scalar.value c.args.sum.now) cleared

pub add_count-requires : goal.add_count-requires
add_count-requires g c = search (rules, Among-get_or, all_among, rows_within_size)

pub loop-term-preserved : goal.loop-term-preserved
loop-term-preserved g c d e h cleared =
    let z = scaled d (g.R.Scalar.value c.args.left) *ℤ scaled e (g.R.Scalar.value c.args.right) in
    let entries = c.as_slice-entries.result.now in
    let i = c.loop-term.term-index in
    let t = c.term-item.result in
    let before = c.loop-term.invariant d e h cleared in
    Gains-next (λ xs. multiple z (counted_terms xs)) (counted_pieces z) (d * e) (take i entries) t
    (terms_of g.R.Scalar.value c.args.sum.now) (terms_of g.R.Scalar.value c.loop-term.sum) before
    (take (i + 1) entries) (terms_of g.R.Scalar.value c.add_count.new.sum)
    (take-read entries i t c.loop-term-test.true c.term-item.is)
    (c.in_ok-add_count.ensures.ok d e h before.cleared)

pub returns-in_err-add_count-clause-large : goal.returns-in_err-add_count-clause-large
returns-in_err-add_count-clause-large g c err d e h small a b cleared =
    let z = scaled d (g.R.Scalar.value c.args.left) *ℤ scaled e (g.R.Scalar.value c.args.right) in
    let entries = c.as_slice-entries.result.now in
    let i = c.loop-term.term-index in
    let t = c.term-item.result in
    let before = c.loop-term.invariant d e h cleared in
    let over =
    Overflows-next (λ xs. multiple z (counted_terms xs)) (counted_pieces z) (d * e) (take i entries)
    t (terms_of g.R.Scalar.value c.args.sum.now) (terms_of g.R.Scalar.value c.loop-term.sum) before
    (drop (suc i) entries)
    (c.in_err-add_count.ensures.large
    (ap Err (error_is _ _ _ c.from_residual-in_err-add_count.ensures.1 err)) d e h small
    before.cleared) in
    subst (λ l. OverflowsCleared (pointwise nat_eq) (d * e)
    (terms_of g.R.Scalar.value c.args.sum.now)
    (multiple z (product_terms l c.args.other.now))) c.parts.ensures.value
    (subst (λ r. OverflowsCleared (pointwise nat_eq) (d * e)
    (terms_of g.R.Scalar.value c.args.sum.now)
    (multiple z (product_terms c.parts.result.now r))) c.parts-2.ensures.value
    (counted_overflows c.parts.result.now c.parts-2.result.now c.in_ok-terms.terms.items
    c.in_ok-terms.ensures.labels c.in_ok-terms.ensures.counts z (d * e)
    (terms_of g.R.Scalar.value c.args.sum.now)
    (subst (λ l. OverflowsCleared (pointwise nat_eq) (d * e)
    (terms_of g.R.Scalar.value c.args.sum.now)
    (multiple z (counted_terms l)))
    (split-read entries i t c.loop-term-test.true c.term-item.is
    ∙ c.as_slice-entries.ensures.value) over)))

pub returns-clause-ok : goal.returns-clause-ok
returns-clause-ok g c d e h cleared =
    let z = scaled d (g.R.Scalar.value c.args.left) *ℤ scaled e (g.R.Scalar.value c.args.right) in
    let entries = c.as_slice-entries.result.now in
    let i = c.loop-term.term-index in
    subst (λ l. GainsCleared (pointwise nat_eq) is_label (d * e)
    (terms_of g.R.Scalar.value c.args.sum.now)
    (multiple z (product_terms l c.args.other.now)) (terms_of g.R.Scalar.value c.loop-term.sum))
    c.parts.ensures.value
    (subst (λ r. GainsCleared (pointwise nat_eq) is_label (d * e)
    (terms_of g.R.Scalar.value c.args.sum.now)
    (multiple z (product_terms c.parts.result.now r)) (terms_of g.R.Scalar.value c.loop-term.sum))
    c.parts-2.ensures.value
    (counted_gains c.parts.result.now c.parts-2.result.now c.in_ok-terms.terms.items
    c.in_ok-terms.ensures.labels c.in_ok-terms.ensures.counts z (d * e)
    (terms_of g.R.Scalar.value c.args.sum.now)
    (terms_of g.R.Scalar.value c.loop-term.sum)
    (subst (λ l. GainsCleared (pointwise nat_eq) is_label (d * e)
    (terms_of g.R.Scalar.value c.args.sum.now)
    (multiple z (counted_terms l))
    (terms_of g.R.Scalar.value c.loop-term.sum)) (take_all i entries c.loop-term-test.false
    ∙ c.as_slice-entries.ensures.value)
    (c.loop-term.invariant d e h cleared))))
