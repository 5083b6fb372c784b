use Rattle.std.proofs.Common.{◌≡◌, ◌*◌, ◌∙◌, subst, arith, ◌*ℤ◌}
use Rattle.std.specs.Prelude.{nat_eq}
use Rattle.std.specs.Cmp.Lexicographic.{pointwise}
use Rattle.std.proofs.lemmas.Result.{on_ok_weaker}
use Rattle.fraction_laws.specs.Fractions.{scaled}
use Rattle.linear_combinations.specs.Entries.{coefficient, HasMoreAt, IsRefused}
use Rattle.sparse_polys.specs.Combination.{terms_of}
use native.Mathlib.Nat.{mul-pos}
use Rattle.sparse_polys.proofs.ClearedSums.{Gains-entry, Overflows-entry}
use Rattle.sparse_polys.proofs.Accumulating.{Gains-nothing, Overflows-count}
use Rattle.sparse_polys.proofs.expansion_products.add_count.Goals as goal

pub returns-then-term-eq0-clause-ok : goal.returns-then-term-eq0-clause-ok
returns-then-term-eq0-clause-ok g c d e h cleared =
    Gains-nothing (d * e) c.args.term.now.count (scaled d (g.R.Scalar.value c.args.left) *ℤ scaled e
    (g.R.Scalar.value c.args.right)) (terms_of g.R.Scalar.value c.args.sum.now)
    c.args.term.now.parts.items (omega (arith, c.if-term-eq0.true)) cleared

pub returns-in_default-clause-large : goal.returns-in_default-clause-large
returns-in_default-clause-large g c err d e h small cleared =
    Overflows-count d e c.args.term.now.count (g.R.Scalar.value c.args.left)
    (g.R.Scalar.value c.args.right) (terms_of g.R.Scalar.value c.args.sum.now)
    c.args.term.now.parts.items
    (c.times_count.ensures.none c.in_default.is d e h small (omega (arith, c.if-term-eq0.false)))

pub returns-clause-ok : goal.returns-clause-ok
returns-clause-ok g c =
    let value = g.R.Scalar.value in
    let old = c.args.sum.now in
    let label = c.args.term.now.parts.items in
    let is : c.in_ok-label.label ≡ label = c.in_ok-label.ensures.ok ∙ c.as_slice.ensures.value in
    on_ok_weaker c.add_term.result
    (λ more d e h cleared.
    let v = c.in-Some.ensures.value d e h in
    Gains-entry value g.R.Scalar.zero g.met.R.Scalar.zero_value.0 (d * e) old label
    c.in-Some.product c.add_term.ensures.tables.before.combination (mul-pos h.0.positive h.1.positive) v.0 cleared
    g.R.Scalar.sum g.met.R.Scalar.sum_value c.add_term.new.self
    (g.met.R.Scalar.lowest c.in-Some.product c.in-Some.ensures.held)
    c.add_term.ensures.tables.after.combination
    (subst (λ l. HasMoreAt (pointwise nat_eq) g.R.Scalar.zero g.R.Scalar.sum old l
    c.in-Some.product c.add_term.new.self) is more) _ v.1)
    c.add_term.ensures.ok

pub returns-clause-large : goal.returns-clause-large
returns-clause-large g c err d e h small cleared =
    let value = g.R.Scalar.value in
    let old = c.args.sum.now in
    let label = c.args.term.now.parts.items in
    let is : c.in_ok-label.label ≡ label = c.in_ok-label.ensures.ok ∙ c.as_slice.ensures.value in
    let v = c.in-Some.ensures.value d e h in
    Overflows-entry value g.R.Scalar.zero g.met.R.Scalar.zero_value.0 (d * e) old label
    c.in-Some.product c.add_term.ensures.tables.before.combination (mul-pos h.0.positive h.1.positive) v.0 cleared
    g.R.Scalar.is_held g.R.Scalar.checked_sum g.met.R.Scalar.sum_answers small
    (subst (λ l. IsRefused g.R.Scalar.is_held g.R.Scalar.checked_sum
    (coefficient (pointwise nat_eq) g.R.Scalar.zero old l) c.in-Some.product) is
    (c.add_term.ensures.large.0 err)) _ v.1
