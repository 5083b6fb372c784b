use Rattle.std.proofs.Common.{◌+◌, ◌-◌, ◌<◌, ◌≤◌, length, get_or, ap, Err, refl, sym, ◌∙◌, subst, rules}
use Rattle.std.proofs.Common.{arith, neg_ℤ}
use Rattle.sym_model.specs.Partition.{size}
use Rattle.sym_model.specs.WholeTerms.{WholeTerms}
use Rattle.linear_combinations.specs.Gains.{Gains, Overflows, HaveLabels, scaled, each_with}
use Rattle.linear_combinations.proofs.Gains.{gains_both, overflows_both, overflows_more}
use Rattle.linear_combinations.proofs.Steps.{error_is}
use Rattle.sparse_polys.proofs.PartitionTerms.{IsWithinLimits-low}
use Rattle.family_lists.specs.FactorLists.{list_at}
use Rattle.family_lists.proofs.PlacedLists.{list_at-index}
use Rattle.basis_change.specs.AugmentedProducts.{MixedLabel, Mixed, equal, IsReady}
use Rattle.basis_change.specs.AugmentedProducts.{products, raised, conversion}
use Rattle.basis_change.proofs.LastParts.{ended}
use Rattle.basis_change.proofs.Conversions.{converted_terms}
use Rattle.basis_change.proofs.Costs.{list_of}
use Rattle.basis_change.proofs.rewriting.LastPartRulePairPair.add_image.Goals as goal
use Rattle.std.proofs.lemmas.Result.{on_ok_weaker}

pub overflow_sub-factor : goal.overflow_sub-factor
overflow_sub-factor c = search (rules, ended)

pub bounds-self-from : goal.bounds-self-from
bounds-self-from c = search (rules, ended)

pub add_mixed-requires-clause-sizes : goal.add_mixed-requires-clause-sizes
add_mixed-requires-clause-sizes c =
    let factors = c.args.self.now.factors.now in
    let p = ended c.in-Some.last.now c.in-Some.rest.now c.label.inside.second
    (sym c.parts.ensures.value ∙ c.in-Some.ensures.cases.0) c.parts.ensures.limits.partition in
    let r = subst (IsReady (length c.args.self.now.factors.now) c.args.self.now.rows)
    (sym c.label.view_is) c.requires.ready in
    let low = r.low in
    let cells = p.cells in
    let positive = p.positive in
    let from = c.from.ensures in
    let lists = c.requires.lists in
    let i : c.from.result - 1 < length c.args.self.now.factors.now = omega arith in
    let is = sym (ap (λ k. list_at c.args.self.now.factors.now (k - 1)) from) ∙ list_at-index
    factors (c.from.result - 1) c.index-self-from.result (get_or c.args.self.now.factors.now
    (c.from.result - 1) c.index-self-from.result) i refl in
    let conv = ap size c.parts-2.ensures.value in
    let small = list_of factors c.in-Some.last.now c.requires.small positive (omega arith) in
    subst (λ (x : WholeTerms). HaveLabels (λ label. size c.parts-2.result.now + size label ≤ 512) x)
    is
    (λ t m. let k = (small.low t m).low in omega arith)

pub add_mixed-requires-clause-augmented : goal.add_mixed-requires-clause-augmented
add_mixed-requires-clause-augmented c = search (rules, ended, IsWithinLimits-low)

pub take_raised-requires-clause-by : goal.take_raised-requires-clause-by
take_raised-requires-clause-by c = search (rules, ended)

pub take_raised-requires-clause-partition : goal.take_raised-requires-clause-partition
take_raised-requires-clause-partition c = search (rules, ended)

pub take_raised-requires-clause-small : goal.take_raised-requires-clause-small
take_raised-requires-clause-small c = search (rules, ended)

pub returns-in_err-add_mixed-clause-large : goal.returns-in_err-add_mixed-clause-large
returns-in_err-add_mixed-clause-large c err =
    let factors = c.args.self.now.factors.now in
    let rest = c.in-Some.rest.now in
    let first = c.label.inside.first in
    let z = c.args.c in
    let p = ended c.in-Some.last.now c.in-Some.rest.now c.label.inside.second
    (sym c.parts.ensures.value ∙ c.in-Some.ensures.cases.0) c.parts.ensures.limits.partition in
    let r = subst (IsReady (length c.args.self.now.factors.now) c.args.self.now.rows)
    (sym c.label.view_is) c.requires.ready in
    let low = r.low in
    let cells = p.cells in
    let positive = p.positive in
    let from = c.from.ensures in
    let i : c.from.result - 1 < length c.args.self.now.factors.now = omega arith in
    let is = sym (ap (λ k. list_at c.args.self.now.factors.now (k - 1)) from) ∙ list_at-index
    factors (c.from.result - 1) c.index-self-from.result (get_or c.args.self.now.factors.now
    (c.from.result - 1) c.index-self-from.result) i refl in
    let all = converted_terms factors (c.label.inside.first, c.label.inside.second)
    (get_or c.args.self.now.factors.now (c.from.result - 1) c.index-self-from.result)
    c.in-Some.last.now is rest z c.args.self.now.rows (sym c.rows.ensures.value
    ∙ c.if-rows-self.false) p
    ∙ ap (λ (l : MixedLabel). scaled c.args.c (conversion c.args.self.now.factors.now
    c.args.self.now.rows l)) c.label.view_is in
    subst (λ (l : Mixed). Overflows equal c.args.sum.now l) all
    (overflows_more equal c.args.sum.now
    (scaled z (products (get_or c.args.self.now.factors.now (c.from.result - 1)
    c.index-self-from.result) first rest))
    (each_with (neg_ℤ z) (raised first c.in-Some.last.now rest rest))
    (subst (λ l. Overflows equal c.args.sum.now
    (scaled c.args.c (products (get_or c.args.self.now.factors.now (c.from.result - 1)
    c.index-self-from.result) l c.in-Some.rest.now))) c.parts-2.ensures.value
    (c.in_err-add_mixed.ensures.large (ap Err (error_is _ _ _ c.from_residual.ensures.1 err)))))

pub returns-clause-gains : goal.returns-clause-gains
returns-clause-gains c =
    let factors = c.args.self.now.factors.now in
    let rest = c.in-Some.rest.now in
    let first = c.label.inside.first in
    let z = c.args.c in
    let p = ended c.in-Some.last.now c.in-Some.rest.now c.label.inside.second
    (sym c.parts.ensures.value ∙ c.in-Some.ensures.cases.0) c.parts.ensures.limits.partition in
    let r = subst (IsReady (length c.args.self.now.factors.now) c.args.self.now.rows)
    (sym c.label.view_is) c.requires.ready in
    let low = r.low in
    let cells = p.cells in
    let positive = p.positive in
    let from = c.from.ensures in
    let i : c.from.result - 1 < length c.args.self.now.factors.now = omega arith in
    let is = sym (ap (λ k. list_at c.args.self.now.factors.now (k - 1)) from) ∙ list_at-index
    factors (c.from.result - 1) c.index-self-from.result (get_or c.args.self.now.factors.now
    (c.from.result - 1) c.index-self-from.result) i refl in
    let all = converted_terms factors (c.label.inside.first, c.label.inside.second)
    (get_or c.args.self.now.factors.now (c.from.result - 1) c.index-self-from.result)
    c.in-Some.last.now is rest z c.args.self.now.rows (sym c.rows.ensures.value
    ∙ c.if-rows-self.false) p
    ∙ ap (λ (l : MixedLabel). scaled c.args.c (conversion c.args.self.now.factors.now
    c.args.self.now.rows l)) c.label.view_is in
    on_ok_weaker c.take_raised.result (λ more.
    subst (λ (l : Mixed). Gains c.args.sum.now l c.take_raised.new.sum) all
    (gains_both c.args.sum.now
    (scaled z (products (get_or c.args.self.now.factors.now (c.from.result - 1)
    c.index-self-from.result) first rest)) c.add_mixed.new.sum
    (each_with (neg_ℤ z) (raised first c.in-Some.last.now rest rest)) c.take_raised.new.sum
    (subst (λ l. Gains c.args.sum.now
    (scaled c.args.c (products (get_or c.args.self.now.factors.now (c.from.result - 1)
    c.index-self-from.result) l c.in-Some.rest.now)) c.add_mixed.new.sum)
    c.parts-2.ensures.value c.in_ok-add_mixed.ensures.gains)
    more)) c.take_raised.ensures.gains

pub returns-clause-large : goal.returns-clause-large
returns-clause-large c err =
    let factors = c.args.self.now.factors.now in
    let rest = c.in-Some.rest.now in
    let first = c.label.inside.first in
    let z = c.args.c in
    let p = ended c.in-Some.last.now c.in-Some.rest.now c.label.inside.second
    (sym c.parts.ensures.value ∙ c.in-Some.ensures.cases.0) c.parts.ensures.limits.partition in
    let r = subst (IsReady (length c.args.self.now.factors.now) c.args.self.now.rows)
    (sym c.label.view_is) c.requires.ready in
    let low = r.low in
    let cells = p.cells in
    let positive = p.positive in
    let from = c.from.ensures in
    let i : c.from.result - 1 < length c.args.self.now.factors.now = omega arith in
    let is = sym (ap (λ k. list_at c.args.self.now.factors.now (k - 1)) from) ∙ list_at-index
    factors (c.from.result - 1) c.index-self-from.result (get_or c.args.self.now.factors.now
    (c.from.result - 1) c.index-self-from.result) i refl in
    let all = converted_terms factors (c.label.inside.first, c.label.inside.second)
    (get_or c.args.self.now.factors.now (c.from.result - 1) c.index-self-from.result)
    c.in-Some.last.now is rest z c.args.self.now.rows (sym c.rows.ensures.value
    ∙ c.if-rows-self.false) p
    ∙ ap (λ (l : MixedLabel). scaled c.args.c (conversion c.args.self.now.factors.now
    c.args.self.now.rows l)) c.label.view_is in
    subst (λ (l : Mixed). Overflows equal c.args.sum.now l) all
    (overflows_both equal c.args.sum.now
    (scaled z (products (get_or c.args.self.now.factors.now (c.from.result - 1)
    c.index-self-from.result) first rest)) c.add_mixed.new.sum
    (each_with (neg_ℤ z) (raised first c.in-Some.last.now rest rest))
    (subst (λ l. Gains c.args.sum.now
    (scaled c.args.c (products (get_or c.args.self.now.factors.now (c.from.result - 1)
    c.index-self-from.result) l c.in-Some.rest.now)) c.add_mixed.new.sum)
    c.parts-2.ensures.value c.in_ok-add_mixed.ensures.gains)
    (c.take_raised.ensures.large err))
