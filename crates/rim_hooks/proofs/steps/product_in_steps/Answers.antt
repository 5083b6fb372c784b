use Rattle.std.proofs.Common.{◌+◌, ◌*◌, ◌^◌, ◌≤◌, [], ◌∷◌, drop, refl, sym, ap, ◌∙◌, subst, inl, rules}
use Rattle.std.proofs.Common.{inr, arith, pos}
use Rattle.std.specs.Prelude.{Err, nat_abs}
use Rattle.std.proofs.lemmas.List.{drop_all}
use Rattle.partitions.specs.FactorList.{cells_of}
use Rattle.sym_model.specs.Partition.{rows, size}
use Rattle.sym_model.specs.ReductionSteps.{LeadsTo, StepsLead, classical_weight, step_weight}
use Rattle.linear_combinations.specs.Gains.{Gains, scaled}
use Rattle.linear_combinations.proofs.Masses.{over_same}
use Rattle.linear_combinations.proofs.Steps.{error_is, IsCombination-empty}
use Rattle.reduction_laws.specs.Reductions.{products, multiplied, HaveRoom, IsHeavyFrom}
use Rattle.reduction_laws.specs.Reductions.{OverflowsWithin}
use Rattle.rim_hooks.proofs.FactorSteps.{factor_at, first_two, lead_on, heavy_here, heavy_later}
use Rattle.rim_hooks.proofs.ReducedProducts.{few_at, room_next, gains_first, heavy_first}
use Rattle.rim_hooks.proofs.ReducedProducts.{leads_sorted}
use Rattle.rim_hooks.proofs.steps.product_in_steps.Goals as goal

pub add_reduced_product-requires-clause-cells : goal.add_reduced_product-requires-clause-cells
add_reduced_product-requires-clause-cells g c =
    let first = c.factor_at.result.now in
    let e = first_two c.args.factors.now first c.factor_at-2.result.now c.factor_at.ensures
    c.factor_at-2.ensures in
    let cells = ap cells_of e in
    let most = c.len-len.ensures.limits.small.cells in
    let s = ap g.R.Reduction.cells c.in_ok-start.ensures ∙ (g.met.R.Reduction.start_is first).1 in
    omega arith

pub add_reduced_product-requires-clause-few : goal.add_reduced_product-requires-clause-few
add_reduced_product-requires-clause-few g c =
    let first = c.factor_at.result.now in
    let k = g.R.Reduction.variables c.args.rule.now in
    let s = ap g.R.Reduction.shape c.in_ok-start.ensures ∙ (g.met.R.Reduction.start_is first).0 in (
      subst (λ x. rows x ≤ k) (sym s) (few_at k c.args.factors.now 0 first c.factor_at.ensures
          c.requires.few),
      few_at k c.args.factors.now 1 c.factor_at-2.result.now
          c.factor_at-2.ensures c.requires.few,
    )

pub add_reduced_product-requires-clause-nonzero : goal.add_reduced_product-requires-clause-nonzero
add_reduced_product-requires-clause-nonzero g c =
    let e = ap nat_abs c.one.ensures.one in omega arith

pub add_reduced_product-requires-clause-table : goal.add_reduced_product-requires-clause-table
add_reduced_product-requires-clause-table g c = search (rules, IsCombination-empty)

pub returns-in_err-add_reduced_product-clause-large
    : goal.returns-in_err-add_reduced_product-clause-large
returns-in_err-add_reduced_product-clause-large g c err =
    let first = c.factor_at.result.now in
    let second = c.factor_at-2.result.now in
    let k = g.R.Reduction.variables c.args.rule.now in
    let shape = g.R.Reduction.shape in
    let step = g.R.Reduction.step c.args.rule.now in
    let start = g.R.Reduction.start in
    let e = first_two c.args.factors.now first second c.factor_at.ensures c.factor_at-2.ensures in
    let o = subst (λ old. OverflowsWithin g.L.PartialEq.eq old
    (nat_abs c.one.result * classical_weight k (shape c.in_ok-start.start ∷ second ∷ [])))
    c.new-terms.ensures
    (c.in_err-add_reduced_product.ensures.large
    (ap Err (error_is _ _ _ c.from_residual-in_err-add_reduced_product.ensures.1 err))) in
    let heavy = subst (λ l. 2 ^ 127 ≤ step_weight shape k second ((l, pos 1) ∷ []))
    c.in_ok-start.ensures
    (heavy_first k shape (g.R.Reduction.reduced c.args.rule.now) c.in_ok-start.start second
    c.one.result c.one.ensures.one g.L.PartialEq.eq o) in
    subst (λ f. IsHeavyFrom shape step start k f) (sym e) (
      step_weight shape k second
          ((start first, pos 1) ∷ []),
      inl refl,
      heavy,
    )

pub loop-at-init : goal.loop-at-init
loop-at-init g c =
    let first = c.factor_at.result.now in
    let second = c.factor_at-2.result.now in
    let rule = c.args.rule.now in
    let k = g.R.Reduction.variables rule in
    let shape = g.R.Reduction.shape in
    let reduced = g.R.Reduction.reduced rule in
    let step = g.R.Reduction.step rule in
    let start = g.R.Reduction.start in
    let rest = drop 2 c.args.factors.now in
    let e = first_two c.args.factors.now first second c.factor_at.ensures c.factor_at-2.ensures in
    let table = c.in_ok-add_reduced_product.ensures.table in
    let gains = subst (λ l. Gains [] (multiplied k shape reduced second ((l, pos 1) ∷ []))
    c.add_reduced_product.new.sums) c.in_ok-start.ensures
    (gains_first k shape reduced c.in_ok-start.start second c.one.result c.one.ensures.one
    c.add_reduced_product.new.sums
    (subst (λ old. Gains old
    (scaled c.one.result (products k shape reduced second c.in_ok-start.start))
    c.add_reduced_product.new.sums) c.new-terms.ensures
    c.in_ok-add_reduced_product.ensures.gains)) in
    let made = g.met.R.Reduction.made rule second ((start first, pos 1) ∷ [])
    c.add_reduced_product.new.sums
    c.requires.rule table gains in
    let is = g.met.R.Reduction.start_is first in
    let cells = ap cells_of e in
    let most = c.len-len.ensures.limits.small.cells in
    let single : HaveRoom k shape g.R.Reduction.cells (size second + cells_of rest)
    ((start first, pos 1) ∷ []) = λ t m.
    elim m [
      | inl d ↦
          subst (λ u. (rows (shape u.0) ≤ k)
          × (g.R.Reduction.cells u.0 + (size second + cells_of rest) ≤ 4096)) (sym d) (
            subst (λ x. rows x ≤ k) (sym is.0)
                (few_at k c.args.factors.now 0 first c.factor_at.ensures c.requires.few),
            (let s = is.1 in omega arith),
          )
      | inr n ↦ absurd n
    ] in
    record {
      table = table;
      room = room_next k shape reduced (g.met.R.Reduction.light rule) g.R.Reduction.cells
          (λ l μ. g.met.R.Reduction.room rule l μ c.requires.rule) g.met.L.Eq.laws
          g.met.L.Label.same_label
          second (cells_of rest) ((start first, pos 1) ∷ []) c.add_reduced_product.new.sums
          single gains
          table;
      leads = λ last lead. subst (λ f. LeadsTo step start f last) (sym e) (
        c.add_reduced_product.new.sums,
        made,
        lead,
      );
      heavy = λ h. subst (λ f. IsHeavyFrom shape step start k f) (sym e)
          (h.0, inr (c.add_reduced_product.new.sums, made, h.1), h.2);
    }

pub times_factor-requires-clause-room : goal.times_factor-requires-clause-room
times_factor-requires-clause-room g c t m =
    let here = factor_at c.args.factors.now c.loop-at.at c.factor_at-in-loop-at.result.now
    c.factor_at-in-loop-at.ensures in
    let r = c.loop-at.invariant.room t m in
    let a = r.1 in
    let e = ap cells_of here in
    (r.0, omega arith)

pub times_factor-requires-clause-few : goal.times_factor-requires-clause-few
times_factor-requires-clause-few g c = search (rules, few_at)

pub returns-in_err-next-clause-large : goal.returns-in_err-next-clause-large
returns-in_err-next-clause-large g c err =
    let at = c.loop-at.at in
    let factor = c.factor_at-in-loop-at.result.now in
    let here = factor_at c.args.factors.now at factor c.factor_at-in-loop-at.ensures in
    c.loop-at.invariant.heavy
    (heavy_here g.R.Reduction.shape (g.R.Reduction.step c.args.rule.now)
    (g.R.Reduction.variables c.args.rule.now) (drop at c.args.factors.now)
    (drop (at + 1) c.args.factors.now) factor c.loop-at.terms here
    (c.in_err-next.ensures.large
    (ap Err (error_is _ _ _ c.from_residual-in_err-next.ensures.1 err))))

pub loop-at-preserved : goal.loop-at-preserved
loop-at-preserved g c =
    let at = c.loop-at.at in
    let rule = c.args.rule.now in
    let k = g.R.Reduction.variables rule in
    let shape = g.R.Reduction.shape in
    let reduced = g.R.Reduction.reduced rule in
    let step = g.R.Reduction.step rule in
    let factor = c.factor_at-in-loop-at.result.now in
    let terms = c.loop-at.terms in
    let next = c.in_ok-next.next in
    let here = factor_at c.args.factors.now at factor c.factor_at-in-loop-at.ensures in
    let made = g.met.R.Reduction.made rule factor terms next c.requires.rule
    c.in_ok-next.ensures.table c.in_ok-next.ensures.gains in
    record {
      table = c.in_ok-next.ensures.table;
      room = room_next k shape reduced (g.met.R.Reduction.light rule) g.R.Reduction.cells
          (λ l μ. g.met.R.Reduction.room rule l μ c.requires.rule) g.met.L.Eq.laws
          g.met.L.Label.same_label
          factor (cells_of (drop (at + 1) c.args.factors.now)) terms next
          (subst (λ l. HaveRoom k shape g.R.Reduction.cells (cells_of l) terms) here
          c.loop-at.invariant.room) c.in_ok-next.ensures.gains c.in_ok-next.ensures.table;
      leads = λ last lead.
          c.loop-at.invariant.leads last (lead_on shape step (drop at c.args.factors.now)
          (drop (at + 1) c.args.factors.now) factor terms next last here made lead);
      heavy = λ h. c.loop-at.invariant.heavy (heavy_later shape step k (drop at c.args.factors.now)
          (drop (at + 1) c.args.factors.now) factor terms next here made h);
    }

pub returns-clause-steps : goal.returns-clause-steps
returns-clause-steps g c =
    let step = g.R.Reduction.step c.args.rule.now in
    let led = c.loop-at.invariant.leads c.loop-at.terms
    (subst (λ l. StepsLead step c.loop-at.terms l c.loop-at.terms)
    (sym (drop_all c.loop-at.at c.args.factors.now (omega arith))) refl) in
    leads_sorted step g.R.Reduction.start c.args.factors.now c.loop-at.terms
    c.in_ok-sorted_terms.field-0 c.len-len.ensures.limits.least
    (λ factor terms. g.met.R.Reduction.changed c.args.rule.now factor terms c.loop-at.terms
    c.in_ok-sorted_terms.field-0 c.in_ok-sorted_terms.ensures.combination
    (λ φ. sym (over_same g.met.L.Eq.laws g.met.L.Label.same_label c.loop-at.terms
    c.in_ok-sorted_terms.field-0 c.loop-at.invariant.table
    c.in_ok-sorted_terms.ensures.combination c.in_ok-sorted_terms.ensures.same φ)))
    led
