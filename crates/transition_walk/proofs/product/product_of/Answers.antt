use Rattle.std.proofs.Common.{◌-◌, ◌<◌, [], ◌∷◌, take, sym, ap, ◌∙◌, subst, arith, pos}
use Rattle.std.proofs.lemmas.Int.{ints}
use Rattle.std.specs.Prelude.{Err, FitsSigned}
use Rattle.std.specs.Int.{w128}
use Rattle.fraction_laws.specs.Fractions.{whole}
use Rattle.sym_model.specs.Polynomial.{pair}
use Rattle.linear_combinations.specs.Entries.{IsTable}
use Rattle.linear_combinations.specs.Gains.{WholeTermsOf}
use Rattle.linear_combinations.proofs.Steps.{error_is, IsCombination-empty}
use Rattle.linear_combinations.proofs.Tables.{held_nothing}
use Rattle.transition_walk.specs.Todo.{load}
use Rattle.transition_walk.proofs.Answering.{sums_as}
use Rattle.transition_walk.proofs.UnderWay.{start, popped_load, popped_few, popped_labels, next}
use Rattle.transition_walk.proofs.UnderWay.{overflow, limited, finished, shared}
use Rattle.transition_walk.proofs.product.product_of.Goals as goal

pub loop-waiting-init : goal.loop-waiting-init
loop-waiting-init g c = record {
  under_way = start g.F.Factor.product (λ r v. g.F.Rule.image (g.F.Factor.made r v))
      g.F.Factor.extent g.F.Factor.most c.args.w.now c.args.label.now c.in_ok-copy.field-0
      c.in_ok-single.field-0 c.in_ok-todo.todo.items c.push-2.new.self.items c.new-sum.result
      c.in_ok-copy.ensures.ok c.in_ok-single.ensures.sums c.in_ok-single.ensures.few
      c.in_ok-todo.ensures.items c.in_ok-push.ensures.items c.new-sum.ensures;
  table = subst (λ (l : WholeTermsOf _). IsTable g.L.PartialEq.eq g.L.Label.is_label (pos 0) whole
      (FitsSigned w128) l) (sym c.new-sum.ensures)
      (record {
        combination = IsCombination-empty g.L.PartialEq.eq g.L.Label.is_label whole;
        held = held_nothing g.L.PartialEq.eq (pos 0) (FitsSigned w128) (omega (arith, ints));
      });
}

pub work_off-requires-clause-few : goal.work_off-requires-clause-few
work_off-requires-clause-few g c some =
    popped_few g.F.Factor.product (λ r v. g.F.Rule.image (g.F.Factor.made r v)) g.F.Factor.extent
    g.F.Factor.most c.args.w.now c.args.label.now
    c.loop-waiting.todo.items c.pop.new.self.items c.in-Some.waiting c.loop-waiting.sum
    c.loop-waiting.invariant.under_way c.in-Some.ensures.items
    (c.requires c.len.ensures.limits) some

pub work_off-requires-clause-labels : goal.work_off-requires-clause-labels
work_off-requires-clause-labels g c some =
    popped_labels g.F.Factor.product (λ r v. g.F.Rule.image (g.F.Factor.made r v)) g.F.Factor.extent
    g.F.Factor.most c.args.w.now c.args.label.now
    c.loop-waiting.todo.items c.pop.new.self.items c.in-Some.waiting c.loop-waiting.sum
    c.loop-waiting.invariant.under_way c.in-Some.ensures.items
    (c.requires c.len.ensures.limits) some

pub returns-in_err-work_off-clause-overflow : goal.returns-in_err-work_off-clause-overflow
returns-in_err-work_off-clause-overflow g c err =
    overflow g.F.Factor.product (λ r v. g.F.Rule.image (g.F.Factor.made r v)) g.F.Factor.extent
    g.F.Factor.most c.args.w.now c.args.label.now
    c.loop-waiting.todo.items c.pop.new.self.items c.in-Some.waiting c.loop-waiting.sum
    c.loop-waiting.invariant.under_way c.in-Some.ensures.items (c.requires c.len.ensures.limits)
    (c.in_err-work_off.ensures.large
    (ap Err (error_is _ _ _ c.from_residual-in_err-work_off.ensures.1 err)))

pub returns-in_err-work_off-clause-large : goal.returns-in_err-work_off-clause-large
returns-in_err-work_off-clause-large g c err =
    limited g.F.Factor.product (λ r v. g.F.Rule.image (g.F.Factor.made r v)) g.F.Factor.extent
    g.F.Factor.most c.args.w.now c.args.label.now
    (λ r v. g.F.Rule.takes (g.F.Factor.made r v)) g.F.Factor.extra (c.requires c.len.ensures.limits)
    (λ k r. g.met.F.Factor.grows k r) (returns-in_err-work_off-clause-overflow g c err)

pub loop-waiting-smaller : goal.loop-waiting-smaller
loop-waiting-smaller g c =
    let a = popped_load g.F.Factor.product (λ r v. g.F.Rule.image (g.F.Factor.made r v))
    g.F.Factor.extent g.F.Factor.most c.args.w.now c.args.label.now
    c.loop-waiting.todo.items c.pop.new.self.items c.in-Some.waiting c.loop-waiting.sum
    c.loop-waiting.invariant.under_way c.in-Some.ensures.items in
    subst (λ k. load c.work_off.new.todo.items < k) (sym a) c.in_ok-work_off.ensures.step.lighter

pub loop-waiting-preserved : goal.loop-waiting-preserved
loop-waiting-preserved g c = record {
  under_way = next g.F.Factor.product (λ r v. g.F.Rule.image (g.F.Factor.made r v))
      g.F.Factor.extent g.F.Factor.most c.args.w.now c.args.label.now c.loop-waiting.todo.items
      c.pop.new.self.items c.in-Some.waiting c.loop-waiting.sum c.loop-waiting.invariant.under_way
      c.in-Some.ensures.items (c.requires c.len.ensures.limits)
      c.work_off.new.sum c.work_off.new.todo.items c.in_ok-work_off.ensures.step;
  table = c.in_ok-work_off.ensures.table c.loop-waiting.invariant.table;
}

pub returns-clause-value : goal.returns-clause-value
returns-clause-value g c n φ =
    sums_as (λ x. pair (g.F.Factor.polynomial n x) φ) (g.F.Factor.product n φ (1 ∷ []))
    (λ x. sym (g.met.F.Factor.start n φ x)) c.loop-waiting.sum
    ∙ finished g.F.Factor.product (λ r v. g.F.Rule.image (g.F.Factor.made r v)) g.F.Factor.extent
    g.F.Factor.most c.args.w.now c.args.label.now
    c.loop-waiting.todo.items c.pop.new.self.items c.loop-waiting.sum
    c.loop-waiting.invariant.under_way c.in_default.ensures.items
    (c.in_default.ensures.rest ∙ ap (λ k. take (k - 1) c.loop-waiting.todo.items)
    c.in_default.ensures.cases.0) n φ

pub returns-clause-table : goal.returns-clause-table
returns-clause-table g c = c.loop-waiting.invariant.table.combination

pub returns-clause-held : goal.returns-clause-held
returns-clause-held g c = c.loop-waiting.invariant.table.held

pub returns-clause-shares : goal.returns-clause-shares
returns-clause-shares g c share falls =
    shared g.F.Factor.product (λ r v. g.F.Rule.image (g.F.Factor.made r v)) g.F.Factor.extent
    g.F.Factor.most c.args.w.now c.args.label.now
    c.loop-waiting.todo.items c.pop.new.self.items c.loop-waiting.sum
    c.loop-waiting.invariant.under_way c.in_default.ensures.items
    (c.in_default.ensures.rest ∙ ap (λ k. take (k - 1) c.loop-waiting.todo.items)
    c.in_default.ensures.cases.0) share falls
