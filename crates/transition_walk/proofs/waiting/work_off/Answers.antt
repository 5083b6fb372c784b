use Rattle.std.proofs.Common.{◌≡◌, ℕ, List, [], ◌∷◌, refl, ap, arith}
use Rattle.std.proofs.lemmas.Int.{ints}
use Rattle.linear_combinations.specs.Gains.{over}
use Rattle.linear_combinations.proofs.Masses.{on_both}
use Rattle.transition_walk.proofs.Ranks.{weight_positive}
use Rattle.transition_walk.proofs.Steps.{are_labels, step_value, step_growth, step_waiting}
use Rattle.transition_walk.proofs.Steps.{step_short, step_load}
use Rattle.linear_combinations.specs.Gains.{weighed}
use Rattle.linear_combinations.proofs.Weighed.{gains_weighed, overflow_weighed}
use Rattle.transition_walk.proofs.waiting.work_off.Goals as goal
use Rattle.std.proofs.lemmas.Result.{on_ok_weaker}

pub expand-requires-clause-few : goal.expand-requires-clause-few
expand-requires-clause-few g c = let i = c.in-Some.ensures.fewer in c.requires.few (omega arith)

pub expand-requires-clause-labels : goal.expand-requires-clause-labels
expand-requires-clause-labels g c = let i = c.in-Some.ensures.fewer in c.requires.labels
    (omega arith)

pub returns-in-Some-clause-step : goal.returns-in-Some-clause-step
returns-in-Some-clause-step g c =
    on_both c.expand.result c.expand.ensures.joins c.expand.ensures.table
    (λ joins table.
    let short = c.in-Some.ensures.short in
    let places = c.in-Some.ensures.places in
    record {
      value = λ n φ.
          let a = joins.value (g.F.Factor.product n φ) in
          let b = step_value (λ v. g.F.Rule.image (g.F.Factor.made c.in-Some.r v)) c.in-Some.r
          c.in-Some.s c.args.waiting (g.F.Factor.product n φ)
          (λ t m. g.met.F.Factor.step n c.in-Some.r c.in-Some.s φ c.args.waiting.perm t.0
          short.one_line places (are_labels c.args.waiting.factor table t m)) in
          omega (arith, ints);
      grows = λ n top share is falls.
          let a = joins.grows share in
          let b = step_growth (λ v. g.F.Rule.image (g.F.Factor.made c.in-Some.r v)) c.in-Some.r
          c.in-Some.s c.args.waiting g.F.Factor.extent n top is short.one_line places
          (λ r v. g.F.Rule.image (g.F.Factor.made r v)) refl share falls short.few in
          omega arith;
      waiting = λ n top is high was.
          joins.waiting g.F.Factor.extent n top was
          (step_waiting (λ v. g.F.Rule.image (g.F.Factor.made c.in-Some.r v)) c.in-Some.r
          c.in-Some.s c.args.waiting g.F.Factor.extent n top is short.one_line places
          g.F.Factor.most g.F.Factor.extra high short.few
          (λ v. g.F.Rule.takes (g.F.Factor.made c.in-Some.r v))
          (λ k. g.met.F.Factor.grows k c.in-Some.r));
      ordered = joins.ordered;
      lighter =
          let a = joins.loaded in
          let b = step_load (λ v. g.F.Rule.image (g.F.Factor.made c.in-Some.r v)) c.in-Some.r
          c.in-Some.s c.args.waiting short places in
          omega arith;
    })

pub returns-in-Some-clause-table : goal.returns-in-Some-clause-table
returns-in-Some-clause-table g c = on_ok_weaker c.expand.result (λ _ was. was) c.expand.ensures.joins

pub returns-in-Some-clause-large : goal.returns-in-Some-clause-large
returns-in-Some-clause-large g c err n top is high =
    let short = c.in-Some.ensures.short in
    let places = c.in-Some.ensures.places in
    let o = c.expand.ensures.large err in
    record {
      perm = o.entry.perm;
      label = o.label;
      short = step_short (λ v. g.F.Rule.image (g.F.Factor.made c.in-Some.r v)) c.in-Some.r
          c.in-Some.s c.args.waiting g.F.Factor.extent n top is short.one_line places o.entry
          o.added;
      large = λ share falls some.
          let a = o.large share some in
          let b = step_growth (λ v. g.F.Rule.image (g.F.Factor.made c.in-Some.r v)) c.in-Some.r
          c.in-Some.s c.args.waiting g.F.Factor.extent n top is short.one_line places
          (λ r v. g.F.Rule.image (g.F.Factor.made r v)) refl share falls short.few in
          omega arith;
    }

pub returns-in-None-clause-step : goal.returns-in-None-clause-step
returns-in-None-clause-step g c =
    on_both c.add_given.result c.add_given.ensures.gains c.add_given.ensures.table
    (λ gains table.
    let same : c.args.waiting.perm ≡ 1 ∷ [] = c.in-None.ensures.identity.0 refl in
    record {
      value = λ n φ.
          let a = gains.sums (g.F.Factor.product n φ (1 ∷ [])) in
          let b = ap (λ (p : List ℕ). over (g.F.Factor.product n φ p) c.args.waiting.factor) same in
          omega (arith, ints);
      grows = λ n top share is falls.
          let a = gains_weighed g.met.L.Label.same_label g.met.L.Eq.laws c.args.sum.now
          c.args.waiting.factor c.add_given.new.sum table gains (share (1 ∷ [])) in
          let b = ap (λ (p : List ℕ). weighed (share p) c.args.waiting.factor) same in
          omega arith;
      waiting = λ n top is high was. was;
      ordered = λ o. o;
      lighter = let p = weight_positive c.args.waiting.perm in omega arith;
    })

pub returns-in-None-clause-table : goal.returns-in-None-clause-table
returns-in-None-clause-table g c =
    on_both c.add_given.result c.add_given.ensures.table c.add_given.ensures.held (λ table held was.
    record { combination = table; held = held })

pub returns-in-None-clause-large : goal.returns-in-None-clause-large
returns-in-None-clause-large g c err n top is high =
    let same : c.args.waiting.perm ≡ 1 ∷ [] = c.in-None.ensures.identity.0 refl in
    let o = c.add_given.ensures.large err in
    let one_line = c.in-None.ensures.short.one_line in
    record {
      perm = c.args.waiting.perm;
      label = o.0;
      short = record { one_line = one_line; few = is.few };
      large = λ share falls some.
          let p = ap (λ (p : List ℕ). share p o.0) same in
          let a = overflow_weighed g.met.L.Label.same_label c.args.sum.now c.args.waiting.factor o
          (share (1 ∷ [])) (omega arith) in
          let b = ap (λ (p : List ℕ). weighed (share p) c.args.waiting.factor) same in
          omega arith;
    }
