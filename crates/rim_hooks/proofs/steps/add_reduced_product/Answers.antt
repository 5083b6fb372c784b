use Rattle.std.proofs.Common.{◌≤◌, [], ◌∷◌, subst, arith, rules}
use Rattle.sym_model.specs.Partition.{rows}
use Rattle.sym_model.specs.Polynomial.{Same}
use Rattle.sym_model.specs.ReductionSteps.{classical_weight}
use Rattle.sym_model.specs.Products.{classical_product}
use Rattle.linear_combinations.specs.Gains.{HaveLabels}
use Rattle.linear_combinations.proofs.Steps.{error_is}
use Rattle.rim_hooks.proofs.ClassicalLists.{weight_within}
use Rattle.rim_hooks.proofs.ReducedProducts.{seen, rows_listed, gains_classical, overflow_list}
use Rattle.rim_hooks.proofs.ReducedProducts.{overflow_taken}
use Rattle.rim_hooks.proofs.steps.add_reduced_product.Goals as goal
use Rattle.std.proofs.lemmas.Result.{on_ok_weaker}

pub returns-in_err-classical-clause-large : goal.returns-in_err-classical-clause-large
returns-in_err-classical-clause-large g c err = search (rules, overflow_taken, seen, error_is)

pub add_reductions-requires-clause-rows : goal.add_reductions-requires-clause-rows
add_reductions-requires-clause-rows g c =
    subst (λ k. HaveLabels (λ μ. rows μ ≤ k) c.in_ok-classical.classical) c.variables.ensures
    (rows_listed c.variables.result c.in_ok-classical.classical c.in_ok-classical.ensures.meets.1)

pub add_reductions-requires-clause-cells : goal.add_reductions-requires-clause-cells
add_reductions-requires-clause-cells g c = let h = c.requires.cells in omega arith

pub returns-clause-gains : goal.returns-clause-gains
returns-clause-gains g c =
    let k = g.R.Reduction.variables c.args.rule.now in
    let s = g.R.Reduction.shape c.args.label.now in
    let same = seen (λ n x. Same c.in_ok-classical.classical
    (classical_product n (x ∷ c.args.factor.now ∷ []))) _ _ _ _ c.variables.ensures
    c.shape.ensures c.in_ok-classical.ensures.classical in
    on_ok_weaker c.add_reductions.result (gains_classical k g.R.Reduction.shape (g.R.Reduction.reduced c.args.rule.now)
    (g.met.R.Reduction.light c.args.rule.now) c.args.sums.now c.add_reductions.new.sums
    c.args.label.now c.args.c c.args.factor.now
    c.in_ok-classical.classical same) c.add_reductions.ensures.gains

pub returns-clause-large : goal.returns-clause-large
returns-clause-large g c err =
    let k = g.R.Reduction.variables c.args.rule.now in
    let s = g.R.Reduction.shape c.args.label.now in
    let same = seen (λ n x. Same c.in_ok-classical.classical
    (classical_product n (x ∷ c.args.factor.now ∷ []))) _ _ _ _ c.variables.ensures
    c.shape.ensures c.in_ok-classical.ensures.classical in
    overflow_list k g.R.Reduction.shape (g.R.Reduction.reduced c.args.rule.now)
    (g.met.R.Reduction.light c.args.rule.now) g.L.PartialEq.eq c.args.sums.now c.args.label.now
    c.args.c c.in_ok-classical.classical
    (classical_weight k (s ∷ c.args.factor.now ∷ [])) (weight_within k (s ∷ c.args.factor.now ∷ [])
    c.in_ok-classical.classical c.add_reductions.ensures.canonical same)
    (c.add_reductions.ensures.large err)
