use Rattle.std.proofs.Common.{◌≡◌, ◌-◌, [], length, ap, ◌∙◌, sym, subst, Err, arith, suc, rules}
use Rattle.linear_combinations.proofs.Steps.{error_is, if_answered}
use Rattle.sparse_polys.proofs.WholeLists.{if_ok_both}
use Rattle.linear_combinations.specs.Gains.{HaveLabels, Gains, replaced}
use Rattle.basis_change.specs.AugmentedProducts.{IsReady, conversion}
use Rattle.basis_change.proofs.Steps.{convertible, fewer, step-value, step-cost}
use Rattle.basis_change.proofs.Steps.{step-large, step-ready, end-value, end-mass, end-low}
use Rattle.basis_change.proofs.Steps.{end-large}
use Rattle.basis_change.proofs.rewriting.converted.Goals as goal

pub step-requires : goal.step-requires
step-requires c = search (rules, convertible)

pub targets-requires : goal.targets-requires
targets-requires c = search (rules, convertible, fewer)

pub returns-in_err-table-clause-large : goal.returns-in_err-table-clause-large
returns-in_err-table-clause-large c = λ large.
    let o = step-large c.args.factors.now c.loop-rows.table c.loop-rows.rows
    c.loop-rows.invariant.ready c.requires.factors (c.in_err-table.ensures.large
    (ap Err (error_is _ _ _ c.from_residual.ensures.1 large))) in
    let k = c.loop-rows.invariant.costs in
    omega arith

pub loop-rows-preserved : goal.loop-rows-preserved
loop-rows-preserved c =
    let factors = c.args.factors.now in
    let es = c.loop-rows.table in
    let next = c.in_ok-table.table in
    let inv = c.loop-rows.invariant in
    let small = c.requires.factors in
    let a = c.in_ok-table.ensures.gains in
    let is = c.in_ok-table.ensures.table in
    let e : suc (c.loop-rows.rows - 1) ≡ c.loop-rows.rows = let t = c.loop-rows-test.true in
    omega arith in
    record {
      value = λ family are n φ. step-value factors es c.loop-rows.rows inv.ready family n φ next are
          a ∙ inv.value family are n φ;
      costs = let w = step-cost factors es c.loop-rows.rows inv.ready next small is a in let k =
          inv.costs in omega arith;
      ready =
          step-ready factors es (c.loop-rows.rows - 1) next small
          (subst (λ r. HaveLabels (IsReady (length c.args.factors.now) r) c.loop-rows.table)
          (sym e) inv.ready) is
          (subst (λ r. Gains [] (replaced (conversion c.args.factors.now r) c.loop-rows.table)
          c.in_ok-table.table) (sym e) a);
    }

pub returns-clause-value : goal.returns-clause-value
returns-clause-value c =
    let ready = fewer (length c.args.factors.now) c.loop-rows.rows 1 c.loop-rows.table
    (let h = c.loop-rows-test.false in omega arith) c.loop-rows.invariant.ready in
    if_answered c.targets.result c.targets.ensures.gains
    (λ end a family are n φ. end-value c.args.factors.now c.loop-rows.table ready family n φ end are
    a ∙ c.loop-rows.invariant.value family are n φ)

pub returns-clause-mass : goal.returns-clause-mass
returns-clause-mass c =
    let ready = fewer (length c.args.factors.now) c.loop-rows.rows 1 c.loop-rows.table
    (let h = c.loop-rows-test.false in omega arith) c.loop-rows.invariant.ready in
    if_ok_both c.targets.result c.targets.ensures.gains c.targets.ensures.table
    (λ end a is. let m = end-mass c.args.factors.now c.loop-rows.table ready end c.requires.factors
    is a in let k = c.loop-rows.invariant.costs in omega arith)

pub returns-clause-within : goal.returns-clause-within
returns-clause-within c =
    let ready = fewer (length c.args.factors.now) c.loop-rows.rows 1 c.loop-rows.table
    (let h = c.loop-rows-test.false in omega arith) c.loop-rows.invariant.ready in
    if_ok_both c.targets.result c.targets.ensures.gains c.targets.ensures.table
    (λ end a is. end-low c.args.factors.now c.loop-rows.table ready end c.requires.factors is a)

pub returns-clause-large : goal.returns-clause-large
returns-clause-large c err =
    let ready = fewer (length c.args.factors.now) c.loop-rows.rows 1 c.loop-rows.table
    (let h = c.loop-rows-test.false in omega arith) c.loop-rows.invariant.ready in
    let o = end-large c.args.factors.now c.loop-rows.table ready c.requires.factors
    (c.targets.ensures.large err) in
    let k = c.loop-rows.invariant.costs in
    omega arith
