use Rattle.std.proofs.Common.{ℕ, ◌+◌, ◌*◌, Bool, ◌&&◌, nat_eq, List, sym, ◌∙◌, rules}
use Rattle.std.proofs.Common.{ap, subst, arith, ◌*ℤ◌}
use Rattle.std.specs.Cmp.Lexicographic.{pointwise}
use Rattle.std.proofs.Math.Nat.{mul-le-mul_left}
use Rattle.coeff_rings.proofs.Sizes.{refused_size}
use Rattle.beta_list_laws.proofs.Ends.{goes_cells}
use Rattle.linear_combinations.specs.Gains.{Overflows, scaled}
use Rattle.reduction_laws.specs.Collected.{IsSign}
use Rattle.rim_hooks.specs.Reduced.{reduction}
use Rattle.reduction_laws.specs.ReducedLists.{at_power}
use Rattle.reduction_laws.proofs.QuantumLaws.{power_equal_self}
use Rattle.reduction_laws.proofs.SignLaws.{core_sign, signed_size}
use Rattle.rim_hooks.proofs.ReducedProducts.{overflow_one}
use Rattle.rim_hooks.proofs.SignCasts.{kept_narrow}
use Rattle.product_laws.specs.FactorSteps.{PowerTerms}
use Rattle.rim_hooks.proofs.quantum_product.RimHooksReductionPower.add_reduced.Goals as goal

abbrev equal : ℕ × List ℕ → ℕ × List ℕ → Bool
equal a b = nat_eq a.0 b.0 && pointwise nat_eq a.1 b.1

pub add_signed-requires : goal.add_signed-requires
add_signed-requires c =
    let core = c.in-Some.core in
    let e = ap reduction (sym c.in-Some.is) ∙ c.in_ok-core.ensures.remainders in
    let is = core_sign c.args.self.now.k c.args.self.now.n c.args.grown.now core.shape core.sign
    core.power e in
    subst IsSign (sym (kept_narrow core.sign is)) is

pub overflow_add-reduced : goal.overflow_add-reduced
overflow_add-reduced c = search (rules, goes_cells, mul-le-mul_left)

pub returns-in_default-mul-clause-large : goal.returns-in_default-mul-clause-large
returns-in_default-mul-clause-large c err =
    let core = c.in-Some.core in
    let e = ap reduction (sym c.in-Some.is) ∙ c.in_ok-core.ensures.remainders in
    let is = core_sign c.args.self.now.k c.args.self.now.n c.args.grown.now core.shape core.sign
    core.power e in
    let past = refused_size (c.args.c *ℤ c.args.d) (sym c.in_default-mul.ensures.product) in
    let s = signed_size (c.args.c *ℤ c.args.d) core.sign is in
    subst (λ (l : PowerTerms). Overflows equal c.args.sums.now (scaled (c.args.c *ℤ c.args.d) l))
    (ap (at_power c.args.label.now) e)
    (overflow_one equal c.args.sums.now (c.args.label.now.0 + core.power, core.shape)
    ((c.args.c *ℤ c.args.d) *ℤ core.sign) (power_equal_self (
      c.args.label.now.0 + core.power,
      core.shape,
    )) (omega arith))

pub returns-clause-gains : goal.returns-clause-gains
returns-clause-gains c = search (rules, kept_narrow)

pub returns-clause-large : goal.returns-clause-large
returns-clause-large c err = search (rules, kept_narrow)
