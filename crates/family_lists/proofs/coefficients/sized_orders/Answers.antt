use Rattle.std.proofs.Common.{◌≡◌, ◌-◌, ◌*◌, ◌/◌, ◌<◌, ◌≤◌, ◌^◌, length, sym, ap, ap₂, ◌∙◌, subst}
use Rattle.std.proofs.Common.{arith, rules}
use Rattle.sym_model.specs.Partition.{IsPartition, size}
use Rattle.sym_model.specs.Weight.{factorial}
use Rattle.basis_change_laws.specs.AugmentedMonomial.{multiplicity_factorials}
use Rattle.family_list_laws.specs.OnePartLists.{sized_orders}
use Rattle.family_list_laws.proofs.PartQuotients.{multiplicities-positive}
use Rattle.family_lists.proofs.ClosedLists.{rows-low, numerator-low, sized-low}
use Rattle.family_lists.proofs.coefficients.sized_orders.Goals as goal

pub factorial-orders-requires : goal.factorial-orders-requires
factorial-orders-requires c =
    let value = c.rows.ensures.value in
    let low = rows-low c.args.label.now c.rows.ensures.limits.partition c.requires.low in
    omega arith

pub overflow_mul-result : goal.overflow_mul-result
overflow_mul-result c =
    let value : c.from.result * c.factorial-orders.result
    ≡ size c.args.label.now * factorial (length c.args.label.now - 1) =
    ap₂ ◌*◌ (c.from.ensures ∙ c.size.ensures.value)
    (c.factorial-orders.ensures ∙ ap (λ n. factorial (n - 1)) c.rows.ensures.value) in
    let low = numerator-low c.args.label.now c.rows.ensures.limits.partition c.requires.low in
    let h : c.from.result * c.factorial-orders.result < 2 ^ 128 = omega arith in
    search (rules, h)

pub multiplicity_factorials-requires-clause-partition
    : goal.multiplicity_factorials-requires-clause-partition
multiplicity_factorials-requires-clause-partition c =
    subst IsPartition (sym c.parts.ensures.value) c.parts.ensures.limits.partition

pub multiplicity_factorials-requires-clause-low : goal.multiplicity_factorials-requires-clause-low
multiplicity_factorials-requires-clause-low c =
    subst (λ l. size l ≤ 20) (sym c.parts.ensures.value) c.requires.low

pub nonzero_div-result : goal.nonzero_div-result
nonzero_div-result c =
    subst (λ n. 0 < n)
    (sym (c.multiplicity_factorials.ensures ∙ ap multiplicity_factorials c.parts.ensures.value))
    (multiplicities-positive c.args.label.now)

pub returns-clause-small : goal.returns-clause-small
returns-clause-small c =
    let value : c.from.result * c.factorial-orders.result / c.multiplicity_factorials.result
    ≡ sized_orders c.args.label.now =
    ap₂ ◌/◌
    (ap₂ ◌*◌ (c.from.ensures ∙ c.size.ensures.value)
    (c.factorial-orders.ensures ∙ ap (λ n. factorial (n - 1)) c.rows.ensures.value))
    (c.multiplicity_factorials.ensures ∙ ap multiplicity_factorials c.parts.ensures.value) in
    let low = sized-low c.args.label.now c.rows.ensures.limits.partition c.requires.low
    c.requires.some in
    omega arith
