use Rattle.std.proofs.Common.{◌≡◌, ◌*◌, ◌/◌, ◌<◌, ◌≤◌, ◌^◌, sym, ap, ap₂, ◌∙◌, subst, arith, rules}
use Rattle.sym_model.specs.Partition.{IsPartition, size}
use Rattle.sym_model.specs.Weight.{factorial}
use Rattle.basis_change_laws.specs.AugmentedMonomial.{multiplicity_factorials}
use Rattle.family_list_laws.specs.OnePartLists.{orders_of_parts}
use Rattle.family_list_laws.proofs.PartQuotients.{multiplicities-positive}
use Rattle.family_lists.proofs.ClosedLists.{rows-low, scaled-low}
use Rattle.family_lists.proofs.coefficients.scaled_orders.Goals as goal

pub factorial-requires : goal.factorial-requires
factorial-requires c =
    let value = c.rows.ensures.value in
    let low = rows-low c.args.label.now c.rows.ensures.limits.partition c.requires in
    omega arith

pub multiplicity_factorials-requires-clause-partition
    : goal.multiplicity_factorials-requires-clause-partition
multiplicity_factorials-requires-clause-partition c =
    subst IsPartition (sym c.parts.ensures.value) c.parts.ensures.limits.partition

pub multiplicity_factorials-requires-clause-low : goal.multiplicity_factorials-requires-clause-low
multiplicity_factorials-requires-clause-low c =
    subst (λ l. size l ≤ 20) (sym c.parts.ensures.value) c.requires

pub nonzero_div-orders : goal.nonzero_div-orders
nonzero_div-orders c =
    subst (λ n. 0 < n)
    (sym (c.multiplicity_factorials.ensures ∙ ap multiplicity_factorials c.parts.ensures.value))
    (multiplicities-positive c.args.label.now)

pub overflow_mul-result : goal.overflow_mul-result
overflow_mul-result c =
    let label = c.args.label.now in
    let value : c.factorial-2.result * (c.factorial.result / c.multiplicity_factorials.result)
    ≡ factorial (size c.args.label.now) * orders_of_parts c.args.label.now =
    ap₂ ◌*◌ (c.factorial-2.ensures ∙ ap factorial c.size.ensures.value)
    (ap₂ ◌/◌ (c.factorial.ensures ∙ ap factorial c.rows.ensures.value)
    (c.multiplicity_factorials.ensures ∙ ap multiplicity_factorials c.parts.ensures.value)) in
    let low = scaled-low label c.rows.ensures.limits.partition c.requires in
    let h : c.factorial-2.result * (c.factorial.result / c.multiplicity_factorials.result) < 2 ^ 128
    = omega arith in
    search (rules, h)

pub returns-clause-small : goal.returns-clause-small
returns-clause-small c =
    let label = c.args.label.now in
    let value : c.factorial-2.result * (c.factorial.result / c.multiplicity_factorials.result)
    ≡ factorial (size c.args.label.now) * orders_of_parts c.args.label.now =
    ap₂ ◌*◌ (c.factorial-2.ensures ∙ ap factorial c.size.ensures.value)
    (ap₂ ◌/◌ (c.factorial.ensures ∙ ap factorial c.rows.ensures.value)
    (c.multiplicity_factorials.ensures ∙ ap multiplicity_factorials c.parts.ensures.value)) in
    let low = scaled-low label c.rows.ensures.limits.partition c.requires in
    omega arith
