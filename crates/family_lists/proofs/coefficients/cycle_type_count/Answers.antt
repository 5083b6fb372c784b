use Rattle.std.proofs.Common.{◌≡◌, ◌/◌, ◌<◌, ◌≤◌, sym, ap, ap₂, ◌∙◌, subst, arith}
use Rattle.sym_model.specs.Partition.{IsPartition, size}
use Rattle.sym_model.specs.Weight.{factorial}
use Rattle.family_list_laws.specs.OnePartLists.{centralizer, cycle_type_count}
use Rattle.family_list_laws.proofs.PartQuotients.{centralizer-positive}
use Rattle.family_lists.proofs.ClosedLists.{cycles-low}
use Rattle.family_lists.proofs.coefficients.cycle_type_count.Goals as goal

pub centralizer-requires-clause-partition : goal.centralizer-requires-clause-partition
centralizer-requires-clause-partition c =
    subst IsPartition (sym c.parts.ensures.value) c.parts.ensures.limits.partition

pub centralizer-requires-clause-low : goal.centralizer-requires-clause-low
centralizer-requires-clause-low c =
    subst (λ l. size l ≤ 20) (sym c.parts.ensures.value) c.requires

pub nonzero_div-result : goal.nonzero_div-result
nonzero_div-result c =
    subst (λ n. 0 < n)
    (sym (c.centralizer.ensures ∙ ap centralizer c.parts.ensures.value))
    (centralizer-positive c.args.label.now c.parts.ensures.limits.partition)

pub returns-clause-small : goal.returns-clause-small
returns-clause-small c =
    let value : c.factorial.result / c.centralizer.result ≡ cycle_type_count c.args.label.now =
    ap₂ ◌/◌ (c.factorial.ensures ∙ ap factorial c.size.ensures.value)
    (c.centralizer.ensures ∙ ap centralizer c.parts.ensures.value) in
    let low = cycles-low c.args.label.now c.parts.ensures.limits.partition c.requires in
    omega arith
