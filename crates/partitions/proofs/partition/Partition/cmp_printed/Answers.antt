use Rattle.std.proofs.Common.{◌≡◌, sym, ap, ◌∙◌}
use Rattle.std.specs.Ordering.{nat_cmp, ordering_then}
use Rattle.std.specs.Cmp.Lexicographic.{slice_cmp}
use Rattle.sym_model.specs.Partition.{size}
use Rattle.sym_model.specs.PrintedOrder.{printed_order}
use Rattle.sym_model.proofs.Orders.{printed_order-equal}
use Rattle.partitions.proofs.Order.{printed_order-slice_cmp}
use Rattle.partitions.proofs.partition.Partition.cmp_printed.Goals as goal

value : (c : goal.After-then) → c.then.result ≡ printed_order c.args.self.now c.args.other.now
value c =
    let this = c.args.self.now in
    let other = c.args.other.now in
    let sizes : c.cmp.result ≡ nat_cmp (size other) (size this) =
    c.cmp.ensures ∙ ap (λ k. nat_cmp k c.size-2.result) c.size.ensures.value
    ∙ ap (nat_cmp (size other)) c.size-2.ensures.value in
    let lists : c.cmp-2.result ≡ slice_cmp nat_cmp other this =
    c.cmp-2.ensures ∙ ap (λ xs. slice_cmp nat_cmp xs c.parts-2.result.now) c.parts.ensures.value
    ∙ ap (slice_cmp nat_cmp other) c.parts-2.ensures.value in
    c.then.ensures ∙ ap (λ o. ordering_then o c.cmp-2.result) sizes
    ∙ ap (ordering_then (nat_cmp (size other) (size this))) lists
    ∙ printed_order-slice_cmp this other c.size-2.ensures.limits.partition.positive
    c.size.ensures.limits.partition.positive

pub returns-clause-value : goal.returns-clause-value
returns-clause-value c = value c

pub returns-clause-equal : goal.returns-clause-equal
returns-clause-equal c =
    λ together.
    printed_order-equal _ _ c.size-2.ensures.limits.partition.positive
    c.size.ensures.limits.partition.positive
    (sym (value c) ∙ together)
