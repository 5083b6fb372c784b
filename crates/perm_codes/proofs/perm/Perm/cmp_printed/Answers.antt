use Rattle.std.proofs.Common.{◌≡◌, sym, ap, ◌∙◌}
use Rattle.std.specs.Ordering.{nat_cmp, ordering_then}
use Rattle.std.specs.Cmp.Lexicographic.{slice_cmp}
use Rattle.sym_model.specs.PlaceOrders.{inversions}
use Rattle.sym_model.specs.PrintedOrder.{permutation_order}
use Rattle.perm_codes.proofs.LetterOrder.{permutation_order-slice_cmp, permutation_order-equal}
use Rattle.perm_codes.proofs.perm.Perm.cmp_printed.Goals as goal

value : (c : goal.After-then) → c.then.result ≡ permutation_order c.args.self.now c.args.other.now
value c =
    let this = c.args.self.now in
    let other = c.args.other.now in
    let counts : c.cmp.result ≡ nat_cmp (inversions this) (inversions other) =
    c.cmp.ensures ∙ ap (λ k. nat_cmp k c.inversions-2.result) c.inversions.ensures.value
    ∙ ap (nat_cmp (inversions this)) c.inversions-2.ensures.value in
    let lists : c.cmp-2.result ≡ slice_cmp nat_cmp this other =
    c.cmp-2.ensures ∙ ap (λ xs. slice_cmp nat_cmp xs c.letters-2.result.now) c.letters.ensures.value
    ∙ ap (slice_cmp nat_cmp this) c.letters-2.ensures.value in
    c.then.ensures ∙ ap (λ o. ordering_then o c.cmp-2.result) counts
    ∙ ap (ordering_then (nat_cmp (inversions this) (inversions other))) lists
    ∙ permutation_order-slice_cmp this other c.inversions.ensures.limits
    c.inversions-2.ensures.limits

pub returns-clause-value : goal.returns-clause-value
returns-clause-value c = value c

pub returns-clause-equal : goal.returns-clause-equal
returns-clause-equal c =
    λ together. permutation_order-equal _ _ c.inversions.ensures.limits
    c.inversions-2.ensures.limits (sym (value c) ∙ together)
