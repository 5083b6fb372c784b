use Rattle.std.proofs.Common.{◌≡◌, ap, ◌∙◌}
use Rattle.std.specs.Cmp.Lexicographic.{slice_cmp}
use Rattle.std.specs.Ordering.{nat_cmp, ordering_then}
use Rattle.sym_model.specs.PlaceOrders.{inversions}
use Rattle.transition_walk.proofs.todo.compare.Goals as goal

pub returns : goal.returns
returns c =
    let v = c.args.first.now in
    let w = c.args.second.now in
    let counts : c.cmp.result ≡ nat_cmp (inversions c.args.first.now) (inversions c.args.second.now)
    =
    c.cmp.ensures ∙ ap (λ k. nat_cmp k c.inversions-2.result) c.inversions.ensures.value
    ∙ ap (nat_cmp (inversions c.args.first.now)) c.inversions-2.ensures.value in
    let lists : c.cmp-2.result ≡ slice_cmp nat_cmp c.args.second.now c.args.first.now =
    c.cmp-2.ensures ∙ ap (λ xs. slice_cmp nat_cmp xs c.letters-2.result.now) c.letters.ensures.value
    ∙ ap (slice_cmp nat_cmp c.args.second.now) c.letters-2.ensures.value in
    c.then.ensures ∙ ap (λ o. ordering_then o c.cmp-2.result) counts
    ∙ ap (ordering_then (nat_cmp (inversions c.args.first.now) (inversions c.args.second.now)))
    lists
