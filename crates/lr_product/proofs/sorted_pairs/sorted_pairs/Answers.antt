use Rattle.std.proofs.Common.{ℕ, pos, ap, ◌∙◌, arith}
use Rattle.std.specs.List.{sum_by}
use Rattle.std.proofs.lemmas.List.{take_all}
use Rattle.std.proofs.lemmas.List.Sorted.{sum_by-IsPermutation}
use Rattle.lr_product.specs.WeighedSum.{comes_to}
use Rattle.lr_product.specs.Places.{count_at}
use Rattle.lr_product.proofs.sorted_pairs.sorted_pairs.Goals as goal

pub returns-clause-counts : goal.returns-clause-counts
returns-clause-counts c parts =
    let n = c.args.letters in
    let f : ℕ × ℕ → ℕ = λ place. count_at n c.args.table.now.entries (comes_to parts) place.1 in
    c.loop-k.invariant.counts parts
    ∙ ap (λ s. pos s)
    (ap (sum_by f) (take_all c.loop-k.k c.sort_places.new.places.items (omega (arith, c.loop-k.invariant.end, c.loop-k-test.false)))
    ∙ sum_by-IsPermutation f c.in_ok-places.places.items c.sort_places.new.places.items c.sort_places.ensures
    ∙ c.in_ok-places.ensures n (comes_to parts))
