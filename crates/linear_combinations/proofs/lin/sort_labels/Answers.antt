use Rattle.std.proofs.Common.{rules}
use Rattle.std.specs.Ordering.{is_lt}
use Rattle.std.proofs.lemmas.List.Sorted.{ranks_by, answers_always}
use Rattle.linear_combinations.proofs.lin.sort_labels.Goals as goal

pub returns-clause-sorted : goal.returns-clause-sorted
returns-clause-sorted g c =
    c.sort_unstable_by.ensures.sorted
    (λ a b. is_lt (g.L.Label.order a.0 b.0)) (ranks_by g.met.L.Label.order_total
    (λ (e : g.row.L.Denot × g.row.R.Denot). e.0))
    (answers_always _ _ _ (λ f a r f' k. search rules))
