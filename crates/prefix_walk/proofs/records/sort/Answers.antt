use Rattle.std.proofs.Common.{rules}
use Rattle.std.proofs.lemmas.List.Sorted.{IsNonDecreasingBy-from_sort_by_key}
use Rattle.prefix_walk.proofs.RecordLists.{rise_from}
use Rattle.prefix_walk.proofs.records.sort.Goals as goal

pub returns-clause-rise : goal.returns-clause-rise
returns-clause-rise g c = rise_from _ (IsNonDecreasingBy-from_sort_by_key (λ r. r.0.0) _ c.sort_unstable_by_key.ensures.sorted (λ a r q k. search rules))
