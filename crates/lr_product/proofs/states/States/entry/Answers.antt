use Rattle.std.proofs.Common.{rules}
use Rattle.lr_product.proofs.CountedStates.{entries_length, within_numbers, state_there}
use Rattle.lr_product.proofs.states.States.entry.Goals as goal

pub overflow_mul-start : goal.overflow_mul-start
overflow_mul-start c = search (rules, entries_length, within_numbers)

pub overflow_add-result : goal.overflow_add-result
overflow_add-result c = search (rules, entries_length, within_numbers)

pub offset_bounds-deref-start : goal.offset_bounds-deref-start
offset_bounds-deref-start c = search (rules, entries_length, within_numbers)

pub slice_bounds-result-end : goal.slice_bounds-result-end
slice_bounds-result-end c = search (rules, entries_length, within_numbers)

pub index-requires : goal.index-requires
index-requires c = search (rules, entries_length)

pub returns : goal.returns
returns c = search (rules, entries_length, state_there)
