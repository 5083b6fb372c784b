use Rattle.std.proofs.Common.{List, ℕ, rules}
use Rattle.std.specs.Ordering.{is_lt}
use Rattle.std.proofs.lemmas.List.Sorted.{ranks_by, answers_always}
use Rattle.sym_model.specs.PrintedOrder.{printed_order}
use Rattle.sym_model.proofs.Orders.{printed_order-total}
use Rattle.lr_coproduct.proofs.inner_shapes.sort_shapes.Goals as goal

pub returns-clause-sorted : goal.returns-clause-sorted
returns-clause-sorted c =
    c.sort_unstable_by.ensures.sorted
    (λ a b. is_lt (printed_order a b)) (ranks_by printed_order-total (λ (a : List ℕ). a))
    (answers_always _ _ _ (λ f a r f' k. search rules))
