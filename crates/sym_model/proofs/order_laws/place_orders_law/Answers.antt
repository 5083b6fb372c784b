use Rattle.sym_model.proofs.OrderLists.{place_orders_members, place_orders_once}
use Rattle.sym_model.proofs.order_laws.place_orders_law.Goals as goal

pub returns-clause-members : goal.returns-clause-members
returns-clause-members c = place_orders_members

pub returns-clause-once : goal.returns-clause-once
returns-clause-once c = place_orders_once
