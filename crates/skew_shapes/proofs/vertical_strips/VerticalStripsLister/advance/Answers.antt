use Rattle.std.proofs.Common.{arith, refl, rules}
use Rattle.skew_shapes.proofs.StripLists.{next_shape, some_shape, none_shape, ended, no_some}
use Rattle.skew_shapes.proofs.vertical_strips.VerticalStripsLister.advance.Goals as goal

pub returns-then-self-len-clause-next : goal.returns-then-self-len-clause-next
returns-then-self-len-clause-next c = search (rules, next_shape)

pub returns-then-self-len-clause-found : goal.returns-then-self-len-clause-found
returns-then-self-len-clause-found c =
    (λ _. some_shape c.self.inside.listed c.self.inside.shapes.items (omega arith), λ _. refl)

pub returns-clause-next : goal.returns-clause-next
returns-clause-next c = search (rules, ended)

pub returns-clause-found : goal.returns-clause-found
returns-clause-found c = search (rules, no_some, none_shape)
