use Rattle.std.proofs.Common.{rules}
use Rattle.basis_expand.proofs.StripLists.{none-off, under, under_none}
use Rattle.basis_expand.proofs.strips_taken.strips_off.Goals as goal

pub returns-then-k-first_row : goal.returns-then-k-first_row
returns-then-k-first_row c = search (rules, none-off)

pub returns : goal.returns
returns c = search (rules, under_none, under)
