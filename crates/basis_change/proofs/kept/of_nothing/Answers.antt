use Rattle.basis_change.proofs.KeptLists.{kept-empty}
use Rattle.basis_change.proofs.kept.of_nothing.Goals as goal

pub returns-clause-kept : goal.returns-clause-kept
returns-clause-kept c =
    kept-empty c.new-list.result c.add_owned.new.self c.empty.result c.one.result c.new-list.ensures
    c.empty.ensures c.one.ensures.one c.in_ok-add_owned.ensures.table
    c.in_ok-add_owned.ensures.gains
