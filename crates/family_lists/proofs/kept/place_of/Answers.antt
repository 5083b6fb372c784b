use Rattle.family_lists.proofs.KeptLists.{place-found, place-missed}
use Rattle.family_lists.proofs.kept.place_of.Goals as goal

pub returns-clause-place : goal.returns-clause-place
returns-clause-place g c = place-found c.args.lists.now.entries c.args.label.now
    c.get_index_of.result c.get_index_of.ensures.index c.get_index_of.ensures.within

pub returns-clause-none : goal.returns-clause-none
returns-clause-none g c = place-missed c.args.lists.now.entries c.args.label.now
    c.get_index_of.result c.get_index_of.ensures.index
