use Rattle.prefix_walk.proofs.RecordLists.{keys-set, joined_at, read_count}
use Rattle.prefix_walk.proofs.records.add_at.Goals as goal

pub returns-clause-keys : goal.returns-clause-keys
returns-clause-keys g c = keys-set c.args.records.now.items c.args.at c.index_mut.result.now _ c.requires.within c.index_mut.ensures.value

pub returns-clause-adds : goal.returns-clause-adds
returns-clause-adds g c = λ a f step key.
    joined_at a f c.args.records.now.items c.args.at c.index_mut.result.now c.joined.result c.index.result.now.1 c.args.count step c.requires.within c.index_mut.ensures.value
    (read_count c.args.records.now.items c.args.at c.index.result.now c.index_mut.result.now c.requires.within c.index.ensures c.index_mut.ensures.value) c.joined.ensures key
