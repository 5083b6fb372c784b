use Rattle.std.proofs.Common.{arith}
use Rattle.tableau_iter.specs.Positions.{near_of}
use Rattle.tableau_iter.proofs.Boards.{take-read}
use Rattle.tableau_iter.proofs.board.Board.take_off.Goals as goal

pub overflow_sub-from : goal.overflow_sub-from
overflow_sub-from c =
    let b = c.self.inside in
    let near = near_of b.near.above.items b.near.right.items b.near.most.items in
    (take-read b.rule b.counts.items b.start.items near b.sums.items b.word.items c.args.place
    c.index-letter.result.now c.from.result
    c.args.self.now c.self.view_is c.self.invariant c.requires.place c.requires.ready
    c.index-letter.ensures c.from.ensures).0

pub index_mut-requires : goal.index_mut-requires
index_mut-requires c =
    let b = c.self.inside in
    let near = near_of b.near.above.items b.near.right.items b.near.most.items in
    let told =
    take-read b.rule b.counts.items b.start.items near b.sums.items b.word.items c.args.place
    c.index-letter.result.now c.from.result
    c.args.self.now c.self.view_is c.self.invariant c.requires.place c.requires.ready
    c.index-letter.ensures c.from.ensures in
    omega (arith, told.0, told.1)

pub overflow_sub-index_mut : goal.overflow_sub-index_mut
overflow_sub-index_mut c =
    let b = c.self.inside in
    let near = near_of b.near.above.items b.near.right.items b.near.most.items in
    ((take-read b.rule b.counts.items b.start.items near b.sums.items b.word.items c.args.place
    c.index-letter.result.now c.from.result
    c.args.self.now c.self.view_is c.self.invariant c.requires.place c.requires.ready
    c.index-letter.ensures c.from.ensures).2
    c.index_mut.result.now c.index_mut.ensures.value).0

pub returns-clause-ready : goal.returns-clause-ready
returns-clause-ready c =
    let b = c.self.inside in
    let near = near_of b.near.above.items b.near.right.items b.near.most.items in
    ((take-read b.rule b.counts.items b.start.items near b.sums.items b.word.items c.args.place
    c.index-letter.result.now c.from.result
    c.args.self.now c.self.view_is c.self.invariant c.requires.place c.requires.ready
    c.index-letter.ensures c.from.ensures).2
    c.index_mut.result.now c.index_mut.ensures.value).1
