use Rattle.std.proofs.Common.{arith}
use Rattle.tableau_iter.specs.Positions.{near_of}
use Rattle.tableau_iter.proofs.Boards.{put-read}
use Rattle.tableau_iter.proofs.board.Board.put.Goals as goal

pub overflow_add-index_mut : goal.overflow_add-index_mut
overflow_add-index_mut c =
    let b = c.self.inside in
    let near = near_of b.near.above.items b.near.right.items b.near.most.items in
    let told =
    put-read b.rule b.counts.items b.start.items near b.sums.items b.word.items c.args.place
    c.args.letter c.from.result c.index_mut-2.result.now
    c.args.self.now c.self.view_is c.self.invariant c.requires.place c.requires.ready
    c.requires.fits c.from.ensures c.index_mut-2.ensures.value in
    omega (arith, told.0)

pub returns-clause-ready : goal.returns-clause-ready
returns-clause-ready c =
    let b = c.self.inside in
    let near = near_of b.near.above.items b.near.right.items b.near.most.items in
    (put-read b.rule b.counts.items b.start.items near b.sums.items b.word.items c.args.place
    c.args.letter c.from.result c.index_mut-2.result.now
    c.args.self.now c.self.view_is c.self.invariant c.requires.place c.requires.ready
    c.requires.fits c.from.ensures c.index_mut-2.ensures.value).1
