use Rattle.std.proofs.Common.{ap, sym, ◌∙◌}
use Rattle.tableau_iter.specs.Positions.{Position, near_of}
use Rattle.tableau_iter.proofs.Boards.{place-read}
use Rattle.tableau_iter.proofs.LetterChoice.{next-letter}
use Rattle.tableau_iter.proofs.board.Board.next_letter.Goals as goal

pub returns : goal.returns
returns c =
    let b = c.self.inside in
    let near = near_of b.near.above.items b.near.right.items b.near.most.items in
    let place =
    place-read b.rule b.counts.items b.start.items near b.sums.items b.word.items c.args.place
    c.floor-least.result c.ceiling-most.result c.args.self.now
    c.self.view_is c.self.invariant c.requires.place c.requires.ready c.deref.result.now
    c.deref-2.result.now c.deref-3.result.now c.deref-4.result.now
    c.deref-5.result.now c.deref-7.result.now c.deref.ensures.value c.deref-2.ensures.value
    c.deref-3.ensures.value c.deref-4.ensures.value
    c.deref-5.ensures.value c.deref-7.ensures.value c.floor-least.ensures
    c.ceiling-most.ensures.value in
    next-letter c.args.self.now c.deref-7.result.now c.args.place c.floor-least.result
    c.ceiling-most.result c.args.tried c.max.result c.next_allowed.result
    b.rule c.deref-6.result.now place (sym (ap (λ (p : Position). p.setting.rule) c.self.view_is))
    (sym (ap (λ (p : Position). p.setting.counts) c.self.view_is) ∙ sym c.deref-6.ensures.value)
    c.max.ensures c.next_allowed.ensures
