use Rattle.std.proofs.Common.{◌∙◌, ap, sym, refl}
use Rattle.tableau_iter.specs.Fits.{allows}
use Rattle.tableau_iter.specs.Positions.{Position, near_of}
use Rattle.tableau_iter.proofs.Boards.{place-read}
use Rattle.tableau_iter.proofs.LetterChoice.{between, too_great, too_small}
use Rattle.tableau_iter.proofs.board.Board.admits.Goals.{then-letter-least-via-then-letter-least}
use Rattle.tableau_iter.proofs.board.Board.admits.Goals.{then-letter-least-via-else-letter-least+then-most-letter}
use Rattle.tableau_iter.proofs.board.Board.admits.Goals as goal

pub returns-then-letter-least : goal.returns-then-letter-least
returns-then-letter-least c =
    let b = c.self.inside in
    let p = c.args.self.now in
    let near = near_of b.near.above.items b.near.right.items b.near.most.items in
    let place =
    place-read b.rule b.counts.items b.start.items near b.sums.items b.word.items c.args.place
    c.floor-least.result c.ceiling-most.result c.args.self.now
    c.self.view_is c.self.invariant c.requires.place c.requires.ready c.deref.result.now
    c.deref-2.result.now c.deref-3.result.now c.deref-4.result.now
    c.deref-5.result.now b.sums.items c.deref.ensures.value c.deref-2.ensures.value
    c.deref-3.ensures.value c.deref-4.ensures.value
    c.deref-5.ensures.value refl c.floor-least.ensures c.ceiling-most.ensures.value in
    elim c.then-letter-least.branch [
      | then-letter-least-via-then-letter-least w ↦
          sym (too_small p.setting p.word b.sums.items c.args.place c.floor-least.result
          c.ceiling-most.result c.args.letter place w.if-letter-least.true)
      | then-letter-least-via-else-letter-least+then-most-letter w ↦
          sym (too_great p.setting p.word b.sums.items c.args.place c.floor-least.result
          c.ceiling-most.result c.args.letter place w.if-most-letter.true)
    ]

pub returns : goal.returns
returns c =
    let b = c.self.inside in
    let p = c.args.self.now in
    let near = near_of b.near.above.items b.near.right.items b.near.most.items in
    let place =
    place-read b.rule b.counts.items b.start.items near b.sums.items b.word.items c.args.place
    c.floor-least.result c.ceiling-most.result c.args.self.now
    c.self.view_is c.self.invariant c.requires.place c.requires.ready c.deref.result.now
    c.deref-2.result.now c.deref-3.result.now c.deref-4.result.now
    c.deref-5.result.now c.deref-7.result.now c.deref.ensures.value c.deref-2.ensures.value
    c.deref-3.ensures.value c.deref-4.ensures.value
    c.deref-5.ensures.value c.deref-7.ensures.value c.floor-least.ensures
    c.ceiling-most.ensures.value in
    c.allows.ensures
    ∙ ap (λ x. allows b.rule x c.deref-7.result.now c.args.letter)
    (c.deref-6.ensures.value ∙ ap (λ (q : Position). q.setting.counts) c.self.view_is)
    ∙ ap (λ r. allows r p.setting.counts c.deref-7.result.now c.args.letter)
    (ap (λ (q : Position). q.setting.rule) c.self.view_is)
    ∙ sym (between p.setting p.word c.deref-7.result.now c.args.place c.floor-least.result
    c.ceiling-most.result c.args.letter place c.if-letter-least.false c.if-most-letter.false)
