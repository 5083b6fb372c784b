use Rattle.std.proofs.Common.{inl, inr, arith, rules}
use Rattle.std.proofs.lemmas.Bool.{cases_lt}
use Rattle.lr_product.proofs.FreeLetters.{skipped-letters, found-letter}
use Rattle.lr_product.proofs.letters.next_letter.Goals as goal

pub returns-then-letter-gt-MARKED-clause-skipped :
    goal.returns-then-letter-gt-MARKED-clause-skipped
returns-then-letter-gt-MARKED-clause-skipped c b low high =
    let later = c.first_with_room-then-letter-gt-MARKED.ensures in
    elim (cases_lt b 65) [
      | inl l ↦ skipped-letters c.args.from c.args.end c.args.free c.args.bound.now
          c.args.numbers.now (omega (arith, c.if-from-eq0.false)) c.requires.free c.ranges.free.fits
          b low (omega (arith, c.if-letter-gt-MARKED.true)) (omega (arith, later.within))
          (omega arith)
      | inr l ↦ later.skipped b l high
    ]

pub returns-clause-skipped : goal.returns-clause-skipped
returns-clause-skipped c b low high = search (rules, skipped-letters)

pub returns-clause-room : goal.returns-clause-room
returns-clause-room c h = search (rules, found-letter)
