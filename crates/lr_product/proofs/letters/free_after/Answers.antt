use Rattle.std.proofs.Common.{◌≡◌, ◌||◌, true, false, nat_le, nat_lt, length, get_or, sym, ap, ◌∙◌, arith, rules}
use Rattle.lr_product.proofs.FreeLetters.{free-unchanged, free-added}
use Rattle.lr_product.proofs.letters.free_after.Goals as goal

pub returns-then-letter-eq0 : goal.returns-then-letter-eq0
returns-then-letter-eq0 c n above before after is long bound falls low marks =
    free-unchanged n above c.args.letter c.args.bound.now before after c.args.numbers.now c.args.free is long falls low marks
    (λ p m. absurd (omega (arith, c.if-letter-eq0.true)))

pub returns-then-letter-ge-MARKED : goal.returns-then-letter-ge-MARKED
returns-then-letter-ge-MARKED c n above before after is long bound falls low marks =
    search (rules, free-unchanged)

pub returns-then-is_allowed : goal.returns-then-is_allowed
returns-then-is_allowed c n above before after is long bound falls low marks =
    let yes : c.is_allowed.result ≡ true = cc in
    free-added n above c.args.letter c.args.bound.now before after c.args.numbers.now c.args.free is long falls low marks
    (omega (arith, c.if-letter-eq0.false)) (omega (arith, c.if-letter-ge-MARKED.false))
    (ap (λ i. nat_le (length c.args.bound.now) i || nat_lt (get_or c.args.numbers.now i 0) (get_or c.args.bound.now i 0)) (sym c.from-at.ensures)
    ∙ sym c.is_allowed.ensures ∙ yes)

pub returns : goal.returns
returns c n above before after is long bound falls low marks =
    let no : c.is_allowed.result ≡ false = cc in
    free-unchanged n above c.args.letter c.args.bound.now before after c.args.numbers.now c.args.free is long falls low marks
    (λ p m. ap (λ i. nat_le (length c.args.bound.now) i || nat_lt (get_or c.args.numbers.now i 0) (get_or c.args.bound.now i 0)) (sym c.from-at.ensures)
    ∙ sym c.is_allowed.ensures ∙ no)
