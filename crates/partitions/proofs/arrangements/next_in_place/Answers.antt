use Rattle.std.proofs.Common.{◌≡◌, ◌<◌, ◌-◌, drop, get_or, length, refl, ap, ◌∙◌, subst, arith}
use Rattle.partitions.specs.Arranging.{Rises}
use Rattle.partitions.proofs.Arrangings.{next_by_places, arrangements_after-rising, last-turned}
use Rattle.partitions.proofs.arrangements.next_in_place.Goals as goal

pub returns-then-behind-eq0-clause-none : goal.returns-then-behind-eq0-clause-none
returns-then-behind-eq0-clause-none c =
    let numbers = c.args.numbers.now in (
      arrangements_after-rising numbers
          (subst (λ n. Rises (drop n numbers)) c.if-behind-eq0.true
          c.rising_end-behind.ensures.rises),
      refl,
    )

pub first_below-low-requires-clause-last : goal.first_below-low-requires-clause-last
first_below-low-requires-clause-last c =
    let behind = c.rising_end-behind.result in
    let positive : 0 < c.rising_end-behind.result = omega (arith, c.if-behind-eq0.false) in
    let last : get_or c.reverse_from.new.numbers (length c.reverse_from.new.numbers - 1) 0
    ≡ get_or c.args.numbers.now behind 0 =
    ap (λ l. get_or l (length l - 1) 0) c.reverse_from.ensures
    ∙ last-turned c.args.numbers.now behind (c.rising_end-behind.ensures.within positive) in
    omega (arith, c.rising_end-behind.ensures.falls positive)

pub returns-clause-next : goal.returns-clause-next
returns-clause-next c =
    let behind = c.rising_end-behind.result in
    let positive : 0 < c.rising_end-behind.result = omega (arith, c.if-behind-eq0.false) in
    next_by_places c.args.numbers.now c.reverse_from.new.numbers c.swap.new.self behind
    c.first_below-low.result positive
    (c.rising_end-behind.ensures.within positive) c.rising_end-behind.ensures.rises
    c.reverse_from.ensures
    c.first_below-low.ensures.place.0 c.first_below-low.ensures.place.1
    c.first_below-low.ensures.below
    c.first_below-low.ensures.before c.swap.ensures.after
