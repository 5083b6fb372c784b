use Rattle.std.proofs.Common.{◌≡◌, ◌-◌, ◌^◌, ◌<◌, ◌++◌, ◌∷◌, [], ℕ, List, sym, ap, ap₂, ◌∙◌, subst, arith, append_assoc, append-nil, rules}
use Rattle.linear_combinations.specs.Gains.{Gains, scaled}
use Rattle.linear_combinations.proofs.Gains.{gains_none}
use Rattle.linear_combinations.proofs.Steps.{error_is}
use Rattle.beta_sets.specs.BetaSets.{numbers}
use Rattle.beta_sets.proofs.GreatestPlaces.{numbers-none}
use Rattle.strip_rules.specs.BeadMoves.{with_cells}
use Rattle.strip_rules.proofs.BeadSteps.{ones, cells_none, gains_next, gains_all, overflows_next, bead_low, next_bound_low, raised_room, word_room}
use Rattle.strip_rules.proofs.bead_strips.+add_cells.Goals as goal
use Rattle.std.proofs.lemmas.Result.{on_ok_weaker}

pub returns-then-left-eq0-clause-gains : goal.returns-then-left-eq0-clause-gains
returns-then-left-eq0-clause-gains t c = search (rules, on_ok_weaker, cells_none)

pub returns-then-left-eq0-clause-large : goal.returns-then-left-eq0-clause-large
returns-then-left-eq0-clause-large t c err = search (rules, cells_none)

pub loop-place-init : goal.loop-place-init
loop-place-init t c = ([], record { all = c.next_places-places.ensures; gains = gains_none c.args.sum.now })

pub next_bound-next-requires : goal.next_bound-next-requires
next_bound-next-requires t c = search (rules, bead_low)

pub raised_at-requires-clause-room : goal.raised_at-requires-clause-room
raised_at-requires-clause-room t c = search (rules, word_room, bead_low)

pub add_cells-requires : goal.add_cells-requires
add_cells-requires t c =
    let b = c.in-Some.place in
    let l = bead_low c.args.strip c.args.bound c.args.left c.args.set c.loop-place.places b c.loop-place.invariant.0
    c.requires.few c.requires.low c.in-Some.ensures c.loop-place.invariant.1.all in
    let low = l.0 in
    let d = c.decreases in
    let f = c.requires.few in
    let n = c.if-left-eq0.false in
    let next = next_bound_low c.args.strip b (omega arith) in
    let e = c.next_bound-next.ensures in (
      omega arith,
      (
        omega arith,
        (
          omega arith,
          subst (λ s. s < 2 ^ (63 - (c.args.left - 1))) (sym c.raised_at.ensures)
              (raised_room c.args.left c.args.set b n f c.requires.low l.1),
        ),
      ),
    )

pub loop-place-preserved : goal.loop-place-preserved
loop-place-preserved t c =
    let b = c.in-Some.place in
    let passed = c.loop-place.invariant.0 in
    let inv = c.loop-place.invariant.1 in
    let split : b ∷ numbers c.without-places.result ≡ numbers c.loop-place.places =
    ap (λ s. b ∷ numbers s) c.without-places.ensures ∙ sym c.in-Some.ensures.numbers in (
      passed ++ b ∷ [],
      record {
        all = append_assoc passed (b ∷ []) (numbers c.without-places.result) ∙ ap (λ (l : List ℕ). passed ++ l) split ∙ inv.all;
        gains = gains_next c.args.strip c.args.left c.args.bound c.args.set b c.args.c passed [] c.args.sum.now c.loop-place.sum inv.gains c.add_cells.new.sum
            (subst (λ l. Gains c.loop-place.sum (scaled c.args.c (ones l)) c.add_cells.new.sum)
            (ap₂ (λ n s. with_cells c.args.strip (c.args.left - 1) n s) c.next_bound-next.ensures c.raised_at.ensures)
            c.in_ok-add_cells.ensures.gains);
      },
    )

pub returns-in_err-add_cells-clause-large : goal.returns-in_err-add_cells-clause-large
returns-in_err-add_cells-clause-large t c err = search (rules, overflows_next, ones, error_is)

pub returns-clause-gains : goal.returns-clause-gains
returns-clause-gains t c = search (rules, gains_all, append-nil, numbers-none)
