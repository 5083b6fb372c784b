use Rattle.std.proofs.Common.{◌≡◌, ◌++◌, ◌∷◌, [], ℕ, List, sym, ap, ◌∙◌, append_assoc, append-nil, rules}
use Rattle.linear_combinations.proofs.Gains.{gains_none}
use Rattle.linear_combinations.proofs.Steps.{error_is}
use Rattle.beta_sets.specs.BetaSets.{numbers}
use Rattle.beta_sets.proofs.GreatestPlaces.{numbers-none}
use Rattle.strip_rules.proofs.HookMoves.{free_low, hooks_next, hooks_overflow}
use Rattle.strip_rules.proofs.bead_hooks.HookAddedRuleBetaSetBetaSet.add_image.Goals as goal

pub loop-place-init : goal.loop-place-init
loop-place-init c = ([], record { all = c.free-places.ensures; gains = gains_none c.args.sum.now })

pub add_hook-requires-clause-low : goal.add_hook-requires-clause-low
add_hook-requires-clause-low c =
    (free_low c.args.self.now.cells c.args.label.now c.loop-place.places c.in-Some.place c.loop-place.invariant.0 c.requires.0 c.requires.1 c.requires.2 c.in-Some.ensures c.loop-place.invariant.1.all).0

pub add_hook-requires-clause-there : goal.add_hook-requires-clause-there
add_hook-requires-clause-there c =
    let l = free_low c.args.self.now.cells c.args.label.now c.loop-place.places c.in-Some.place c.loop-place.invariant.0 c.requires.0 c.requires.1 c.requires.2 c.in-Some.ensures c.loop-place.invariant.1.all in
    (l.1, l.2)

pub loop-place-preserved : goal.loop-place-preserved
loop-place-preserved c =
    let b = c.in-Some.place in
    let passed = c.loop-place.invariant.0 in
    let inv = c.loop-place.invariant.1 in
    let split : b ∷ numbers c.without-places.result ≡ numbers c.loop-place.places =
    ap (λ s. b ∷ numbers s) c.without-places.ensures ∙ sym c.in-Some.ensures.numbers in (
      passed ++ b ∷ [],
      record {
        all = append_assoc passed (b ∷ []) (numbers c.without-places.result) ∙ ap (λ (l : List ℕ). passed ++ l) split ∙ inv.all;
        gains = hooks_next c.args.self.now.cells c.args.label.now b c.args.c passed [] c.args.sum.now c.loop-place.sum inv.gains c.add_hook.new.sum c.in_ok-add_hook.ensures.gains;
      },
    )

pub returns-in_err-add_hook-clause-large : goal.returns-in_err-add_hook-clause-large
returns-in_err-add_hook-clause-large c err = search (rules, hooks_overflow, error_is)

pub returns-clause-gains : goal.returns-clause-gains
returns-clause-gains c = search (rules, append-nil, numbers-none)
