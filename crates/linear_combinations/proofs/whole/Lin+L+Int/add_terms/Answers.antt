use Rattle.std.proofs.Common.{◌≡◌, [], ◌∷◌, ◌++◌, map, refl, sym, ap, subst, ◌∙◌}
use Rattle.std.specs.Prelude.{Err}
use Rattle.std.specs.Map.Iter.{deref_pair}
use Rattle.std.proofs.lemmas.List.{map-append}
use Rattle.std.proofs.lemmas.Result.{err_from_is_err_and}
use Rattle.linear_combinations.proofs.Steps.{error_is, all_done}
use Rattle.linear_combinations.specs.Gains.{Gains}
use Rattle.linear_combinations.proofs.Gains.{gains_none, pairs_gain, pairs_overflow, all_pairs}
use Rattle.linear_combinations.proofs.Gains.{so_far_next, first_kept, first_refused, first_fits}
use Rattle.linear_combinations.proofs.whole.Lin+L+Int.add_terms.Goals as goal

pub loop-label-init : goal.loop-label-init
loop-label-init g c = record {
  gains = gains_none c.args.self.now;
  so_far = refl;
  first = refl;
}

pub loop-label-preserved : goal.loop-label-preserved
loop-label-preserved g c =
    let inv = c.loop-label.invariant in
    let done = map deref_pair c.loop-label.yielded in
    let rest = c.next.new.self in
    let pushed : done ++ (c.in-Some.label.now, c.in-Some.a.now) ∷ [] ≡ map deref_pair
    (c.loop-label.yielded ++ (c.in-Some.label, c.in-Some.a) ∷ []) =
    sym (map-append deref_pair c.loop-label.yielded ((c.in-Some.label, c.in-Some.a) ∷ [])) in
    record {
      gains = pairs_gain (λ l. l) (λ xs ys. refl) done (c.in-Some.label.now, c.in-Some.a.now)
          c.args.self.now c.loop-label.self inv.gains _ c.add_at_label.new.self pushed
          c.in_ok-add_at_label.ensures.gains;
      so_far = so_far_next done rest c.loop-label.label-iterator _ _ (
        c.in-Some.label.now,
        c.in-Some.a.now,
      ) pushed c.in-Some.ensures.steps inv.so_far;
      first = first_kept g.L.PartialEq.eq c.args.self.now done (c.in-Some.label.now, c.in-Some.a.now)
          c.loop-label.self _ c.add_at_label.new.self pushed inv.first c.in_ok-add_at_label.ensures.fits;
    }

pub returns-in_err-add_at_label-clause-large : goal.returns-in_err-add_at_label-clause-large
returns-in_err-add_at_label-clause-large g c err =
    let inv = c.loop-label.invariant in
    let done = map deref_pair c.loop-label.yielded in
    let rest = c.next.new.self in
    let all = all_pairs done rest c.loop-label.label-iterator _ _ c.args.other.now
    (c.in-Some.label.now, c.in-Some.a.now) c.in-Some.ensures.steps inv.so_far
    c.into_iter-label-iterator.ensures.into_iter_gives c.iter-label-items.ensures.rest in
    pairs_overflow (λ l. l) (λ xs ys. refl) done (c.in-Some.label.now, c.in-Some.a.now)
    c.args.self.now c.loop-label.self inv.gains g.L.PartialEq.eq rest c.args.other.now all
    (c.in_err-add_at_label.ensures.large (ap Err (error_is _ _ _ c.from_residual.ensures.1 err)))

pub returns-clause-gains : goal.returns-clause-gains
returns-clause-gains g c =
    subst (λ l. Gains c.args.self.now (l) c.loop-label.self)
    (all_done (map deref_pair c.loop-label.yielded) c.loop-label.label-iterator _ _
    c.in-None.ensures.steps.0 c.loop-label.invariant.so_far
    (c.into_iter-label-iterator.ensures.into_iter_gives ∙ c.iter-label-items.ensures.rest))
    c.loop-label.invariant.gains

pub returns-in_err-add_at_label-clause-past : goal.returns-in_err-add_at_label-clause-past
returns-in_err-add_at_label-clause-past g c refuses =
    let inv = c.loop-label.invariant in
    let done = map deref_pair c.loop-label.yielded in
    let rest = c.next.new.self in
    let all = all_pairs done rest c.loop-label.label-iterator _ _ c.args.other.now
    (c.in-Some.label.now, c.in-Some.a.now) c.in-Some.ensures.steps inv.so_far
    c.into_iter-label-iterator.ensures.into_iter_gives c.iter-label-items.ensures.rest in
    let large = c.in_err-add_at_label.ensures.refused.1
    (first_refused g.L.PartialEq.eq c.args.self.now done (c.in-Some.label.now, c.in-Some.a.now)
    c.loop-label.self rest c.args.other.now all inv.first refuses) in
    let p = err_from_is_err_and c.from_residual.result c.from_residual.ensures.1 in
    rw (p.1, p.2) large

pub returns-clause-past : goal.returns-clause-past
returns-clause-past g c refuses =
    absurd (first_fits g.L.PartialEq.eq c.args.self.now (map deref_pair c.loop-label.yielded)
    c.loop-label.self c.args.other.now
    (all_done (map deref_pair c.loop-label.yielded) c.loop-label.label-iterator _ _
    c.in-None.ensures.steps.0 c.loop-label.invariant.so_far
    (c.into_iter-label-iterator.ensures.into_iter_gives ∙ c.iter-label-items.ensures.rest))
    c.loop-label.invariant.first refuses)
