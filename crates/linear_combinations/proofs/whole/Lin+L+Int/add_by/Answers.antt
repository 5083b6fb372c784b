use Rattle.std.proofs.Common.{◌≡◌, [], ◌∷◌, ◌++◌, map, refl, sym, ap, subst, ◌∙◌, append-nil}
use Rattle.std.specs.Prelude.{Err}
use Rattle.std.specs.Map.Iter.{deref_pair}
use Rattle.std.proofs.lemmas.List.{map-append}
use Rattle.linear_combinations.proofs.Steps.{error_is, all_done}
use Rattle.linear_combinations.specs.Gains.{Gains, Overflows, replaced}
use Rattle.linear_combinations.proofs.Gains.{gains_none, pairs_gain, pairs_overflow, all_pairs}
use Rattle.linear_combinations.proofs.Gains.{so_far_next, replaced_append, next_among}
use Rattle.sym_model.specs.Sum.{Among}
use Rattle.linear_combinations.proofs.whole.Lin+L+Int.add_by.Goals as goal

pub loop-label-init : goal.loop-label-init
loop-label-init g c = record { gains = gains_none c.args.self.now; so_far = refl }

pub loop-label-preserved : goal.loop-label-preserved
loop-label-preserved g c =
    let inv = c.loop-label.invariant in
    let done = map deref_pair c.loop-label.yielded in
    let rest = c.next.new.self in
    let pushed : done ++ (c.in-Some.label.now, c.in-Some.c.now) ∷ [] ≡ map deref_pair
    (c.loop-label.yielded ++ (c.in-Some.label, c.in-Some.c) ∷ []) =
    sym (map-append deref_pair c.loop-label.yielded ((c.in-Some.label, c.in-Some.c) ∷ [])) in
    record {
      gains = pairs_gain (replaced (g.T.Rule.image c.args.rule.now))
          (replaced_append (g.T.Rule.image c.args.rule.now)) done (
            c.in-Some.label.now,
            c.in-Some.c.now,
          ) c.args.self.now c.loop-label.self inv.gains _ c.add_image.new.sum pushed
          (subst (λ l. Gains c.loop-label.self l c.add_image.new.sum) (sym (append-nil _))
          c.in_ok-add_image.ensures.gains);
      so_far = so_far_next done rest c.loop-label.label-iterator _ _ (
        c.in-Some.label.now,
        c.in-Some.c.now,
      ) pushed c.in-Some.ensures.steps inv.so_far;
    }

pub returns-in_err-add_image-clause-large : goal.returns-in_err-add_image-clause-large
returns-in_err-add_image-clause-large g c err =
    let inv = c.loop-label.invariant in
    let done = map deref_pair c.loop-label.yielded in
    let rest = c.next.new.self in
    let all = all_pairs done rest c.loop-label.label-iterator _ _ c.args.list.now
    (c.in-Some.label.now, c.in-Some.c.now) c.in-Some.ensures.steps inv.so_far
    c.into_iter-label-iterator.ensures.into_iter_gives c.iter-label-items.ensures.rest in
    pairs_overflow (replaced (g.T.Rule.image c.args.rule.now))
    (replaced_append (g.T.Rule.image c.args.rule.now)) done (
      c.in-Some.label.now,
      c.in-Some.c.now,
    ) c.args.self.now c.loop-label.self inv.gains g.L.PartialEq.eq rest
    c.args.list.now all
    (subst (Overflows g.L.PartialEq.eq c.loop-label.self) (sym (append-nil _))
    (c.in_err-add_image.ensures.large (ap Err (error_is _ _ _ c.from_residual.ensures.1 err))))

pub returns-clause-gains : goal.returns-clause-gains
returns-clause-gains g c =
    subst (λ l. Gains c.args.self.now (replaced (g.T.Rule.image c.args.rule.now) l)
    c.loop-label.self)
    (all_done (map deref_pair c.loop-label.yielded) c.loop-label.label-iterator _ _
    c.in-None.ensures.steps.0 c.loop-label.invariant.so_far
    (c.into_iter-label-iterator.ensures.into_iter_gives ∙ c.iter-label-items.ensures.rest))
    c.loop-label.invariant.gains

pub add_image-requires : goal.add_image-requires
add_image-requires g c =
    let inv = c.loop-label.invariant in
    let done = map deref_pair c.loop-label.yielded in
    let rest = c.next.new.self in
    let all = all_pairs done rest c.loop-label.label-iterator _ _ c.args.list.now
    (c.in-Some.label.now, c.in-Some.c.now) c.in-Some.ensures.steps inv.so_far
    c.into_iter-label-iterator.ensures.into_iter_gives c.iter-label-items.ensures.rest in
    c.requires (c.in-Some.label.now, c.in-Some.c.now)
    (subst (Among (c.in-Some.label.now, c.in-Some.c.now)) all
    (next_among done (c.in-Some.label.now, c.in-Some.c.now) rest))
