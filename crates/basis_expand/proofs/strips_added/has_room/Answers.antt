use Rattle.std.proofs.Common.{◌≡◌, [], ◌∷◌, ◌++◌, List, ℕ, map, true, sym, subst, refl, rules}
use Rattle.std.specs.Map.Iter.{deref_pair}
use Rattle.std.proofs.lemmas.List.{map-append}
use Rattle.sym_model.specs.Expansion.{Terms}
use Rattle.sym_model.specs.Sum.{Among}
use Rattle.linear_combinations.proofs.Gains.{all_pairs, next_among, so_far_next}
use Rattle.sparse_polys.proofs.Steps.{all_done}
use Rattle.strip_rules.specs.Room.{HaveRoomForStrips}
use Rattle.basis_expand.proofs.FamilyFactors.{room_next}
use Rattle.basis_expand.proofs.strips_added.has_room.Goals as goal

pub loop-label-init : goal.loop-label-init
loop-label-init c = record { room = λ t m. absurd m; so_far = refl }

pub loop-label-preserved : goal.loop-label-preserved
loop-label-preserved c =
    let done = map deref_pair c.loop-label.yielded in
    let rest = c.next.new.self in
    let k = c.in-Some.label.now in
    let v = c.in-Some.field-0-1.now in
    let pushed : done ++ (k, v) ∷ [] ≡ map deref_pair (c.loop-label.yielded ++ (
      c.in-Some.label,
      c.in-Some.field-0-1,
    ) ∷ []) =
    sym (map-append deref_pair c.loop-label.yielded ((c.in-Some.label, c.in-Some.field-0-1) ∷ []))
    in
    let grows = c.can_grow.ensures.0 c.if-not-can_grow.false in
    record {
      room = subst (λ (es : Terms (List ℕ)). HaveRoomForStrips c.args.k es) pushed
          (room_next c.args.k done k v c.loop-label.invariant.room grows.0 grows.1);
      so_far = so_far_next done rest c.loop-label.label-iterator _ _ (k, v) pushed
          c.in-Some.ensures.steps c.loop-label.invariant.so_far;
    }

pub returns-then-not-can_grow : goal.returns-then-not-can_grow
returns-then-not-can_grow c =
    let done = map deref_pair c.loop-label.yielded in
    let rest = c.next.new.self in
    let k = c.in-Some.label.now in
    let v = c.in-Some.field-0-1.now in
    let there : Among (k, v) c.args.list.now =
    subst (Among (k, v))
    (all_pairs done rest c.loop-label.label-iterator _ _ c.args.list.now (k, v)
    c.in-Some.ensures.steps c.loop-label.invariant.so_far
    c.into_iter-label-iterator.ensures.into_iter_gives c.iter-label-items.ensures.rest)
    (next_among done (k, v) rest) in (
      (λ told. absurd (cc)),
      (λ room. let yes : c.can_grow.result ≡ true = c.can_grow.ensures.1 (room (k, v) there) in
          absurd (cc)),
    )

pub returns : goal.returns
returns c = search (rules, all_done)
