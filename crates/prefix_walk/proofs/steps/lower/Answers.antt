use Rattle.std.proofs.Common.{◌≡◌, ℕ, ◌+◌, ◌-◌, ◌<◌, [], ◌∷◌, ◌++◌, length, arith, sym, ap, ◌∙◌, subst}
use Rattle.std.specs.Option.{option_to_list, option_map}
use Rattle.prefix_walk.specs.Levels.{rest_at, entries_of, AreRecords, AreSound, work_left}
use Rattle.prefix_walk.proofs.Moves.{level_terms, is_level, level_top, here, greatest, leaf_sound, leaf_less, leaf_rest, deeper_is_sound, deeper_less, deeper_is_rest}
use Rattle.prefix_walk.proofs.steps.lower.Goals as goal

pub take_total-total-requires-clause-rise : goal.take_total-total-requires-clause-rise
take_total-total-requires-clause-rise g c =
    let at = g.P.Prefixes.is_state c.args.rule.now in let ways = g.P.Prefixes.ways c.args.rule.now in let end = g.P.Prefixes.end c.args.rule.now in
    (here _ at ways end c.args.levels.now.items c.args.records c.args.records c.args.entry c.args.after c.requires.sound c.requires.last).rise

pub take_total-total-requires-clause-greatest : goal.take_total-total-requires-clause-greatest
take_total-total-requires-clause-greatest g c =
    let at = g.P.Prefixes.is_state c.args.rule.now in let ways = g.P.Prefixes.ways c.args.rule.now in let end = g.P.Prefixes.end c.args.rule.now in
    greatest _ at ways end c.args.levels.now.items c.args.records c.args.records c.args.entry c.args.after c.requires.sound c.requires.last

pub returns-then-after-eq0-clause-sound : goal.returns-then-after-eq0-clause-sound
returns-then-after-eq0-clause-sound g c =
    let at = g.P.Prefixes.is_state c.args.rule.now in let ways = g.P.Prefixes.ways c.args.rule.now in let end = g.P.Prefixes.end c.args.rule.now in
    subst (λ x. AreSound (is_level at end) (length c.args.levels.now.items + (c.args.after + 1)) x) (sym c.in_ok-push.ensures.items)
    (leaf_sound _ at ways end c.args.levels.now.items c.args.records c.take_total-total.new.records c.args.entry c.args.after c.requires.sound c.requires.last
    c.take_total-total.ensures.taken c.take_total-total.ensures.below)

pub returns-then-after-eq0-clause-next : goal.returns-then-after-eq0-clause-next
returns-then-after-eq0-clause-next g c =
    let at = g.P.Prefixes.is_state c.args.rule.now in let ways = g.P.Prefixes.ways c.args.rule.now in let end = g.P.Prefixes.end c.args.rule.now in
    let n = length c.args.levels.now.items + (c.args.after + 1) in
    subst (λ x. rest_at (level_terms ways end) n (c.args.levels.now.items ++ (c.args.records, c.args.entry) ∷ [])
    ≡ option_to_list (option_map (λ k. (entries_of x, k)) c.if_positive.result) ++ rest_at (level_terms ways end) n x) (sym c.in_ok-push.ensures.items)
    (leaf_rest _ at ways end c.args.levels.now.items c.args.records c.take_total-total.new.records c.args.entry c.args.after c.requires.sound c.requires.last
    c.take_total-total.ensures.taken c.take_total-total.ensures.below (λ s h. g.met.P.Prefixes.ended c.args.rule.now s h) c.if-after-eq0.true
    c.take_total-total.result c.take_total-total.ensures.total c.if_positive.result c.if_positive.ensures)

pub returns-then-after-eq0-clause-less : goal.returns-then-after-eq0-clause-less
returns-then-after-eq0-clause-less g c =
    let at = g.P.Prefixes.is_state c.args.rule.now in let ways = g.P.Prefixes.ways c.args.rule.now in let end = g.P.Prefixes.end c.args.rule.now in
    let n = length c.args.levels.now.items + (c.args.after + 1) in
    subst (λ x. work_left level_top end n x < work_left level_top end n (c.args.levels.now.items ++ (c.args.records, c.args.entry) ∷ [])) (sym c.in_ok-push.ensures.items)
    (leaf_less _ at ways end c.args.levels.now.items c.args.records c.take_total-total.new.records c.args.entry c.args.after c.requires.sound c.requires.last
    c.take_total-total.ensures.taken c.take_total-total.ensures.below)

pub take_steps-requires-clause-sound : goal.take_steps-requires-clause-sound
take_steps-requires-clause-sound g c =
    let at = g.P.Prefixes.is_state c.args.rule.now in let ways = g.P.Prefixes.ways c.args.rule.now in let end = g.P.Prefixes.end c.args.rule.now in
    let one : c.args.after ≡ c.args.after - 1 + 1 = omega (arith, c.if-after-eq0.false) in
    subst (λ (n : ℕ). AreRecords (at n) end c.args.records.items) one
    (here _ at ways end c.args.levels.now.items c.args.records c.args.records c.args.entry c.args.after c.requires.sound c.requires.last)

pub take_steps-requires-clause-greatest : goal.take_steps-requires-clause-greatest
take_steps-requires-clause-greatest g c =
    let at = g.P.Prefixes.is_state c.args.rule.now in let ways = g.P.Prefixes.ways c.args.rule.now in let end = g.P.Prefixes.end c.args.rule.now in
    greatest _ at ways end c.args.levels.now.items c.args.records c.args.records c.args.entry c.args.after c.requires.sound c.requires.last

pub returns-clause-sound : goal.returns-clause-sound
returns-clause-sound g c =
    let at = g.P.Prefixes.is_state c.args.rule.now in let ways = g.P.Prefixes.ways c.args.rule.now in let end = g.P.Prefixes.end c.args.rule.now in
    let one : c.args.after ≡ c.args.after - 1 + 1 = omega (arith, c.if-after-eq0.false) in
    let e = c.in_ok-take_steps.ensures in
    subst (λ x. AreSound (is_level at end) (length c.args.levels.now.items + (c.args.after + 1)) x)
    (sym (c.in_ok-push-3.ensures.items ∙ ap (λ x. x ++ (c.sort.new.records, c.args.entry) ∷ []) c.in_ok-push-2.ensures.items))
    (deeper_is_sound _ at ways end c.args.levels.now.items c.args.records c.take_steps.new.records c.args.entry c.args.after c.requires.sound c.requires.last
    e.taken e.below c.take_steps.new.next c.sort.new.records (c.args.after - 1) one e.steps c.sort.ensures.permutation c.sort.ensures.rise)

pub returns-clause-next : goal.returns-clause-next
returns-clause-next g c =
    let at = g.P.Prefixes.is_state c.args.rule.now in let ways = g.P.Prefixes.ways c.args.rule.now in let end = g.P.Prefixes.end c.args.rule.now in
    let one : c.args.after ≡ c.args.after - 1 + 1 = omega (arith, c.if-after-eq0.false) in
    let e = c.in_ok-take_steps.ensures in
    deeper_is_rest _ at ways end c.args.levels.now.items c.args.records c.take_steps.new.records c.args.entry c.args.after c.requires.sound c.requires.last
    e.taken e.below c.take_steps.new.next c.sort.new.records (c.args.after - 1) one e.steps c.sort.ensures.permutation c.sort.ensures.rise e.adds
    ∙ ap (λ x. rest_at (level_terms ways end) (length c.args.levels.now.items + (c.args.after + 1)) x)
    (sym (c.in_ok-push-3.ensures.items ∙ ap (λ x. x ++ (c.sort.new.records, c.args.entry) ∷ []) c.in_ok-push-2.ensures.items))

pub returns-clause-less : goal.returns-clause-less
returns-clause-less g c =
    let at = g.P.Prefixes.is_state c.args.rule.now in let ways = g.P.Prefixes.ways c.args.rule.now in let end = g.P.Prefixes.end c.args.rule.now in
    let one : c.args.after ≡ c.args.after - 1 + 1 = omega (arith, c.if-after-eq0.false) in
    let e = c.in_ok-take_steps.ensures in
    let n = length c.args.levels.now.items + (c.args.after + 1) in
    subst (λ x. work_left level_top end n x < work_left level_top end n (c.args.levels.now.items ++ (c.args.records, c.args.entry) ∷ []))
    (sym (c.in_ok-push-3.ensures.items ∙ ap (λ x. x ++ (c.sort.new.records, c.args.entry) ∷ []) c.in_ok-push-2.ensures.items))
    (deeper_less _ at ways end c.args.levels.now.items c.args.records c.take_steps.new.records c.args.entry c.args.after c.requires.sound c.requires.last
    e.taken e.below c.take_steps.new.next c.sort.new.records (c.args.after - 1) one e.steps c.sort.ensures.permutation c.sort.ensures.rise)
