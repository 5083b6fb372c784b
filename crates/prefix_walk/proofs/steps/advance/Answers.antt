use Rattle.std.proofs.Common.{◌≡◌, ℕ, ◌+◌, ◌-◌, ◌<◌, [], ◌∷◌, ◌++◌, length, arith, refl, sym, ap, ◌∙◌, subst}
use Rattle.prefix_walk.specs.Levels.{rest_at, entries_of, AreSound, work_left}
use Rattle.prefix_walk.proofs.TermLists.{no_terms}
use Rattle.prefix_walk.proofs.Stacks.{room_for, last_node, sound_front, taken_sound, pop_rest, other_entry, stepped, pop_work, other_work}
use Rattle.prefix_walk.proofs.Moves.{level_terms, is_level, level_top}
use Rattle.prefix_walk.proofs.steps.advance.Goals as goal

pub overflow_sub-after-in-Some : goal.overflow_sub-after-in-Some
overflow_sub-after-in-Some g c =
    let node = is_level (g.P.Prefixes.is_state c.args.rule.now) (g.P.Prefixes.end c.args.rule.now) in
    let sound = subst (λ x. AreSound node c.args.len x) c.in-Some.ensures.items c.loop-records.invariant.sound in
    let r = room_for _ node c.args.len c.pop.new.self.items (c.in-Some.records, c.in-Some.field-0-1) sound in
    omega (arith, c.len.ensures)

pub loop-records-smaller-in_default-last_entry : goal.loop-records-smaller-in_default-last_entry
loop-records-smaller-in_default-last_entry g c =
    let node = is_level (g.P.Prefixes.is_state c.args.rule.now) (g.P.Prefixes.end c.args.rule.now) in
    let end = g.P.Prefixes.end c.args.rule.now in
    let sound = subst (λ x. AreSound node c.args.len x) c.in-Some.ensures.items c.loop-records.invariant.sound in
    let r = room_for _ node c.args.len c.pop.new.self.items (c.in-Some.records, c.in-Some.field-0-1) sound in
    let e : c.args.len ≡ length c.pop.new.self.items + (c.args.len - 1 - c.len.result + 1) = omega (arith, c.len.ensures) in
    subst (λ x. work_left level_top end c.args.len c.pop.new.self.items < work_left level_top end c.args.len x) (sym c.in-Some.ensures.items)
    (pop_work _ level_top end c.args.len (c.args.len - 1 - c.len.result) c.pop.new.self.items c.in-Some.records c.in-Some.field-0-1 e)

pub loop-records-preserved-in_default-last_entry : goal.loop-records-preserved-in_default-last_entry
loop-records-preserved-in_default-last_entry g c =
    let node = is_level (g.P.Prefixes.is_state c.args.rule.now) (g.P.Prefixes.end c.args.rule.now) in
    let ways = g.P.Prefixes.ways c.args.rule.now in
    let end = g.P.Prefixes.end c.args.rule.now in
    let sound = subst (λ x. AreSound node c.args.len x) c.in-Some.ensures.items c.loop-records.invariant.sound in
    let r = room_for _ node c.args.len c.pop.new.self.items (c.in-Some.records, c.in-Some.field-0-1) sound in
    let e : c.args.len ≡ length c.pop.new.self.items + (c.args.len - 1 - c.len.result + 1) = omega (arith, c.len.ensures) in
    record {
      sound = sound_front _ node c.args.len c.pop.new.self.items ((c.in-Some.records, c.in-Some.field-0-1) ∷ []) sound;
      same = c.loop-records.invariant.same ∙ ap (λ x. rest_at (level_terms ways end) c.args.len x) c.in-Some.ensures.items
          ∙ pop_rest _ (level_terms ways end) c.args.len (c.args.len - 1 - c.len.result) c.pop.new.self.items c.in-Some.records c.in-Some.field-0-1 e
          (no_terms _ ways end (c.args.len - 1 - c.len.result) c.in-Some.records.items (sym c.deref.ensures.value ∙ c.in_default-last_entry.ensures));
    }

pub lower-requires-clause-sound : goal.lower-requires-clause-sound
lower-requires-clause-sound g c =
    let node = is_level (g.P.Prefixes.is_state c.args.rule.now) (g.P.Prefixes.end c.args.rule.now) in
    let sound = subst (λ x. AreSound node c.args.len x) c.in-Some.ensures.items c.loop-records.invariant.sound in
    let r = room_for _ node c.args.len c.pop.new.self.items (c.in-Some.records, c.in-Some.field-0-1) sound in
    let m = c.args.len - 1 - c.len.result in
    let e : c.args.len ≡ length c.pop.new.self.items + (c.args.len - 1 - c.len.result + 1) = omega (arith, c.len.ensures) in
    subst (λ (i : ℕ). AreSound node i (c.pop.new.self.items ++ (c.in-Some.records, c.in-Some-last_entry.entry) ∷ [])) e
    (taken_sound _ node c.args.len m c.pop.new.self.items c.in-Some.records c.in-Some.records c.in-Some.field-0-1 c.in-Some-last_entry.entry e sound
    (last_node _ node c.args.len m c.pop.new.self.items c.in-Some.records c.in-Some.field-0-1 e sound))

pub returns-in-Some-2-clause-sound : goal.returns-in-Some-2-clause-sound
returns-in-Some-2-clause-sound g c =
    let node = is_level (g.P.Prefixes.is_state c.args.rule.now) (g.P.Prefixes.end c.args.rule.now) in
    let sound = subst (λ x. AreSound node c.args.len x) c.in-Some.ensures.items c.loop-records.invariant.sound in
    let r = room_for _ node c.args.len c.pop.new.self.items (c.in-Some.records, c.in-Some.field-0-1) sound in
    let e : c.args.len ≡ length c.pop.new.self.items + (c.args.len - 1 - c.len.result + 1) = omega (arith, c.len.ensures) in
    subst (λ (i : ℕ). AreSound node i c.lower.new.levels.items) (sym e) c.in_ok-count.ensures.sound

pub returns-in-Some-2-clause-next : goal.returns-in-Some-2-clause-next
returns-in-Some-2-clause-next g c =
    let node = is_level (g.P.Prefixes.is_state c.args.rule.now) (g.P.Prefixes.end c.args.rule.now) in
    let terms = level_terms (g.P.Prefixes.ways c.args.rule.now) (g.P.Prefixes.end c.args.rule.now) in
    let sound = subst (λ x. AreSound node c.args.len x) c.in-Some.ensures.items c.loop-records.invariant.sound in
    let r = room_for _ node c.args.len c.pop.new.self.items (c.in-Some.records, c.in-Some.field-0-1) sound in
    let m = c.args.len - 1 - c.len.result in
    let e : c.args.len ≡ length c.pop.new.self.items + (c.args.len - 1 - c.len.result + 1) = omega (arith, c.len.ensures) in
    c.loop-records.invariant.same ∙ ap (λ x. rest_at terms c.args.len x) c.in-Some.ensures.items
    ∙ other_entry _ terms c.args.len m c.pop.new.self.items c.in-Some.records c.in-Some.field-0-1 c.in-Some-last_entry.entry e
    ∙ stepped _ terms c.args.len (length c.pop.new.self.items + (m + 1)) (c.pop.new.self.items ++ (c.in-Some.records, c.in-Some-last_entry.entry) ∷ [])
    (c.pop.new.self.items ++ (c.in-Some.records, c.in-Some-last_entry.entry) ∷ []) c.lower.new.levels.items (entries_of c.lower.new.levels.items) _ _ refl e c.in-Some-2.is c.in_ok-count.ensures.next

pub loop-records-smaller : goal.loop-records-smaller
loop-records-smaller g c =
    let node = is_level (g.P.Prefixes.is_state c.args.rule.now) (g.P.Prefixes.end c.args.rule.now) in
    let end = g.P.Prefixes.end c.args.rule.now in
    let sound = subst (λ x. AreSound node c.args.len x) c.in-Some.ensures.items c.loop-records.invariant.sound in
    let r = room_for _ node c.args.len c.pop.new.self.items (c.in-Some.records, c.in-Some.field-0-1) sound in
    let m = c.args.len - 1 - c.len.result in
    let e : c.args.len ≡ length c.pop.new.self.items + (c.args.len - 1 - c.len.result + 1) = omega (arith, c.len.ensures) in
    subst (λ (w : ℕ). work_left level_top end c.args.len c.lower.new.levels.items < w)
    (other_work _ level_top end c.args.len m c.pop.new.self.items c.in-Some.records c.in-Some-last_entry.entry c.in-Some.field-0-1 e
    ∙ ap (λ x. work_left level_top end c.args.len x) (sym c.in-Some.ensures.items))
    (subst (λ (i : ℕ). work_left level_top end i c.lower.new.levels.items < work_left level_top end i (c.pop.new.self.items ++ (c.in-Some.records, c.in-Some-last_entry.entry) ∷ [])) (sym e) c.in_ok-count.ensures.less)

pub loop-records-preserved : goal.loop-records-preserved
loop-records-preserved g c =
    let node = is_level (g.P.Prefixes.is_state c.args.rule.now) (g.P.Prefixes.end c.args.rule.now) in
    let terms = level_terms (g.P.Prefixes.ways c.args.rule.now) (g.P.Prefixes.end c.args.rule.now) in
    let sound = subst (λ x. AreSound node c.args.len x) c.in-Some.ensures.items c.loop-records.invariant.sound in
    let r = room_for _ node c.args.len c.pop.new.self.items (c.in-Some.records, c.in-Some.field-0-1) sound in
    let m = c.args.len - 1 - c.len.result in
    let e : c.args.len ≡ length c.pop.new.self.items + (c.args.len - 1 - c.len.result + 1) = omega (arith, c.len.ensures) in
    record {
      sound = subst (λ (i : ℕ). AreSound node i c.lower.new.levels.items) (sym e) c.in_ok-count.ensures.sound;
      same = c.loop-records.invariant.same ∙ ap (λ x. rest_at terms c.args.len x) c.in-Some.ensures.items
          ∙ other_entry _ terms c.args.len m c.pop.new.self.items c.in-Some.records c.in-Some.field-0-1 c.in-Some-last_entry.entry e
          ∙ stepped _ terms c.args.len (length c.pop.new.self.items + (m + 1)) (c.pop.new.self.items ++ (c.in-Some.records, c.in-Some-last_entry.entry) ∷ [])
          (c.pop.new.self.items ++ (c.in-Some.records, c.in-Some-last_entry.entry) ∷ []) c.lower.new.levels.items (entries_of c.lower.new.levels.items) _ _ refl e c.in_default-2.is c.in_ok-count.ensures.next;
    }
