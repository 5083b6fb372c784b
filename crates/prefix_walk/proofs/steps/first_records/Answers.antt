use Rattle.std.proofs.Common.{◌+◌, [], ◌∷◌, ap, ◌∙◌}
use Rattle.std.proofs.lemmas.List.Elements.{All-same, All-nil}
use Rattle.prefix_walk.specs.Levels.{at_most_cap, IsStep}
use Rattle.prefix_walk.proofs.RecordLists.{records_sorted, weighed_sorted, first_sum}
use Rattle.prefix_walk.proofs.steps.first_records.Goals as goal

pub returns-clause-sound : goal.returns-clause-sound
returns-clause-sound g c =
    let at = g.P.Prefixes.is_state c.args.rule.now c.args.after in
    let end = g.P.Prefixes.end c.args.rule.now in
    records_sorted at end c.add_steps.new.next.items c.sort.new.records.items
    (c.in_ok-add_steps.ensures.steps (All-same (λ r. IsStep at end r.0) c.list-next.result.items [] c.list-next.ensures (All-nil (λ r. IsStep at end r.0))))
    c.sort.ensures.permutation c.sort.ensures.rise

pub returns-clause-adds : goal.returns-clause-adds
returns-clause-adds g c = λ a label e.
    ap at_most_cap (weighed_sorted a (λ s. g.P.Prefixes.ways c.args.rule.now c.args.after s label) c.add_steps.new.next.items c.sort.new.records.items c.sort.ensures.permutation)
    ∙ c.in_ok-add_steps.ensures.adds a label e
    ∙ ap at_most_cap (first_sum a (λ s. g.P.Prefixes.ways c.args.rule.now c.args.after s label) c.list-next.result.items (g.P.Prefixes.ways c.args.rule.now (c.args.after + 1) c.args.state.now (a ∷ label)) c.list-next.ensures)
