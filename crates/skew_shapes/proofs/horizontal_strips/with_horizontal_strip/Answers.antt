use Rattle.std.proofs.Common.{◌≡◌, ◌+◌, ◌++◌, List, ℕ, map, subst, sym, ap₂, ◌∙◌, rules}
use Rattle.sym_model.specs.Partition.{part}
use Rattle.skew_shapes.specs.HorizontalStrips.{strips_on, AreHorizontalStrips}
use Rattle.skew_shapes.proofs.StripLists.{grown_limits, most_falls, horizontal_strips, map_rest}
use Rattle.skew_shapes.proofs.horizontal_strips.with_horizontal_strip.Goals as goal

pub add_strips-requires-clause-falls : goal.add_strips-requires-clause-falls
add_strips-requires-clause-falls c = search (rules, most_falls)

pub add_strips-requires-clause-limits : goal.add_strips-requires-clause-limits
add_strips-requires-clause-limits c rest m = search (rules, grown_limits)

pub returns : goal.returns
returns c =
    let inner = c.args.inner.now in
    let list = strips_on (c.part.result + c.args.k) c.args.k c.parts.result.now in
    let is : c.add_strips.new.shapes.items ≡ strips_on (part inner 1 + c.args.k) c.args.k inner =
    c.in_ok-add_strips.ensures.shapes
    ∙ ap₂ (λ (x : List (List ℕ)) (above : List ℕ). x ++ map (λ rest. above ++ rest) list)
    c.new-shapes.ensures.items c.in_ok-above.ensures.items
    ∙ map_rest list
    ∙ ap₂ (λ (n : ℕ) (l : List ℕ). strips_on (n + c.args.k) c.args.k l) c.part.ensures.value
    c.parts.ensures.value in
    subst (AreHorizontalStrips inner c.args.k) (sym is)
    (horizontal_strips inner c.args.k c.parts.ensures.limits.partition)
