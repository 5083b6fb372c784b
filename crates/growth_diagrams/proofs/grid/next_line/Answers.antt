use Rattle.std.proofs.Common.{ℕ, List, [], ◌∷◌, ◌++◌, ◌+◌, ◌-◌, length, ◌∙◌, ap, ap₂, sym, subst}
use Rattle.std.proofs.Common.{arith}
use Rattle.partitions.specs.Limits.{IsWithinLimits}
use Rattle.growth_diagrams.proofs.GrowthPairs.{first_column}
use Rattle.growth_diagrams.proofs.GridLimits.{shape-limits}
use Rattle.growth_diagrams.proofs.GridLines.{length-line, length_front, line-more, line_all}
use Rattle.growth_diagrams.proofs.GridLines.{square_next}
use Rattle.growth_diagrams.proofs.grid.next_line.Goals as goal

pub loop-at-init : goal.loop-at-init
loop-at-init c =
    c.in_ok-push.ensures.items
    ∙ ap₂ (λ (l : List (List ℕ)) (a : List ℕ). l ++ a ∷ []) c.new-next.ensures.items
    c.in_ok-from_valid_parts.ensures.ok
    ∙ ap (λ (a : List ℕ). a ∷ []) (sym (first_column c.args.w.now c.args.number))

pub bounds-line-here : goal.bounds-line-here
bounds-line-here c =
    omega (
      arith,
      c.from-here.ensures,
      c.len-at-end.ensures.value,
      ap (λ (m : List (List ℕ)).
          length m) c.requires.line,
      length-line c.args.w.now (c.args.number - 1),
    )

pub bounds-line-here-in-loop-at : goal.bounds-line-here-in-loop-at
bounds-line-here-in-loop-at c =
    omega (
      arith,
      c.from-here.ensures,
      c.len-at-end.ensures.value,
      ap (λ (m : List (List ℕ)).
          length m) c.requires.line,
      length-line c.args.w.now (c.args.number - 1),
    )

pub index-requires : goal.index-requires
index-requires c =
    omega (
      arith,
      c.from-here.ensures,
      length_front c.args.w.now c.loop-at.next.items c.args.number c.loop-at.at c.loop-at.invariant
          (omega (arith, c.len-at-end.ensures.value)),
    )

pub shape_at_corner-requires : goal.shape_at_corner-requires
shape_at_corner-requires c =
    let w = c.args.w.now in
    let p = c.letter-letter.ensures.limits in
    subst IsWithinLimits
    (sym (square_next w c.args.number c.loop-at.at c.from-here.result c.letter-letter.result
    c.args.line.now c.loop-at.next.items
    c.index-line-here.result c.index-line-here-in-loop-at.result c.index.result.now c.requires.first
    c.requires.last
    (omega (arith, c.len-at-end.ensures.value)) c.letter-letter.ensures.value c.requires.line
    c.loop-at.invariant c.from-here.ensures
    c.index-line-here.is c.index-line-here-in-loop-at.is c.index.ensures))
    (shape-limits w c.args.number (c.loop-at.at + 1) p.kept.one_line p.few c.requires.last
    (omega (arith, c.len-at-end.ensures.value)))

pub returns : goal.returns
returns c = c.loop-at.invariant ∙ line_all c.args.w.now c.args.number (c.loop-at.at + 1)
    (omega (arith, c.len-at-end.ensures.value))

pub loop-at-preserved : goal.loop-at-preserved
loop-at-preserved c =
    let w = c.args.w.now in
    let s = square_next w c.args.number c.loop-at.at c.from-here.result c.letter-letter.result
    c.args.line.now c.loop-at.next.items
    c.index-line-here.result c.index-line-here-in-loop-at.result c.index.result.now c.requires.first
    c.requires.last
    (omega (arith, c.len-at-end.ensures.value)) c.letter-letter.ensures.value c.requires.line
    c.loop-at.invariant c.from-here.ensures
    c.index-line-here.is c.index-line-here-in-loop-at.is c.index.ensures in
    c.in_ok-push-2.ensures.items
    ∙ ap₂ (λ (l : List (List ℕ)) (a : List ℕ). l ++ a ∷ []) c.loop-at.invariant
    (c.in_ok-shape.ensures ∙ s)
    ∙ sym (line-more w c.args.number (c.loop-at.at + 1) (omega (arith, c.len-at-end.ensures.value)))
