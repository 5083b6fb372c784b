use Rattle.std.proofs.Common.{ℕ, List, ◌≤◌, length, ◌∙◌, ap, arith}
use Rattle.sym_model.specs.Growth.{grid_line}
use Rattle.growth_diagrams.proofs.GridLines.{line_in, lines_long}
use Rattle.growth_diagrams.proofs.grid.Grid.line.Goals as goal

pub index-requires : goal.index-requires
index-requires c =
    let same = c.self.view_is in
    omega (
      arith,
      c.from.ensures,
      lines_long c.self.inside.permutation c.self.inside.lines.items
          c.self.invariant.grid,
      ap (λ (w : List ℕ). length w) same,
    )

pub returns-clause-shapes : goal.returns-clause-shapes
returns-clause-shapes c =
    let w = c.self.inside.permutation in
    let i : c.args.i ≤ length w = omega (arith, ap (λ (w : List ℕ). length w) c.self.view_is) in
    c.as_slice.ensures.value
    ∙ line_in w c.self.inside.lines.items c.args.i c.from.result c.index.result.now
    c.self.invariant.grid c.from.ensures i c.index.ensures
    ∙ ap (λ w. grid_line w c.args.i) c.self.view_is
