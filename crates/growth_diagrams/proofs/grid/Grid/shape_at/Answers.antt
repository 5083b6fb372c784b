use Rattle.std.proofs.Common.{ℕ, List, length, ◌∙◌, ap, arith}
use Rattle.growth_diagrams.proofs.GrowthPairs.{growth-shape, perm_from}
use Rattle.growth_diagrams.proofs.GridLines.{length-line, shape_in}
use Rattle.growth_diagrams.proofs.grid.Grid.shape_at.Goals as goal

pub bounds-line-from : goal.bounds-line-from
bounds-line-from c =
    omega (
      arith,
      c.from.ensures,
      ap (λ (m : List (List ℕ)). length m) c.line.ensures.shapes,
      length-line c.args.self.now c.args.i,
    )

pub returns-clause-shape : goal.returns-clause-shape
returns-clause-shape c =
    shape_in c.args.self.now c.line.result.now c.args.i c.args.j c.from.result
    c.index-line-from.result c.line.ensures.shapes c.from.ensures
    c.requires.j c.index-line-from.is

pub returns-clause-insertion : goal.returns-clause-insertion
returns-clause-insertion c =
    let w = c.args.self.now in
    shape_in w c.line.result.now c.args.i c.args.j c.from.result c.index-line-from.result
    c.line.ensures.shapes c.from.ensures
    c.requires.j c.index-line-from.is
    ∙ growth-shape w c.args.i c.args.j (perm_from w c.line.ensures.limits.kept.one_line)
    c.requires.i c.requires.j
