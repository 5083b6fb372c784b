use Rattle.std.proofs.Common.{◌+◌, ap, sym, subst, ◌∙◌, arith}
use Rattle.sym_model.specs.Partition.{IsCell, part}
use Rattle.sym_model.specs.Slide.{HasInnerCorner}
use Rattle.sym_model.specs.Tableau.{SkewFilling}
use Rattle.skew_shapes.specs.CellFillings.{IsFilling, with_entry}
use Rattle.jeu_de_taquin.specs.EmptyCell.{slid_from}
use Rattle.jeu_de_taquin.proofs.Neighbours.{is_at, IsFilling-with_entry}
use Rattle.jeu_de_taquin.proofs.Steps.{goes_right, goes_down, stops}
use Rattle.jeu_de_taquin.proofs.empty_cell.move_letters.Goals as goal

pub next_letter-requires-clause-row : goal.next_letter-requires-clause-row
next_letter-requires-clause-row c =
    (is_at c.loop-letter.filled c.loop-letter.row c.loop-letter.column
    c.loop-letter.invariant.filling c.loop-letter.invariant.cell).few

pub next_letter-requires-clause-column : goal.next_letter-requires-clause-column
next_letter-requires-clause-column c =
    (is_at c.loop-letter.filled c.loop-letter.row c.loop-letter.column
    c.loop-letter.invariant.filling c.loop-letter.invariant.cell).small

pub set-requires : goal.set-requires
set-requires c = c.loop-letter.invariant.cell

pub set-requires-in-Below : goal.set-requires-in-Below
set-requires-in-Below c = c.loop-letter.invariant.cell

pub overflow_add-column : goal.overflow_add-column
overflow_add-column c =
    let at = is_at c.loop-letter.filled c.loop-letter.row c.loop-letter.column
    c.loop-letter.invariant.filling c.loop-letter.invariant.cell in
    omega (arith, at.small)

pub loop-letter-smaller-in-Right : goal.loop-letter-smaller-in-Right
loop-letter-smaller-in-Right c =
    let at = is_at c.loop-letter.filled c.loop-letter.row c.loop-letter.column
    c.loop-letter.invariant.filling c.loop-letter.invariant.cell in
    omega (arith, at.few, at.small)

pub loop-letter-smaller : goal.loop-letter-smaller
loop-letter-smaller c =
    let at = is_at c.loop-letter.filled c.loop-letter.row c.loop-letter.column
    c.loop-letter.invariant.filling c.loop-letter.invariant.cell in
    omega (arith, at.few, at.small)

pub loop-letter-preserved-in-Right : goal.loop-letter-preserved-in-Right
loop-letter-preserved-in-Right c =
    let t = c.loop-letter.filled in
    let i = c.loop-letter.invariant in
    let row = c.loop-letter.row in
    let column = c.loop-letter.column in
    let s = with_entry t row column c.in-Right.letter in
    let g = goes_right t row column c.in-Right.letter i.filling i.cell c.in-Right.ensures in
    let e = c.set.ensures in
    record {
      outer = ap (λ (s : SkewFilling). s.outer) e ∙ i.outer;
      inner = ap (λ (s : SkewFilling). s.inner) e ∙ i.inner;
      filling = subst IsFilling (sym e) (IsFilling-with_entry t row column c.in-Right.letter
          i.filling);
      cell = subst (λ (s : SkewFilling). IsCell s.outer s.inner row (column + 1)) (sym e) g.cell;
      rows = i.rows ∙ g.rows ∙ ap (λ (s : SkewFilling). slid_from s row (column + 1)) (sym e);
    }

pub loop-letter-preserved : goal.loop-letter-preserved
loop-letter-preserved c =
    let t = c.loop-letter.filled in
    let i = c.loop-letter.invariant in
    let row = c.loop-letter.row in
    let column = c.loop-letter.column in
    let g = goes_down t row column c.in-Below.letter i.filling i.cell c.in-Below.ensures in
    let e = c.set-in-Below.ensures in
    record {
      outer = ap (λ (s : SkewFilling). s.outer) e ∙ i.outer;
      inner = ap (λ (s : SkewFilling). s.inner) e ∙ i.inner;
      filling = subst IsFilling (sym e) (IsFilling-with_entry t row column c.in-Below.letter
          i.filling);
      cell = subst (λ (s : SkewFilling). IsCell s.outer s.inner (row + 1) column) (sym e) g.cell;
      rows = i.rows ∙ g.rows ∙ ap (λ (s : SkewFilling). slid_from s (row + 1) column) (sym e);
    }

pub returns-in-Nobody-clause-corner : goal.returns-in-Nobody-clause-corner
returns-in-Nobody-clause-corner c =
    let i = c.loop-letter.invariant in
    let s = stops c.loop-letter.filled c.loop-letter.row c.loop-letter.column i.filling i.cell
    c.in-Nobody.ensures in
    subst (HasInnerCorner c.loop-letter.row) i.outer s.corner

pub returns-in-Nobody-clause-cell : goal.returns-in-Nobody-clause-cell
returns-in-Nobody-clause-cell c =
    let i = c.loop-letter.invariant in
    let s = stops c.loop-letter.filled c.loop-letter.row c.loop-letter.column i.filling i.cell
    c.in-Nobody.ensures in
    omega (
      arith,
      s.cell,
      ap (λ w. part w c.loop-letter.row) i.outer,
      ap (λ w. part w c.loop-letter.row) i.inner,
    )

pub returns-in-Nobody-clause-rows : goal.returns-in-Nobody-clause-rows
returns-in-Nobody-clause-rows c =
    let i = c.loop-letter.invariant in
    let s = stops c.loop-letter.filled c.loop-letter.row c.loop-letter.column i.filling i.cell
    c.in-Nobody.ensures in
    i.rows ∙ s.rows
