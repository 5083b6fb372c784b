use Rattle.std.proofs.Common.{◌≡◌, ◌+◌, nat_lt, refl, ◌∙◌, ap, ap₂, arith, rules}
use Rattle.std.specs.Prelude.{slice_index}
use Rattle.sym_model.specs.Partition.{Falls, after, part, rows}
use Rattle.expansion_printer.specs.ReadingPlaces.{before_in_row}
use Rattle.expansion_printer.proofs.ReadingCells.{cells_in_rows, cells_in_rows-more, letter-is}
use Rattle.expansion_printer.proofs.reading.place_of.Goals as goal

pub loop-at-init : goal.loop-at-init
loop-at-init c = record { counted = refl; few = omega arith }

pub loop-at-preserved : goal.loop-at-preserved
loop-at-preserved c =
    let outer = c.args.shape.now.0 in
    let inner = c.args.shape.now.1 in
    let row = c.args.row in
    let column = c.args.column in
    let at = c.loop-at.at in
    let left : c.part-left.result ≡ part inner (at + 1) = cc in
    let right : c.part-right.result ≡ part outer (at + 1) = cc in
    record {
      counted = ap₂ ◌+◌ c.loop-at.invariant.counted
          (c.from-before.ensures ∙ c.cells_before.ensures
          ∙ ap₂ (λ a b. before_in_row a b column (nat_lt (at + 1) row)) left right)
          ∙ cells_in_rows-more outer inner row column at;
      few = omega (arith, c.loop-at.invariant.few, c.from-before.ensures, c.cells_before.type_inv);
    }

pub returns : goal.returns
returns c = λ w.
    let outer = c.args.shape.now.0 in
    let count : c.rows-at-end.result ≡ rows outer = cc in
    let all : c.loop-at.at ≡ rows outer = omega arith in
    let falls : Falls outer = search rules in
    ap (slice_index w) (c.loop-at.invariant.counted
    ∙ ap (λ k. cells_in_rows outer c.args.shape.now.1 c.args.row c.args.column (after 0 k)) all)
    ∙ letter-is outer c.args.shape.now.1 c.args.row c.args.column falls c.requires w
