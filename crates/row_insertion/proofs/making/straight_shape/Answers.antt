use Rattle.std.proofs.Common.{◌≡◌, ◌<◌, [], ◌∷◌, ◌++◌, length, ◌∙◌, ap, sym, subst, arith}
use Rattle.std.proofs.lemmas.List.{take_all}
use Rattle.sym_model.specs.Tableau.{shape_of}
use Rattle.partitions.specs.Limits.{IsWithinLimits}
use Rattle.row_insertion.specs.RowLists.{rows_in}
use Rattle.row_insertion.proofs.MadeTableaux.{row_within, part_more, shape_within, length-shape}
use Rattle.row_insertion.proofs.making.straight_shape.Goals as goal

pub overflow_cast-len : goal.overflow_cast-len
overflow_cast-len c =
    let within : c.loop-row.row-index < length c.args.rows.now = omega arith in
    omega (
      arith,
      row_within c.args.rows.now c.loop-row.row-index c.row-item.result within
          c.row-item.is,
      c.requires.few,
    )

pub loop-row-preserved : goal.loop-row-preserved
loop-row-preserved c =
    let within : c.loop-row.row-index < length c.args.rows.now = omega arith in
    let count : c.len.result ≡ length c.row-item.result.items = omega arith in
    part_more c.args.rows.now c.loop-row.row-index c.row-item.result c.loop-row.parts.items
    c.push.new.self.items within c.row-item.is
    c.loop-row.invariant (c.in_ok-push.ensures.items ∙ ap (λ n. c.loop-row.parts.items ++ n ∷ [])
    count)

pub from_valid_parts-requires : goal.from_valid_parts-requires
from_valid_parts-requires c =
    let all : c.loop-row.parts.items ≡ shape_of (rows_in c.args.rows.now) =
    c.loop-row.invariant ∙ take_all c.loop-row.row-index (shape_of (rows_in c.args.rows.now))
    (omega (arith, length-shape c.args.rows.now)) in
    subst IsWithinLimits (sym (c.deref.ensures.value ∙ all)) (shape_within
    (rows_in c.args.rows.now) c.requires.tableau c.requires.few)
