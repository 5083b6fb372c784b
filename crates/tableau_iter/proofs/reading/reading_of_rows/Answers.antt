use Rattle.std.proofs.Common.{◌++◌, ℕ, map, ap, ◌∙◌}
use Rattle.sym_model.specs.TableauList.{reading_cells}
use Rattle.tableau_iter.specs.ReadRows.{letter_in_rows}
use Rattle.tableau_iter.proofs.RowLengths.{rows_count, reading_in}
use Rattle.tableau_iter.proofs.reading.reading_of_rows.Goals as goal

pub push_columns-requires : goal.push_columns-requires
push_columns-requires c = rows_count (λ r. r.items) c.args.outer.now c.args.inner.now
    c.args.rows.now c.requires

pub returns : goal.returns
returns c =
    let rows = map (λ r. r.items) c.args.rows.now in
    c.in_ok-push_columns.ensures
    ∙ ap (λ xs. xs ++ map (λ (d : ℕ × ℕ). letter_in_rows c.args.inner.now
    (map (λ r. r.items) c.args.rows.now) d.0 d.1)
    (reading_cells c.args.outer.now c.args.inner.now)) c.new-letters.ensures.items
    ∙ reading_in c.args.outer.now c.args.inner.now rows c.requires
