use Rattle.std.proofs.Common.{◌≡◌, ◌+◌, length, ◌∙◌, ap, sym, refl, arith}
use Rattle.sym_model.specs.Growth.{growth_shape}
use Rattle.sym_model.specs.Insertion.{insertion_pair}
use Rattle.sym_model.specs.Tableau.{shape_of}
use Rattle.growth_diagrams.proofs.GrowthPairs.{perm_from, shape-line}
use Rattle.row_insertion.specs.RowLists.{rows_in}
use Rattle.row_insertion.proofs.GrowingRows.{length-rows_in}
use Rattle.growth_diagrams.proofs.Chains.{chain-more, row_there}
use Rattle.growth_diagrams.proofs.StandardPairs.{line_read, line_standard}
use Rattle.growth_diagrams.proofs.edges.line_tableau.Goals as goal

pub push_at-requires : goal.push_at-requires
push_at-requires c =
    let w = c.args.grid.now in
    let rows = rows_in c.loop-at.rows.items in
    let l = c.side-side.ensures.limits in
    let shape : shape_of (rows_in c.loop-at.rows.items) ≡ c.shape_at-in-loop-at.result.now =
    ap shape_of c.loop-at.invariant
    ∙ shape-line w (perm_from w l.kept.one_line) c.loop-at.at
    (omega (arith, c.side-side.ensures.value, c.loop-at-test.true))
    ∙ ap (λ n. growth_shape w n c.loop-at.at) (sym c.side-side.ensures.value)
    ∙ sym c.shape_at-in-loop-at.ensures.shape in
    omega (
      arith,
      row_there rows c.shape_at.result.now c.shape_at-in-loop-at.result.now c.from.result
          (length rows) shape
          (c.from.ensures ∙ c.first_longer-row.ensures.row) refl,
      length-rows_in c.loop-at.rows.items,
    )

pub loop-at-preserved : goal.loop-at-preserved
loop-at-preserved c =
    let w = c.args.grid.now in
    let side = c.side-side.ensures.value in
    chain-more (λ k. growth_shape w (length w) k) c.loop-at.at c.from.result
    (rows_in c.loop-at.rows.items)
    (rows_in c.push_at.new.rows.items) c.shape_at.result.now c.shape_at-in-loop-at.result.now
    c.loop-at.invariant
    (c.shape_at.ensures.shape ∙ ap (λ n. growth_shape w n (c.loop-at.at + 1)) side)
    (c.shape_at-in-loop-at.ensures.shape ∙ ap (λ n. growth_shape w n c.loop-at.at) side)
    (c.from.ensures ∙ c.first_longer-row.ensures.row) c.in_ok-push_at.ensures

read : (c : goal.After-deref) → rows_in c.deref.result.now ≡ (insertion_pair c.args.grid.now).0
read c =
    ap rows_in c.deref.ensures.value
    ∙ line_read c.args.grid.now c.loop-at.at (rows_in c.loop-at.rows.items)
    c.side-side.ensures.limits
    (omega (arith, c.side-side.ensures.value, c.loop-at-test.false)) c.loop-at.invariant

pub standard_of-requires-clause-standard : goal.standard_of-requires-clause-standard
standard_of-requires-clause-standard c =
    (line_standard c.args.grid.now (rows_in c.deref.result.now) c.side-side.ensures.limits
    (read c)).standard

pub standard_of-requires-clause-tableau : goal.standard_of-requires-clause-tableau
standard_of-requires-clause-tableau c = (line_standard c.args.grid.now (rows_in c.deref.result.now)
    c.side-side.ensures.limits (read c)).tableau

pub standard_of-requires-clause-few : goal.standard_of-requires-clause-few
standard_of-requires-clause-few c =
    (line_standard c.args.grid.now (rows_in c.deref.result.now) c.side-side.ensures.limits
    (read c)).few

pub returns : goal.returns
returns c =
    let e : rows_in c.deref.result.now ≡ (insertion_pair c.args.grid.now).0 =
    ap rows_in c.deref.ensures.value
    ∙ line_read c.args.grid.now c.loop-at.at (rows_in c.loop-at.rows.items)
    c.side-side.ensures.limits
    (omega (arith, c.side-side.ensures.value, c.loop-at-test.false)) c.loop-at.invariant in
    rw e at c.standard_of.ensures
