use Rattle.std.proofs.Common.{◌≡◌, ℕ, ◌+◌, ◌-◌, ◌<◌, nat_lt, List, length, drop, get_or, sym, ap, ap₂, subst, ◌∙◌, arith, rules}
use Rattle.std.specs.Prelude.{IfSome}
use Rattle.sym_model.specs.Partition.{size}
use Rattle.lr_product.specs.WeighedSum.{weighed, unreached, VanishesOutside}
use Rattle.lr_product.specs.Capped.{Agree}
use Rattle.lr_product.specs.StateCounts.{StateCounts}
use Rattle.lr_product.proofs.Reaching.{weighed-weaker}
use Rattle.lr_product.specs.RowExtension.{next_row, over_rows, cell_count, VanishesBelow}
use Rattle.lr_product.proofs.RowPruning.{cells_front}
use Rattle.lr_product.proofs.RowRounds.{row_room, row_reached, row_counts}
use Rattle.lr_product.proofs.rows.with_rows.Goals as goal

pub with_row-requires-clause-cells : goal.with_row-requires-clause-cells
with_row-requires-clause-cells c =
    let row = c.loop-row.row in
    let within : row < length c.args.outer.now = omega (
      arith,
      c.loop-row-test.true,
      c.requires.rows,
    ) in
    let room = row_room c.args.letters row c.args.outer.now c.args.inner.now
    c.loop-row.table.entries within c.requires.inside c.requires.size c.loop-row.invariant.reached
    in
    let cells = room.cells in
    let a = ap (λ p. get_or p row 0) c.parts-parts.ensures.value in
    omega (arith, c.part_at-outside.ensures)

pub with_row-requires-clause-short : goal.with_row-requires-clause-short
with_row-requires-clause-short c =
    let row = c.loop-row.row in
    let within : row < length c.args.outer.now = omega (
      arith,
      c.loop-row-test.true,
      c.requires.rows,
    ) in
    let room = row_room c.args.letters row c.args.outer.now c.args.inner.now
    c.loop-row.table.entries within c.requires.inside c.requires.size c.loop-row.invariant.reached
    in
    let short = room.short in
    let a = ap (λ p. get_or p row 0) c.parts-parts.ensures.value in
    omega arith

pub with_row-requires-clause-reached : goal.with_row-requires-clause-reached
with_row-requires-clause-reached c =
    let row = c.loop-row.row in
    let n = c.args.letters in
    let within : row < length c.args.outer.now = omega (
      arith,
      c.loop-row-test.true,
      c.requires.rows,
    ) in
    let room = row_room n row c.args.outer.now c.args.inner.now
    c.loop-row.table.entries within c.requires.inside c.requires.size c.loop-row.invariant.reached
    in
    ap₂ (λ x y. weighed n (unreached n (4096 - (x - y))) c.loop-row.table.entries)
    (ap (λ p. get_or p row 0) c.parts-parts.ensures.value) c.part_at-outside.ensures
    ∙ room.reached

pub loop-row-preserved : goal.loop-row-preserved
loop-row-preserved c =
    let row = c.loop-row.row in
    let n = c.args.letters in
    let outer = c.args.outer.now in
    let inner = c.args.inner.now in
    let new = c.in-Some.next.entries in
    let within : row < length outer = omega (
      arith,
      c.loop-row-test.true,
      c.requires.rows,
    ) in
    let a : get_or c.parts-parts.result.now row 0 ≡ get_or outer row 0 =
    ap (λ p. get_or p row 0) c.parts-parts.ensures.value in
    let front = cells_front row outer inner within in
    let fewer : c.saturating_sub-later.result ≡ cell_count (drop (row + 1) outer)
    (drop (row + 1) inner) =
    omega (
      arith,
      c.saturating_sub-later.ensures,
      c.saturating_sub.ensures,
      c.part_at-outside.ensures,
      c.loop-row.invariant.later,
    ) in
    record {
      counts = row_counts n row outer inner c.args.bound.now c.args.starts.entries
          c.loop-row.table.entries new (get_or c.parts-parts.result.now row 0)
          c.part_at-outside.result c.saturating_sub-later.result (nat_lt (row + 1) (length c.parts-parts.result.now)) within
          c.requires.bound a c.part_at-outside.ensures
          (ap (λ p. nat_lt (row + 1) (length p)) c.parts-parts.ensures.value) fewer
          c.loop-row.invariant.counts
          (subst (λ o. IfSome o (λ (next : StateCounts). (f : List ℕ → List ℕ → ℕ)
          → VanishesOutside c.args.bound.now f
          → VanishesBelow n c.saturating_sub-later.result c.args.bound.now f
          → Agree (weighed n f next.entries)
          (weighed n (next_row n (nat_lt (row + 1) (length c.parts-parts.result.now))
          c.part_at-outside.result (get_or c.parts-parts.result.now row 0) f)
          c.loop-row.table.entries))) c.in-Some.is c.in_ok-next.ensures.counts);
      reached = row_reached n row outer inner new within c.requires.size
          (ap₂ (λ x y. weighed n (unreached n (4096 - size (drop row outer) + (x - y))) new)
          (sym a) (sym c.part_at-outside.ensures)
          ∙ subst (λ o. IfSome o (λ (next : StateCounts). (m : ℕ)
          → weighed n (unreached n m) c.loop-row.table.entries ≡ 0
          → weighed n (unreached n (m + (get_or c.parts-parts.result.now row 0
          - c.part_at-outside.result))) next.entries ≡ 0)) c.in-Some.is c.in_ok-next.ensures.reached
          (4096 - size (drop row outer)) c.loop-row.invariant.reached);
      later = fewer;
    }

pub returns-clause-ways : goal.returns-clause-ways
returns-clause-ways c f v b =
    let n = c.args.letters in
    let outer = c.args.outer.now in
    let inner = c.args.inner.now in
    let all : c.loop-row.row ≡ c.args.rows = omega (arith, c.loop-row-test.false, c.loop-row.auto.row-end) in
    subst (λ r. Agree (weighed n (over_rows n (drop r outer) (drop r inner) (λ ν right. f ν))
    c.loop-row.table.entries) (weighed n (over_rows n outer inner (λ ν right. f ν))
    c.args.starts.entries)) all (c.loop-row.invariant.counts f v b)

pub returns-clause-reached : goal.returns-clause-reached
returns-clause-reached c = search (rules, weighed-weaker)
