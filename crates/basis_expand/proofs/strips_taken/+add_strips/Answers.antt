use Rattle.std.proofs.Common.{◌≤◌, ◌++◌, ◌∷◌, [], ◌+◌, ◌-◌, ℕ, List, get_or, take, drop, rules}
use Rattle.std.proofs.Common.{length, subst, sym, ap, ◌∙◌, arith, rules}
use Rattle.sym_model.specs.Partition.{IsPartition}
use Rattle.sym_model.proofs.Parts.{split_first, size-append}
use Rattle.schur_laws.proofs.KostkaNumbers.{partition_tail}
use Rattle.basis_expand.specs.Strips.{AreRows}
use Rattle.basis_expand.proofs.StripLists.{limits-rows, rows-end, rows-lower, strips-none}
use Rattle.basis_expand.proofs.StripLists.{strips-next, strips-all, row_off}
use Rattle.basis_expand.proofs.strips_taken.+add_strips.Goals as goal

pub from_valid_numbers-requires : goal.from_valid_numbers-requires
from_valid_numbers-requires t c = search (rules, limits-rows, rows-end)

pub overflow_add-cells-end : goal.overflow_add-cells-end
overflow_add-cells-end t c = search (rules, split_first, size-append)

pub loop-cells-init : goal.loop-cells-init
loop-cells-init t c = search (rules, split_first, strips-none, partition_tail)

pub add_strips-requires : goal.add_strips-requires
add_strips-requires t c =
    let row = get_or c.args.rows.now 0 0 in
    let rest = take (length c.args.rows.now - 1) (drop 1 c.args.rows.now) in
    let above = c.args.above.now.items in
    let split = split_first c.args.rows.now c.in-len1-up.len_at_least in
    let shorter = ap length split in
    let p = subst IsPartition (sym split) c.requires.shape in
    let tail = partition_tail row rest p in
    let next = c.first_row-next.ensures in
    let start = c.saturating_sub-cells.ensures in
    let most = c.min-cells-end.ensures in
    let within = c.loop-cells-test.true in
    let from = c.loop-cells.auto.cells in
    let first = tail.1 in
    let longer = c.in_ok-push-2.ensures.items ∙ ap (λ (l : List ℕ). l ++ (row - c.loop-cells.cells)
    ∷ []) c.loop-cells.invariant.same in (
      omega arith,
      (
        tail.0,
        (
          subst (λ (l : List ℕ). AreRows (l ++ rest)) (sym longer)
              (rows-lower above rest row (row - c.loop-cells.cells) p
              (subst (λ (l : List ℕ). AreRows (above ++ l)) (sym split) c.requires.rows)
              (omega arith) (omega arith)),
          omega arith,
        ),
      ),
    )

pub loop-cells-preserved : goal.loop-cells-preserved
loop-cells-preserved t c =
    let row = get_or c.args.rows.now 0 0 in
    let rest = take (length c.args.rows.now - 1) (drop 1 c.args.rows.now) in
    let above = c.args.above.now.items in
    let longer = c.in_ok-push-2.ensures.items ∙ ap (λ (l : List ℕ). l ++ (row - c.loop-cells.cells)
    ∷ []) c.loop-cells.invariant.same in
    record {
      same =
          row_off above c.push-in-loop-cells.new.self.items c.add_strips.new.above.items
          c.pop.new.self.items (row - c.loop-cells.cells) _ longer
          c.in_ok-add_strips.ensures.same (omega arith) c.pop.ensures.rest;
      listed =
          strips-next c.args.k row c.loop-cells.cells rest above c.push-in-loop-cells.new.self.items
          c.args.shapes.now.items c.loop-cells.shapes.items c.add_strips.new.shapes.items
          longer c.loop-cells.invariant.listed c.in_ok-add_strips.ensures.shapes;
    }

pub returns-clause-same : goal.returns-clause-same
returns-clause-same t c = c.loop-cells.invariant.same

pub returns-clause-shapes : goal.returns-clause-shapes
returns-clause-shapes t c =
    let row = get_or c.args.rows.now 0 0 in
    let rest = take (length c.args.rows.now - 1) (drop 1 c.args.rows.now) in
    let split = split_first c.args.rows.now c.in-len1-up.len_at_least in
    let next = c.first_row-next.ensures in
    let start = c.saturating_sub-cells.ensures in
    let most = c.min-cells-end.ensures in
    let few : c.args.k ≤ row = c.requires.few in
    let order : c.saturating_sub-cells.result ≤ c.min-cells-end.result + 1 = omega arith in
    let end = c.loop-cells.auto.cells-end order in
    strips-all c.args.k row c.loop-cells.cells rest c.args.rows.now c.args.above.now.items
    c.args.shapes.now.items c.loop-cells.shapes.items split
    (omega (arith, c.loop-cells-test.false)) c.loop-cells.invariant.listed
