use Rattle.std.proofs.Common.{◌≡◌, ◌==◌, ℕ, Vec, length, vec_len, ◌∙◌, ap, sym, arith}
use Rattle.std.specs.declared.alloc.Global.{Global}
use Rattle.std.proofs.lemmas.List.{get_or-set_same}
use Rattle.insertion_laws.specs.Removal.{without_last}
use Rattle.row_insertion.proofs.GrowingRows.{row_now}
use Rattle.row_insertion.specs.RowLists.{rows_in}
use Rattle.row_insertion.proofs.ShrinkingRows.{shorter_row, no_row}
use Rattle.row_insertion.proofs.shrinking.take_last.Goals as goal
use Rattle.sym_model.proofs.Lists.{no_items, some_items}

pub returns-then-is_empty-clause-rows : goal.returns-then-is_empty-clause-rows
returns-then-is_empty-clause-rows c =
    let kept = c.pop_last-last.ensures.row
    ∙ ap without_last (sym (row_now c.args.rows.now.items c.args.at c.index_mut.result.now
    c.requires c.index_mut.ensures.value)) in
    let now = c.index.ensures ∙ get_or-set_same c.args.rows.now.items c.args.at
    c.pop_last-last.new.row c.index.result.now c.requires in
    let count : vec_len c.pop_last-last.new.row ≡ length c.pop_last-last.new.row.items =
    omega arith in
    let none = no_items c.pop_last-last.new.row.items (ap (λ n. n == 0) (sym count) ∙ ap (λ (v : Vec ℕ Global). vec_len v == 0) (sym now)
    ∙ sym c.is_empty.ensures ∙ c.if-is_empty.true) in
    ap rows_in c.remove.ensures.items ∙ no_row c.args.rows.now.items c.args.at
    c.pop_last-last.new.row c.requires kept none

pub returns-else-is_empty-clause-rows : goal.returns-else-is_empty-clause-rows
returns-else-is_empty-clause-rows c =
    let kept = c.pop_last-last.ensures.row
    ∙ ap without_last (sym (row_now c.args.rows.now.items c.args.at c.index_mut.result.now
    c.requires c.index_mut.ensures.value)) in
    let now = c.index.ensures ∙ get_or-set_same c.args.rows.now.items c.args.at
    c.pop_last-last.new.row c.index.result.now c.requires in
    let count : vec_len c.pop_last-last.new.row ≡ length c.pop_last-last.new.row.items =
    omega arith in
    let some = some_items c.pop_last-last.new.row.items (ap (λ n. n == 0) (sym count) ∙ ap (λ (v : Vec ℕ Global). vec_len v == 0) (sym now)
    ∙ sym c.is_empty.ensures ∙ c.if-is_empty.false) in
    shorter_row c.args.rows.now.items c.args.at c.pop_last-last.new.row c.requires kept some
