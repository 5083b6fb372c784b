use Rattle.std.proofs.Common.{◌≤◌, ap, arith}
use Rattle.std.specs.Cmp.Lexicographic.{nat_list_eq_equiv}
use Rattle.sym_model.specs.Partition.{size}
use Rattle.linear_combinations.proofs.Labels.{same_partition}
use Rattle.library_rows.proofs.Labels.{only_has, sizes_bounded}
use Rattle.library_rows.proofs.products.one_cell.Goals as goal

pub returns : goal.returns
returns c =
    let one = ap size c.in_ok-from_parts.ensures.ok in
    sizes_bounded 1 _ (only_has nat_list_eq_equiv same_partition _ _ _ _ c.new-list.ensures
    c.in_ok-add_term.ensures.tables.before.combination c.in_ok-add_term.ensures.tables.after.combination
    c.in_ok-add_term.ensures.ok (λ e. size e ≤ 1) (omega arith))
