use Rattle.std.proofs.Common.{ℕ, ℤ, List, ◌+◌, ◌≤◌, ap, sym, subst, inl, inr, arith}
use Rattle.std.specs.Cmp.Lexicographic.{nat_list_eq_equiv}
use Rattle.sym_model.specs.Partition.{size, rows}
use Rattle.linear_combinations.specs.Gains.{HaveLabels}
use Rattle.linear_combinations.proofs.Labels.{same_partition}
use Rattle.linear_combinations.proofs.Masses.{labels_gained}
use Rattle.library_rows.proofs.strips.one_cell.Goals as goal

-- the label has at most 4,094 cells and at most 510 rows, so that two more cells can be added
abbrev Fits : List ℕ → Type 0
Fits label = (size label + 2 ≤ 4096) × (rows label + 2 ≤ 512)

pub returns : goal.returns
returns c t m =
    let one = subst Fits (sym c.in_ok-from_parts.ensures.ok) (omega arith, omega arith) in
    labels_gained nat_list_eq_equiv same_partition _ _ c.add_at_label.new.self
    c.in_ok-add_at_label.ensures.table c.in_ok-add_at_label.ensures.gains Fits
    (subst (HaveLabels Fits) (sym c.new-list.ensures) (λ u n. absurd n))
    (λ u n. elim n [
      | inl e ↦ subst Fits (sym (ap (λ (x : List ℕ × ℤ). x.0) e)) one
      | inr x ↦
          absurd x
    ]) t m
