use Rattle.std.proofs.Common.{◌≡◌, ◌≤◌, subst, sym, ap, ◌∙◌}
use Rattle.sym_model.specs.Partition.{size, columns}
use Rattle.sym_model.specs.Conjugate.{conjugate}
use Rattle.partitions.specs.Limits.{IsWithinLimits}
use Rattle.sym_model.proofs.Conjugates.{size-conjugate}
use Rattle.partitions.proofs.Conjugates.{IsWithinLimits-conjugate}
use Rattle.partitions.proofs.partition.Partition.conjugate.Goals as goal

pub invariant_of-result : goal.invariant_of-result
invariant_of-result c =
    let parts = c.self.inside.parts.items in
    let same : c.in_ok-column_lengths.field-0.items ≡ conjugate c.self.inside.parts.items =
    c.in_ok-column_lengths.ensures.ok ∙ ap conjugate (c.parts.ensures.value ∙ sym c.self.view_is) in
    let few : columns c.self.inside.parts.items ≤ 512 = subst (λ xs. columns xs ≤ 512)
    (sym c.self.view_is) c.requires in
    record {
      limits = subst IsWithinLimits (sym same)
          (IsWithinLimits-conjugate parts c.self.invariant.limits few);
      cells_are = c.self.invariant.cells_are ∙ sym (ap size same ∙ size-conjugate parts
          c.self.invariant.limits.partition.falls);
    }
