use Rattle.std.proofs.Common.{sym, ap, ◌∙◌}
use Rattle.std.specs.Prelude.{nat_eq}
use Rattle.std.specs.Cmp.Lexicographic.{pointwise}
use Rattle.sym_model.specs.Partition.{sorted_parts}
use Rattle.plain_programs.proofs.bases.sorts_to.Goals as goal
use Rattle.sym_model.proofs.Exponents.{pointwise-same}

pub returns : goal.returns
returns c =
    c.eq.ensures ∙ (ap (λ xs. pointwise nat_eq xs c.args.parts.now) (c.as_slice.ensures.value
    ∙ c.in_ok-sorted.ensures) ∙ sym (sym (pointwise-same (sorted_parts c.args.exponents.now) c.args.parts.now)))
