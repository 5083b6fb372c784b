use Rattle.std.proofs.Common.{[], subst, sym, ◌∙◌, inl, rules}
use Rattle.std.proofs.Common.{refl, append-nil}
use Rattle.std.proofs.lemmas.List.{take_at}
use Rattle.sym_model.specs.Sum.{Among}
use Rattle.partitions.specs.Limits.{IsWithinLimits}
use Rattle.skew_shapes.proofs.StripLists.{last_empty, last_row}
use Rattle.skew_shapes.proofs.horizontal_strips.add_last.Goals as goal

pub from_valid_parts-requires : goal.from_valid_parts-requires
from_valid_parts-requires c =
    subst IsWithinLimits (append-nil c.args.above.now.items ∙ sym c.deref.ensures.value)
    (c.requires [] (subst (λ l. Among [] l) (sym (last_empty c.args.left c.if-left-eq0.true))
    (inl refl)))

pub returns-then-left-eq0 : goal.returns-then-left-eq0
returns-then-left-eq0 c = search (rules, append-nil, last_empty)

pub returns : goal.returns
returns c = search (rules, take_at, last_row)
