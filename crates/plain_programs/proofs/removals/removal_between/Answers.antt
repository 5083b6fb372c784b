use Rattle.std.proofs.Common.{◌≡◌, ◌+◌, ◌-◌, inl, inr, get_or, sym, ◌∙◌, ap, subst, take, arith}
use Rattle.sym_model.specs.Partition.{without_last_zeros}
use Rattle.plain_programs.specs.Removed.{left_part}
use Rattle.plain_programs.proofs.Removing.{Fits, IsLeft, removal_found, none_in_rows}
use Rattle.plain_programs.proofs.removals.removal_between.Goals as goal
use Rattle.plain_programs.proofs.removals.removal_between.Goals.{then-top-least-via-then-top-least}
use Rattle.plain_programs.proofs.removals.removal_between.Goals.{then-top-least-via-else-top-least+then-bound-top}

pub returns-then-top-least : goal.returns-then-top-least
returns-then-top-least c =
    none_in_rows c.args.n c.args.shape.now c.args.first c.args.last
    (elim c.then-top-least.branch [
      | then-top-least-via-then-top-least w ↦ inl (omega arith)
      | then-top-least-via-else-top-least+then-bound-top w ↦ inr (omega arith)
    ])

pub returns : goal.returns
returns c =
    let n = c.args.n in
    let shape = c.args.shape.now in
    let first = c.args.first in
    let last = c.args.last in
    let rest = get_or shape first 0 + (last - first) - n in
    let numbers = c.in_ok-left.left.items in
    let fits : Fits n shape first last rest = record {
      partition = c.requires.partition;
      ordered = c.requires.ordered;
      within = c.requires.within;
      cells = omega arith;
      end = omega arith;
      next = omega arith;
    } in
    let same : without_last_zeros numbers ≡ c.truncate.new.self.items =
    ap without_last_zeros (sym c.deref.ensures.value)
    ∙ sym c.count_up_to_last_positive-rows.ensures.kept
    ∙ ap (take c.count_up_to_last_positive-rows.result) c.deref.ensures.value
    ∙ sym c.truncate.ensures.items in
    let found = removal_found n shape numbers first last rest fits (λ i. c.in_ok-left.ensures i
    ∙ ap (λ r. left_part shape first last r i) (omega arith)) in
    let moved : IsLeft n shape c.truncate.new.self.items first last =
    subst (λ l. IsLeft n shape l first last) same found in
    (moved.removal, moved.height)
