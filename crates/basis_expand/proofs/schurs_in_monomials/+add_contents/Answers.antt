use Rattle.std.proofs.Common.{◌≡◌, ◌≤◌, ◌++◌, ◌∷◌, [], ◌+◌, ◌-◌, subst, ap, ◌∙◌, arith, Err}
use Rattle.std.proofs.Common.{append-nil}
use Rattle.partitions.specs.Limits.{IsWithinLimits}
use Rattle.linear_combinations.proofs.Steps.{error_is}
use Rattle.sparse_polys.proofs.WholeLists.{label-partition}
use Rattle.basis_expand.specs.Contents.{CountsContents}
use Rattle.basis_expand.proofs.StripTables.{leads-next, large-lead}
use Rattle.basis_expand.proofs.ContentCounts.{counts-missed, counts-step, counts-all}
use Rattle.basis_expand.proofs.ContentCounts.{limits-longer, fresh-longer}
use Rattle.basis_expand.proofs.schurs_in_monomials.+add_contents.Goals as goal
use Rattle.std.proofs.lemmas.List.{nil_from_length}

pub add_content-requires-clause-limits : goal.add_content-requires-clause-limits
add_content-requires-clause-limits t c = subst IsWithinLimits (append-nil c.args.chosen.now)
    (c.requires.limits [] tt)

pub returns-in_err-next-clause-large : goal.returns-in_err-next-clause-large
returns-in_err-next-clause-large t c = λ large start content leads.
    large-lead start content c.loop-part.part c.args.terms.now
    (label-partition c.args.terms.now c.loop-part.invariant.terms) leads
    (c.in_err-next.ensures.large
    (ap Err (error_is _ _ _ c.from_residual-in_err-next.ensures.1 large)))

pub loop-part-preserved-then-is_empty : goal.loop-part-preserved-then-is_empty
loop-part-preserved-then-is_empty t c =
    let part = c.loop-part.part in
    let inv = c.loop-part.invariant in
    let same : part ≡ part + 1 - 1 = omega arith in
    let none = nil_from_length c.in_ok-next.next (c.is_empty.ensures.0 c.if-is_empty.true) in
    record {
      counted =
          subst (λ k. CountsContents c.args.terms.now c.args.chosen.now k c.args.left
          c.args.list.now c.loop-part.list) same
          (counts-missed c.args.terms.now c.in_ok-next.next c.args.chosen.now part c.args.left
          c.args.list.now c.loop-part.list
          c.loop-part.auto.part none c.in_ok-next.ensures.value c.requires.fresh inv.counted);
      terms = inv.terms;
      table = inv.table;
    }

pub add_contents-requires : goal.add_contents-requires
add_contents-requires t c =
    let part = c.loop-part.part in
    let longer = c.deref.ensures.value ∙ c.in_ok-longer.ensures in
    let from = c.loop-part.auto.part in
    let within = c.loop-part-test.true in
    let most = c.min-part-end.ensures in
    let low = c.requires.low in (
      omega arith,
      (
        limits-longer c.args.chosen.now c.deref.result.now part c.args.largest c.args.left longer
            from (omega arith) (omega arith) c.requires.limits,
        (
          omega arith,
          (
            fresh-longer c.args.terms.now c.args.chosen.now c.deref.result.now part c.args.left
                c.args.list.now c.loop-part.list
                longer from c.requires.fresh c.loop-part.invariant.counted,
            c.loop-part.invariant.table,
          ),
        ),
      ),
    )

pub returns-in_err-add_contents-clause-large : goal.returns-in_err-add_contents-clause-large
returns-in_err-add_contents-clause-large t c = λ large start content leads.
    c.in_err-add_contents.ensures.large
    (ap Err (error_is _ _ _ c.from_residual-in_err-add_contents.ensures.1 large)) start
    (content ++ c.loop-part.part ∷ [])
    (leads-next start content c.loop-part.part c.args.terms.now c.in_ok-next.next leads
    c.in_ok-next.ensures.table c.in_ok-next.ensures.value)

pub loop-part-preserved : goal.loop-part-preserved
loop-part-preserved t c =
    let part = c.loop-part.part in
    let same : part ≡ part + 1 - 1 = omega arith in
    let low : part ≤ c.args.left = omega (arith, c.loop-part-test.true, c.min-part-end.ensures) in
    record {
      counted =
          subst (λ k. CountsContents c.args.terms.now c.args.chosen.now k c.args.left
          c.args.list.now c.add_contents.new.list) same
          (counts-step c.args.terms.now c.in_ok-next.next c.args.chosen.now c.deref.result.now part
          c.args.left
          c.args.list.now c.loop-part.list c.add_contents.new.list
          (c.deref.ensures.value ∙ c.in_ok-longer.ensures)
          c.loop-part.auto.part low c.in_ok-next.ensures.value c.loop-part.invariant.counted
          c.in_ok-add_contents.ensures.counted);
      terms = c.loop-part.invariant.terms;
      table = c.in_ok-add_contents.ensures.table;
    }

pub returns-clause-counted : goal.returns-clause-counted
returns-clause-counted t c =
    counts-all c.args.terms.now c.args.chosen.now (c.loop-part.part - 1) c.args.largest c.args.left
    c.args.list.now c.loop-part.list
    (omega (arith, c.loop-part-test.false, c.min-part-end.ensures, c.loop-part.auto.part-end))
    c.loop-part.invariant.counted
