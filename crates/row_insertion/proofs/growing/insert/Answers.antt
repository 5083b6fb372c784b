use Rattle.std.proofs.Common.{◌≡◌, ◌∙◌, sym, subst, arith}
use Rattle.std.proofs.lemmas.List.{length-set}
use Rattle.row_insertion.specs.RowLists.{rows_in}
use Rattle.row_insertion.proofs.GrowingRows.{IsInserting, more_in, end_in, new_in}
use Rattle.row_insertion.proofs.growing.insert.Goals as goal

pub returns-in-None-clause-rows : goal.returns-in-None-clause-rows
returns-in-None-clause-rows c =
    let i = c.loop-at.invariant in
    (end_in (rows_in c.args.rows.now.items) c.args.letter c.loop-at.at c.loop-at.letter
    c.loop-at.rows.items c.index_mut.result.now c.put_in.new.row
    (omega (arith, i.0)) c.index_mut.ensures.value c.in_ok-bumped.ensures.row
    (sym c.in_ok-bumped.ensures.other ∙ c.in-None.is) i.1).0

pub returns-in-None-clause-row : goal.returns-in-None-clause-row
returns-in-None-clause-row c =
    let i = c.loop-at.invariant in
    (end_in (rows_in c.args.rows.now.items) c.args.letter c.loop-at.at c.loop-at.letter
    c.loop-at.rows.items c.index_mut.result.now c.put_in.new.row
    (omega (arith, i.0)) c.index_mut.ensures.value c.in_ok-bumped.ensures.row
    (sym c.in_ok-bumped.ensures.other ∙ c.in-None.is) i.1).1

pub loop-at-preserved : goal.loop-at-preserved
loop-at-preserved c =
    let i = c.loop-at.invariant in (
      length-set c.loop-at.rows.items c.loop-at.at c.put_in.new.row ∙ i.0,
      more_in (rows_in c.args.rows.now.items) c.args.letter c.loop-at.at c.loop-at.letter
          c.in-Some.bumped c.loop-at.rows.items c.index_mut.result.now c.put_in.new.row
          (omega (arith, i.0)) c.index_mut.ensures.value c.in_ok-bumped.ensures.row
          (sym c.in_ok-bumped.ensures.other ∙ c.in-Some.is) i.1,
    )

pub returns-clause-rows : goal.returns-clause-rows
returns-clause-rows c =
    let i = c.loop-at.invariant in
    let past : c.loop-at.at ≡ c.len-count.result = omega arith in
    let s = subst (λ n. IsInserting (rows_in c.args.rows.now.items) c.args.letter n
    (rows_in c.loop-at.rows.items) c.loop-at.letter) past i.1 in
    (new_in (rows_in c.args.rows.now.items) (rows_in c.push_at.new.rows.items) c.args.letter
    c.len-count.result c.loop-at.letter c.loop-at.rows.items
    (sym i.0) c.in_ok-push_at.ensures s).0

pub returns-clause-row : goal.returns-clause-row
returns-clause-row c =
    let i = c.loop-at.invariant in
    let past : c.loop-at.at ≡ c.len-count.result = omega arith in
    let s = subst (λ n. IsInserting (rows_in c.args.rows.now.items) c.args.letter n
    (rows_in c.loop-at.rows.items) c.loop-at.letter) past i.1 in
    (new_in (rows_in c.args.rows.now.items) (rows_in c.push_at.new.rows.items) c.args.letter
    c.len-count.result c.loop-at.letter c.loop-at.rows.items
    (sym i.0) c.in_ok-push_at.ensures s).1
