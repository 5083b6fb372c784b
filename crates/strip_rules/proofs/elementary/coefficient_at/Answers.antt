use Rattle.std.proofs.Common.{◌≡◌, ℕ, suc, ◌+◌, ◌<◌, List, length, get_or, rules}
use Rattle.std.proofs.Common.{sym, ◌∙◌, ap, ap₂, subst, arith}
use Rattle.strip_rules.proofs.ColumnRows.{IsRow, IsCounted, so_far, counted-none}
use Rattle.strip_rules.proofs.ColumnRows.{fraction, row_raised, row_kept, next_shorter, next_same}
use Rattle.strip_rules.proofs.ColumnRows.{rises, at_end}
use Rattle.strip_rules.proofs.elementary.coefficient_at.Goals.{then-number_at-row+in_ok-count}
use Rattle.strip_rules.proofs.elementary.coefficient_at.Goals.{else-number_at-row, then-number_at-row-2}
use Rattle.strip_rules.proofs.elementary.coefficient_at.Goals.{else-number_at-row-2}
use Rattle.strip_rules.proofs.elementary.coefficient_at.Goals as goal

pub loop-at-init : goal.loop-at-init
loop-at-init c = counted-none c.args.inner.now c.args.outer.now

pub loop-at-preserved : goal.loop-at-preserved
loop-at-preserved c =
    let μ = c.args.inner.now in
    let ν = c.args.outer.now in
    let inv = c.loop-at.invariant in
    let p = c.parts-shorter.ensures.limits.partition in
    let q = c.parts-rows.ensures.limits.partition in
    let row = ap (λ (l : List ℕ). get_or l c.loop-at.at 0) c.parts-rows.ensures.value in
    let inner = c.number_at.ensures
    ∙ ap (λ (l : List ℕ). get_or l c.loop-at.at 0) c.parts-shorter.ensures.value in
    let on : suc c.loop-at.at ≡ c.loop-at.at + 1 = omega arith in
    let next = c.number_at-in-loop-at.ensures
    ∙ ap₂ (λ (l : List ℕ) (i : ℕ). get_or l i 0) c.parts-rows.ensures.value (sym on) in
    let more : c.loop-at.at < length c.args.outer.now = omega (
      arith,
      c.loop-at-test.true,
      ap length c.parts-rows.ensures.value,
    ) in
    let here : IsRow c.args.inner.now c.args.outer.now c.loop-at.at c.if-number_at-row.count
    (c.loop-at.run + 1) c.if-number_at-row.longer =
    elim c.if-number_at-row.branch [
      | then-number_at-row+in_ok-count w ↦
          let e = fraction μ ν p q c.requires c.loop-at.at c.loop-at.count c.loop-at.run
          c.loop-at.longer inv (omega (arith, row, inner, w.if-number_at-row.true)) in
          let is = w.in_ok-count.ensures (so_far μ ν (suc c.loop-at.at)) e in
          rw (w.count-is, w.longer-is)
          (row_raised μ ν p q c.requires c.loop-at.at c.loop-at.count c.loop-at.run c.loop-at.longer
          w.in_ok-count.count inv (omega (arith, row, inner, w.if-number_at-row.true)) is.1)
      | else-number_at-row w ↦
          rw (w.count-is, w.longer-is)
          (row_kept μ ν p q c.requires c.loop-at.at c.loop-at.count c.loop-at.run c.loop-at.longer
          inv more (omega (arith, row, inner, w.if-number_at-row.false)))
    ] in
    subst (λ i. IsCounted c.args.inner.now c.args.outer.now i c.if-number_at-row.count
    c.if-number_at-row-2.run c.if-number_at-row-2.longer) on (elim c.if-number_at-row-2.branch [
      | then-number_at-row-2 w ↦
          rw (w.run-is, w.longer-is)
          (next_shorter μ ν p q c.requires c.loop-at.at c.if-number_at-row.count (c.loop-at.run + 1)
          c.if-number_at-row.longer here (omega (arith, row, next, w.if-number_at-row-2.true)))
      | else-number_at-row-2 w ↦
          rw (w.run-is, w.longer-is)
          (next_same μ ν p q c.requires c.loop-at.at c.if-number_at-row.count (c.loop-at.run + 1)
          c.if-number_at-row.longer here (omega (arith, row, next, w.if-number_at-row-2.false)))
    ])

pub returns-in_err-count : goal.returns-in_err-count
returns-in_err-count c = λ k e.
    let μ = c.args.inner.now in
    let ν = c.args.outer.now in
    let inv = c.loop-at.invariant in
    let p = c.parts-shorter.ensures.limits.partition in
    let q = c.parts-rows.ensures.limits.partition in
    let row = ap (λ (l : List ℕ). get_or l c.loop-at.at 0) c.parts-rows.ensures.value in
    let inner = c.number_at.ensures
    ∙ ap (λ (l : List ℕ). get_or l c.loop-at.at 0) c.parts-shorter.ensures.value in
    let more : c.loop-at.at < length c.args.outer.now = omega (
      arith,
      c.loop-at-test.true,
      ap length c.parts-rows.ensures.value,
    ) in
    let f = fraction μ ν p q c.requires c.loop-at.at c.loop-at.count c.loop-at.run c.loop-at.longer
    inv (omega (arith, row, inner, c.if-number_at-row.true)) in
    let large = c.in_err-count.ensures (so_far c.args.inner.now c.args.outer.now (suc c.loop-at.at))
    f in
    let r = rises μ ν p q c.requires (suc c.loop-at.at) (length c.args.outer.now)
    (omega (arith, more)) (omega arith) in
    let a = at_end μ ν p q c.requires k e in
    rw c.from_residual.ensures (omega (arith, large, r, a))

pub returns : goal.returns
returns c = search (rules, so_far, at_end)
