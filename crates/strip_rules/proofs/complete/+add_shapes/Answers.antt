use Rattle.std.proofs.Common.{ℕ, List, [], ◌∷◌, ◌+◌, ◌-◌, ◌≤◌, ◌++◌, length, drop, take, rules}
use Rattle.std.proofs.Common.{sym, ap, ◌∙◌, subst, arith}
use Rattle.std.proofs.lemmas.List.{take_at}
use Rattle.sym_model.specs.Partition.{IsPartition, Falls, part, size}
use Rattle.partitions.specs.Limits.{IsWithinLimits}
use Rattle.strip_rules.specs.Rows.{AddsBelow, HasAdded}
use Rattle.strip_rules.proofs.AddedCells.{added-none, rows-none, rows-next, rows-all}
use Rattle.strip_rules.proofs.AddedCells.{limits_behind, fewer_left}
use Rattle.strip_rules.proofs.complete.+add_shapes.Goals as goal
use Rattle.sym_model.proofs.Parts.{size-first}
use Rattle.sym_model.proofs.SortedParts.{Falls_first, Falls_below, IsPartition_below}
use Rattle.std.proofs.lemmas.Result.{on_ok_weaker}

pub returns-then-left-eq0-clause-shapes : goal.returns-then-left-eq0-clause-shapes
returns-then-left-eq0-clause-shapes t c = search (rules, on_ok_weaker, added-none)

pub loop-row-init : goal.loop-row-init
loop-row-init t c = search (rules, rows-none)

pub add_shapes-requires : goal.add_shapes-requires
add_shapes-requires t c =
    let inner = c.args.inner.now in
    let row = c.loop-row.row in
    let above = c.args.above.now.items in
    let first = c.first_and_below-first.ensures.first in
    let below = c.first_and_below-first.ensures.below in
    let from = c.loop-row.auto.row in
    let within = c.loop-row-test.true in
    let start = c.max-row.ensures in
    let most = c.min-row-end.ensures in
    let some = c.if-left-eq0.false in
    let cells = size-first inner in
    let same = ap size below in
    let long = ap length below in
    let least : part inner 1 ≤ row = omega arith in
    let positive : 1 ≤ row = omega arith in
    let fewer = fewer_left c.args.left row inner (omega arith) positive least in
    let longer = c.in_ok-push.ensures.items ∙ ap (λ (l : List ℕ). l ++ (row ∷ []))
    c.loop-row.invariant.same in (
      omega arith,
      (
        subst IsPartition (sym below) (IsPartition_below inner c.requires.inner),
        (
          subst (λ (l : List ℕ). Falls (row ∷ l)) (sym below)
              (Falls_below row inner c.requires.inner least),
          (
            omega (arith, c.requires.cells),
            λ rest a.
                subst (λ (l : List ℕ). IsWithinLimits (l ++ rest)) (sym longer)
                (limits_behind c.args.most c.args.left row inner c.requires.inner least positive
                (omega arith) (omega arith) above rest c.requires.limits
                (subst (λ (n : ℕ). AddsBelow row (n + c.args.left - row) (drop 1 inner) rest) first
                (subst (λ (l : List ℕ).
                AddsBelow row (c.first_and_below-first.result.0 + c.args.left - row) l rest)
                below a))),
          ),
        ),
      ),
    )

pub loop-row-preserved : goal.loop-row-preserved
loop-row-preserved t c =
    let inner = c.args.inner.now in
    let row = c.loop-row.row in
    let above = c.args.above.now.items in
    let first = c.first_and_below-first.ensures.first in
    let below = c.first_and_below-first.ensures.below in
    let from = c.loop-row.auto.row in
    let within = c.loop-row-test.true in
    let start = c.max-row.ensures in
    let most = c.min-row-end.ensures in
    let longer = c.in_ok-push.ensures.items ∙ ap (λ (l : List ℕ). l ++ (row ∷ []))
    c.loop-row.invariant.same in
    record {
      same =
          c.truncate.ensures.items ∙ ap (take c.len-len.result) (c.in_ok-add_shapes.ensures.same
          ∙ longer)
          ∙ take_at above (row ∷ []) c.len-len.result (omega arith);
      added =
          rows-next c.args.most c.args.left row inner c.requires.inner (omega arith) (omega arith)
          (omega arith) (omega arith)
          above c.push.new.self.items c.args.shapes.now.items c.loop-row.shapes.items
          c.add_shapes.new.shapes.items longer c.loop-row.invariant.added
          (subst (λ (n : ℕ). HasAdded (AddsBelow row (n + c.args.left - row) (drop 1 inner))
          c.push.new.self.items c.loop-row.shapes.items c.add_shapes.new.shapes.items) first
          (subst (λ (l : List ℕ).
          HasAdded (AddsBelow row (c.first_and_below-first.result.0 + c.args.left - row) l)
          c.push.new.self.items c.loop-row.shapes.items c.add_shapes.new.shapes.items) below
          c.in_ok-add_shapes.ensures.shapes));
    }

pub returns-clause-shapes : goal.returns-clause-shapes
returns-clause-shapes t c =
    let first = c.first_and_below-first.ensures.first in
    let start = c.max-row.ensures in
    let most = c.min-row-end.ensures in
    let least = Falls_first c.args.most c.args.inner.now c.requires.falls in
    let order : c.max-row.result ≤ c.min-row-end.result + 1 = omega arith in
    let end = c.loop-row.auto.row-end order in
    rows-all c.args.most c.args.left c.loop-row.row c.args.inner.now c.args.above.now.items
    c.args.shapes.now.items c.loop-row.shapes.items
    (omega (arith, c.loop-row-test.false)) c.loop-row.invariant.added
