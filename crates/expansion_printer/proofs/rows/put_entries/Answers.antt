use Rattle.std.proofs.Common.{◌≡◌, ◌≤◌, ℕ, ◌+◌, ◌-◌, ap, ◌∙◌, map, arith}
use Rattle.std.specs.Prelude.{codes, decimal}
use Rattle.expansion_printer.proofs.GatheringLaws.{Gathers-then, Gathers-as, Gathers-nothing}
use Rattle.sym_model.specs.Partition.{after, part}
use Rattle.sym_model.specs.TableauText.{separated, spaced}
use Rattle.expansion_printer.proofs.RowTexts.{Gathers-piece, pieces-more, spaced-map}
use Rattle.expansion_printer.proofs.rows.put_entries.Goals as goal

pub loop-column-init : goal.loop-column-init
loop-column-init g c =
    let left = c.args.left in
    let none : 0 ≡ left - left = omega arith in
    Gathers-as (ap (λ k. separated (codes " ")
    (map (λ column. decimal (g.E.Entries.entry c.args.filling.now c.args.row column))
    (after left k))) none)
    (Gathers-nothing c.args.text.now (g.K.Sink.seen c.args.sink.now))

pub loop-column-preserved : goal.loop-column-preserved
loop-column-preserved g c =
    let left = c.args.left in
    let at : ℕ = c.loop-column.column - left in
    let entry : ℕ → ℕ = g.E.Entries.entry c.args.filling.now c.args.row in
    let far : left ≤ c.loop-column.column = c.loop-column.auto.column in
    let next : c.loop-column.column + 1 ≡ left + at + 1 = omega arith in
    let more : at + 1 ≡ c.loop-column.column + 1 - left = omega arith in
    Gathers-as (pieces-more (codes " ") (λ column. decimal (entry column)) left
    at (c.loop-column.column + 1) next
    ∙ ap (λ k. separated (codes " ") (map (λ column. decimal (entry column)) (after left k))) more)
    (Gathers-then c.loop-column.invariant
    (Gathers-piece (codes " ") at (entry (c.loop-column.column + 1)) c.put_piece.ensures (cc) (cc)))

pub returns : goal.returns
returns g c =
    let filling = c.args.filling.now in
    let entry : ℕ → ℕ = g.E.Entries.entry filling c.args.row in
    let all : c.loop-column.column - c.args.left ≡ part (g.E.Entries.outer filling) c.args.row
    - part (g.E.Entries.inner filling) c.args.row =
    let last : c.loop-column.column ≤ c.args.right = c.loop-column.auto.column-end c.requires.order
    in
    omega (arith, c.loop-column-test.false, c.requires.inner, c.requires.outer) in
    Gathers-as (spaced-map entry (after c.args.left (c.loop-column.column - c.args.left))
    ∙ ap (λ k. spaced (map entry (after c.args.left k))) all
    ∙ ap (λ a. spaced (map entry (after a (part (g.E.Entries.outer filling) c.args.row - part
    (g.E.Entries.inner filling) c.args.row)))) c.requires.inner)
    c.loop-column.invariant
