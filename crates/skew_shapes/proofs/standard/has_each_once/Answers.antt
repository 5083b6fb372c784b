use Rattle.std.proofs.Common.{◌≡◌, ℕ, ◌==◌, ◌+◌, List, length, ap, sym, subst, ◌∙◌, arith, rules}
use Rattle.std.proofs.lemmas.Bool.{eq-eqb, ne_eqb}
use Rattle.sym_model.specs.Partition.{size}
use Rattle.sym_model.specs.Schur.{letters_of, times_in}
use Rattle.skew_shapes.proofs.RowOrder.{every_after-more, every_after-fails}
use Rattle.skew_shapes.proofs.StandardNumbers.{straight-letters}
use Rattle.skew_shapes.proofs.standard.has_each_once.Goals as goal

pub returns-then-times-ne1 : goal.returns-then-times-ne1
returns-then-times-ne1 c =
    let t = c.args.t.now in
    let w = letters_of c.args.t.now.rows in
    let test = λ (k : ℕ). times_in k (letters_of c.args.t.now.rows) == 1 in
    let place : 0 + c.loop-number.number + 1 ≡ c.loop-number.number + 1 = omega arith in
    let all = straight-letters t c.shape.ensures.tableau c.requires in
    let cells : c.cells-number-end.result + size c.args.t.now.inner ≡ size c.args.t.now.outer =
    subst (λ (s : List ℕ × List ℕ). c.cells-number-end.result + size s.1 ≡ size s.0)
    c.shape.ensures.value c.cells-number-end.ensures.sizes in
    sym (every_after-fails test 0 (length w) c.loop-number.number
    (omega (arith, ap size c.requires))
    (ap test place ∙ ap (λ n. n == 1) (sym c.times.ensures) ∙ ne_eqb c.times.result 1
    c.if-times-ne1.true))

pub loop-number-preserved : goal.loop-number-preserved
loop-number-preserved c = search (rules, every_after-more, eq-eqb)

pub returns : goal.returns
returns c = search (rules, straight-letters)
