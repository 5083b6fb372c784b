use Rattle.std.proofs.Common.{◌*◌, ◌≤◌, ◌<◌, sym, subst}
use Rattle.sym_model.specs.Expression.{degree}
use Rattle.calc_words.specs.Reading.{IsFirst}
use Rattle.expression_reading.specs.Trees.{basis_of, tree_of}
use Rattle.sym_model.specs.CommandOffence.{first_offence, plethysm_offences}
use Rattle.calc_language.proofs.PlethysmJudging.{outer_faulty, inner_faulty, both_past, both_fine}
use Rattle.calc_language.proofs.PlethysmJudging.{trees_said}
use Rattle.calc_language.proofs.plethysm_command.judged.Goals as goal

pub returns-in-Err : goal.returns-in-Err
returns-in-Err c =
    λ f g r s.
    subst (IsFirst (first_offence (plethysm_offences 2 f g))) (sym c.placed.ensures)
    (outer_faulty c.args.outer.now f g c.in-Err.fault r c.in-Err.ensures.read)

pub returns-in-Err-read_inner : goal.returns-in-Err-read_inner
returns-in-Err-read_inner c =
    λ f g r s.
    subst (IsFirst (first_offence (plethysm_offences 2 f g)))
    (sym c.placed-in-Err-read_inner.ensures)
    (inner_faulty c.args.outer.now c.args.inner.now f g c.in-Ok.outer c.in-Err-read_inner.fault r
    c.in-Ok.ensures.read s c.in-Err-read_inner.ensures.read)

pub returns-then-degree-gt-PLETHYSM_DEGREE : goal.returns-then-degree-gt-PLETHYSM_DEGREE
returns-then-degree-gt-PLETHYSM_DEGREE c =
    λ f g r s.
    let second = degree (tree_of c.in-Ok-read_inner.inner.tree) in
    let past = subst (λ n. 10 < n * second) c.degree.ensures (subst (λ n. 10 < c.degree.result * n)
    c.degree-in-Ok-read_inner.ensures c.if-degree-gt-PLETHYSM_DEGREE.true) in
    subst (IsFirst (first_offence (plethysm_offences 2 f g)))
    (sym c.placed-then-degree-gt-PLETHYSM_DEGREE.ensures)
    (both_past c.args.outer.now c.args.inner.now f g c.in-Ok.outer c.in-Ok-read_inner.inner r
    c.in-Ok.ensures.read s c.in-Ok-read_inner.ensures.read past)

pub returns-else-degree-gt-PLETHYSM_DEGREE : goal.returns-else-degree-gt-PLETHYSM_DEGREE
returns-else-degree-gt-PLETHYSM_DEGREE c =
    λ f g r s.
    let x = c.in-Ok.outer in
    let y = c.in-Ok-read_inner.inner in
    let second = degree (tree_of y.tree) in
    let few = subst (λ n. n * second ≤ 10) c.degree.ensures (subst (λ n. c.degree.result * n ≤ 10)
    c.degree-in-Ok-read_inner.ensures c.if-degree-gt-PLETHYSM_DEGREE.false) in (
      (
        trees_said c.args.outer.now c.args.inner.now f g x y (basis_of c.args.target) r
            c.in-Ok.ensures.read s c.in-Ok-read_inner.ensures.read,
        tt,
      ),
      both_fine c.args.outer.now c.args.inner.now f g x y r c.in-Ok.ensures.read s
          c.in-Ok-read_inner.ensures.read few,
    )
