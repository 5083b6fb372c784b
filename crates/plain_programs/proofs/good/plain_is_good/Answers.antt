use Rattle.std.proofs.Common.{◌<◌, ℕ, List, Bool, sym, ◌∙◌, ap, arith}
use Rattle.sym_model.specs.Polynomial.{join}
use Rattle.sym_model.specs.Partition.{columns}
use Rattle.sym_model.specs.Schur.{content}
use Rattle.sym_model.specs.GoodTableau.{is_falling, reading_right_of}
use Rattle.plain_programs.specs.Words.{words_of}
use Rattle.plain_programs.proofs.Goodness.{every_on, every_fails}
use Rattle.plain_programs.proofs.good.plain_is_good.Goals as goal

pub loop-j-preserved : goal.loop-j-preserved
loop-j-preserved c =
    let falls_with : List ℕ → Bool = λ w. is_falling (join c.args.start.now (content c.args.k w)) in
    let reading : ℕ → List ℕ = λ j. reading_right_of j c.args.outer.now c.args.inner.now
    (words_of c.args.filling.now) in
    every_on (λ j. falls_with (reading j)) c.loop-j.j c.loop-j.invariant
    (sym (ap falls_with (c.deref-in-loop-j.ensures.value ∙ c.in_ok-reading.ensures))
    ∙ sym c.in_ok-these_fall.ensures ∙ c.if-not-these_fall.false)

pub returns-then-not-these_fall : goal.returns-then-not-these_fall
returns-then-not-these_fall c =
    let falls_with : List ℕ → Bool = λ w. is_falling (join c.args.start.now (content c.args.k w)) in
    let reading : ℕ → List ℕ = λ j. reading_right_of j c.args.outer.now c.args.inner.now
    (words_of c.args.filling.now) in
    let within : c.loop-j.j < columns c.args.outer.now = omega arith in
    sym (every_fails (λ j. falls_with (reading j)) c.loop-j.j (columns c.args.outer.now) within
    (sym (ap falls_with (c.deref-in-loop-j.ensures.value ∙ c.in_ok-reading.ensures))
    ∙ sym c.in_ok-these_fall.ensures ∙ c.if-not-these_fall.true))
