use Rattle.std.proofs.Common.{◌<◌, length, ap, sym, subst, ◌∙◌, ℕ, List, arith}
use Rattle.sym_model.specs.Partition.{size}
use Rattle.sym_model.specs.Slide.{IsReached, slide}
use Rattle.sym_model.specs.Tableau.{SkewFilling}
use Rattle.insertion_laws.proofs.SlideKeeps.{slide-smaller}
use Rattle.insertion_laws.proofs.Classes.{◌⨾◌, one_word}
use Rattle.insertion_laws.proofs.SlidWords.{straight_only}
use Rattle.jeu_de_taquin.proofs.WholeSlides.{last_corner_at, reached-next}
use Rattle.jeu_de_taquin.proofs.sliding.rectify.Goals as goal

pub slide-t-requires : goal.slide-t-requires
slide-t-requires c =
    last_corner_at c.loop-t.t c.shape-in-loop-t.ensures.tableau
    (c.inner.ensures.value ∙ ap (λ (s : List ℕ × List ℕ). s.1) c.shape.ensures.value)
    (c.inner-in-loop-t.ensures.value ∙ ap (λ (s : List ℕ × List ℕ). s.1)
    c.shape-in-loop-t.ensures.value)
    c.rows.ensures.value c.rows-row.ensures.value (omega arith)

pub loop-t-smaller : goal.loop-t-smaller
loop-t-smaller c =
    let corner = last_corner_at c.loop-t.t c.shape-in-loop-t.ensures.tableau
    (c.inner.ensures.value ∙ ap (λ (s : List ℕ × List ℕ). s.1) c.shape.ensures.value)
    (c.inner-in-loop-t.ensures.value ∙ ap (λ (s : List ℕ × List ℕ). s.1)
    c.shape-in-loop-t.ensures.value)
    c.rows.ensures.value c.rows-row.ensures.value (omega arith) in
    let less : size (slide c.rows-row.result c.loop-t.t).inner < size c.loop-t.t.inner =
    omega (arith, slide-smaller c.rows-row.result c.loop-t.t corner) in
    subst (λ (s : SkewFilling). size s.inner < size c.loop-t.t.inner) (sym c.slide-t.ensures.slide)
    less

pub loop-t-init : goal.loop-t-init
loop-t-init c = record { reached = λ s r. r; class = one_word _ }

pub loop-t-preserved : goal.loop-t-preserved
loop-t-preserved c =
    let corner = last_corner_at c.loop-t.t c.shape-in-loop-t.ensures.tableau
    (c.inner.ensures.value ∙ ap (λ (s : List ℕ × List ℕ). s.1) c.shape.ensures.value)
    (c.inner-in-loop-t.ensures.value ∙ ap (λ (s : List ℕ × List ℕ). s.1)
    c.shape-in-loop-t.ensures.value)
    c.rows.ensures.value c.rows-row.ensures.value (omega arith) in
    record {
      reached = λ s r. c.loop-t.invariant.reached s
          (reached-next c.loop-t.t s c.rows-row.result corner
          (subst (λ (t : SkewFilling). IsReached t s) c.slide-t.ensures.slide r));
      class = c.loop-t.invariant.class ⨾ c.slide-t.ensures.class;
    }

pub returns-clause-only : goal.returns-clause-only
returns-clause-only c =
    let same = c.inner.ensures.value ∙ ap (λ (s : List ℕ × List ℕ). s.1) c.shape.ensures.value in
    straight_only _ c.loop-t.t c.shape.ensures.tableau.tableau
    (omega (arith, c.rows.ensures.value, ap (λ (w : List ℕ). length w) same))
    c.loop-t.invariant.class
