-- Loop invariant: each tableau that slides reach from the current tableau is also reached from the given one, and the reading words of these two, the
-- current and the given tableau, are Knuth equivalent. Each slide decreases the size of the inner partition.
use Rattle.sym_model.specs.Partition.{size}
use Rattle.sym_model.specs.Insertion.{reading_word}
use Rattle.sym_model.specs.Knuth.{AreKnuthEquivalent}
use Rattle.sym_model.specs.Slide.{IsReached}
use Rattle.sym_model.specs.Tableau.{SkewFilling}
use Rattle.jeu_de_taquin.proofs.sliding.rectify.Given as goal

abbrev pub invariant-loop-t : goal.invariant-loop-t
invariant-loop-t l = record {
  reached : (s : SkewFilling) → IsReached l.t s → IsReached l.fn.t s;
  class : AreKnuthEquivalent (reading_word l.fn.t.rows) (reading_word l.t.rows);
}

abbrev pub decreases-loop-t : goal.decreases-loop-t
decreases-loop-t l = size l.t.inner
