use Rattle.std.proofs.Common.{drop}
use Rattle.fraction_laws.specs.Fractions.{whole}
use Rattle.partitions.specs.FactorList.{cells_of}
use Rattle.sym_model.specs.ReductionSteps.{LeadsTo, StepsLead}
use Rattle.linear_combinations.specs.Entries.{IsCombination}
use Rattle.linear_combinations.specs.Gains.{WholeTermsOf}
use Rattle.rim_hooks.specs.HeavySteps.{HasHeavyStep}
use Rattle.reduction_laws.specs.Reductions.{HaveRoom, IsHeavyFrom}
use Rattle.rim_hooks.proofs.steps.product_in_steps.Given as goal

-- `terms` results from the steps through the factors before the index `at`; the number of cells of each of its labels, plus the number of cells of
-- the other factors, is at most 4096 (`HaveRoom`)
abbrev pub invariant-loop-at : goal.invariant-loop-at
invariant-loop-at g l = record {
  table : IsCombination g.L.PartialEq.eq g.L.Label.is_label whole l.terms;
  room : HaveRoom (g.R.Reduction.variables l.rule) g.R.Reduction.shape g.R.Reduction.cells (cells_of (drop l.at l.factors)) l.terms;
  leads :
      (last : WholeTermsOf g.row.L.Denot)
      → StepsLead (g.R.Reduction.step l.rule) l.terms (drop l.at l.factors) last
      → LeadsTo (g.R.Reduction.step l.rule) g.R.Reduction.start l.factors last;
  heavy :
      HasHeavyStep g.R.Reduction.shape (g.R.Reduction.step l.rule) (g.R.Reduction.variables l.rule) l.terms (drop l.at l.factors)
      → IsHeavyFrom g.R.Reduction.shape (g.R.Reduction.step l.rule) g.R.Reduction.start (g.R.Reduction.variables l.rule) l.factors;
}
