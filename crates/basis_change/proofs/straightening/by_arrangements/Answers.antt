use Rattle.std.proofs.Common.{rules}
use Rattle.linear_combinations.proofs.Steps.{if_answered}
use Rattle.beta_sets.specs.BetaSets.{shapes}
use Rattle.beta_sets.proofs.SetNumbers.{rows_limits}
use Rattle.basis_change.proofs.ChangedLists.{failed}
use Rattle.basis_change.proofs.StraightBounds.{large-straight}
use Rattle.basis_change.proofs.StraightValues.{multiple-straightened, straightened-again, straightened-large}
use Rattle.basis_change.proofs.straightening.by_arrangements.Goals as goal

pub returns-in_err-sum : goal.returns-in_err-sum
returns-in_err-sum c = search (rules, failed, large-straight)

pub returns : goal.returns
returns c = record {
  value = if_answered c.partitions_of.result c.partitions_of.ensures.gains
      (λ end gains. multiple-straightened c.args.size c.args.list.now end c.straightened.ensures.list
      c.requires.sizes (straightened-again c.args.size c.args.list.now (shapes c.in_ok-sum.sum) end
      c.in_ok-sum.ensures.gains gains));
  few = if_answered c.partitions_of.result c.partitions_of.ensures.gains (λ end gains m. absurd m);
  within = if_answered c.partitions_of.result c.partitions_of.ensures.gains (λ end gains m. absurd m);
  table = c.partitions_of.ensures.table;
  large = λ err N b. large-straight N c.args.size c.args.list.now c.straightened.ensures.list
      c.requires.sizes b
      (straightened-large c.args.size c.args.list.now c.in_ok-sum.sum c.in_ok-sum.ensures.table
      c.in_ok-sum.ensures.within c.in_ok-sum.ensures.gains (c.partitions_of.ensures.large err));
}

pub partitions_of-requires : goal.partitions_of-requires
partitions_of-requires c t m = rows_limits t.0 (c.in_ok-sum.ensures.within t m)
