use Rattle.std.proofs.Common.{rules}
use Rattle.linear_combinations.proofs.Steps.{error_is, if_answered}
use Rattle.beta_sets.specs.BetaSets.{shapes}
use Rattle.basis_change.proofs.StraightBounds.{large-straight}
use Rattle.basis_change.proofs.StraightValues.{multiple-straightened}
use Rattle.basis_change.proofs.straightening.quotients_by_arrangements.Goals as goal

pub returns-in_err-sum-clause-large : goal.returns-in_err-sum-clause-large
returns-in_err-sum-clause-large c err N b = search (rules, large-straight, error_is)

pub returns-clause-value : goal.returns-clause-value
returns-clause-value c =
    if_answered c.in_partitions.result c.in_partitions.ensures.value
    (λ answer quotients. record {
      whole = shapes c.in_ok-sum.sum;
      value = multiple-straightened c.args.size c.args.list.now (shapes c.in_ok-sum.sum)
          c.straightened.ensures.list c.requires.sizes c.in_ok-sum.ensures.gains;
      few = λ m. absurd m;
      within = λ m. absurd m;
      quotients = quotients;
    })

pub returns-clause-large : goal.returns-clause-large
returns-clause-large c err = absurd (c.in_partitions.ensures.small err)
