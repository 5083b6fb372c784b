use Rattle.std.proofs.Common.{[], ◌∷◌, Some, refl, arith, pos, rules}
use Rattle.std.proofs.lemmas.Int.{ints}
use Rattle.sym_model.specs.PartitionList.{partitions_within}
use Rattle.sym_model.specs.RimHookReduction.{IsRemoval}
use Rattle.worked_examples.proofs.ClosedShapes.{removal_closed, no_removal_of_all}
use Rattle.worked_examples.proofs.ClosedShapes.{no_removal_from_less}
use Rattle.worked_examples.proofs.strips.removal_examples_law.Goals as goal

all_of_three_one : IsRemoval 4 (3 ∷ 1 ∷ []) []
all_of_three_one =
    removal_closed 4 (3 ∷ 1 ∷ []) [] 1 2 (record {
      falls = (omega arith, tt);
      longer = omega arith;
      counts = omega arith;
      ordered = omega arith;
      above = tt;
      chained = (refl, tt);
      end = omega arith;
      below = tt;
    }) tt tt refl

pub returns-clause-one_hook : goal.returns-clause-one_hook
returns-clause-one_hook c = search (rules, all_of_three_one, no_removal_from_less)

pub returns-clause-stays : goal.returns-clause-stays
returns-clause-stays c = search (rules, no_removal_of_all)

pub returns-clause-two_hooks : goal.returns-clause-two_hooks
returns-clause-two_hooks c = (
  omega arith,
  3 ∷ 1 ∷ [],
  pos 1,
  removal_closed 4 (4 ∷ 4 ∷ []) (3 ∷ 1 ∷ []) 1 2 (record {
    falls = (omega arith, tt);
    longer = omega arith;
    counts = omega arith;
    ordered = omega arith;
    above = tt;
    chained = (refl, tt);
    end = omega arith;
    below = tt;
  }) (omega arith, tt) (omega arith, (omega arith, tt)) refl,
  returns-clause-one_hook c,
  refl,
)

pub returns-clause-other_order : goal.returns-clause-other_order
returns-clause-other_order c =
    removal_closed 4 (4 ∷ 4 ∷ []) (4 ∷ []) 2 2 (record {
      falls = (omega arith, tt);
      longer = omega arith;
      counts = omega arith;
      ordered = omega arith;
      above = (refl, tt);
      chained = tt;
      end = omega arith;
      below = tt;
    }) tt (omega arith, tt) refl

pub returns-clause-negative : goal.returns-clause-negative
returns-clause-negative c = (
  omega arith,
  [],
  pos 1,
  removal_closed 4 (4 ∷ []) [] 1 1 (record {
    falls = tt;
    longer = omega arith;
    counts = omega arith;
    ordered = omega arith;
    above = tt;
    chained = tt;
    end = omega arith;
    below = tt;
  }) tt tt refl,
  (omega arith, no_removal_from_less 4 [] (omega arith), refl, refl),
  refl,
)

pub returns-clause-hook_of_six : goal.returns-clause-hook_of_six
returns-clause-hook_of_six c = (
  (
    omega arith,
    [],
    pos 1,
    removal_closed 6 (4 ∷ 1 ∷ 1 ∷ []) [] 1 3 (record {
      falls = (omega arith, (omega arith, tt));
      longer = omega arith;
      counts = omega arith;
      ordered = omega arith;
      above = tt;
      chained = (refl, (refl, tt));
      end = omega arith;
      below = tt;
    }) tt tt refl,
    (omega arith, no_removal_from_less 6 [] (omega arith), refl, refl),
    refl,
  ),
  omega arith,
)

pub returns-clause-too_wide : goal.returns-clause-too_wide
returns-clause-too_wide c = (
  4 ∷ 2 ∷ [],
  pos 1,
  0,
  (
    omega arith,
    no_removal_of_all 6 (4 ∷ 2 ∷ []) refl (omega arith)
        (omega arith),
    refl,
    refl,
  ),
  omega arith,
)

pub returns-clause-empty : goal.returns-clause-empty
returns-clause-empty c = no_removal_from_less 3 [] (omega arith)

pub returns-clause-product : goal.returns-clause-product
unfolding partitions_within
returns-clause-product c = record {
  reductions = Some ([], pos 1, 1) ∷ Some (2 ∷ 2 ∷ [], pos 1, 0) ∷ [];
  reduce = ((returns-clause-one_hook c, omega arith), ((returns-clause-stays c, omega arith), tt));
  sums = λ label. omega (arith, ints);
}

pub returns-clause-product_of_squares : goal.returns-clause-product_of_squares
unfolding partitions_within
returns-clause-product_of_squares c = record {
  reductions = Some ([], pos 1, 2) ∷ [];
  reduce = ((returns-clause-two_hooks c, omega arith), tt);
  sums = λ label. refl;
}
