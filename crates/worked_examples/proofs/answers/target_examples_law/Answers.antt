use Rattle.std.proofs.Common.{refl, arith}
use Rattle.sym_model.specs.PartitionList.{partitions_within}
use Rattle.worked_examples.proofs.answers.target_examples_law.Goals as goal

pub returns-clause-classical : goal.returns-clause-classical
unfolding partitions_within
returns-clause-classical c = refl

pub returns-clause-classical_in_four : goal.returns-clause-classical_in_four
unfolding partitions_within
returns-clause-classical_in_four c = refl

pub returns-clause-more_rows_than_variables : goal.returns-clause-more_rows_than_variables
unfolding partitions_within
returns-clause-more_rows_than_variables c = refl

pub returns-clause-empty_factors : goal.returns-clause-empty_factors
unfolding partitions_within
returns-clause-empty_factors c = refl

pub returns-clause-classical_weight : goal.returns-clause-classical_weight
unfolding partitions_within
returns-clause-classical_weight c = refl

pub returns-clause-quantum : goal.returns-clause-quantum
unfolding partitions_within
returns-clause-quantum c = refl

pub returns-clause-quantum_to_nothing : goal.returns-clause-quantum_to_nothing
returns-clause-quantum_to_nothing c = refl

pub returns-clause-fusion : goal.returns-clause-fusion
unfolding partitions_within
returns-clause-fusion c = refl

pub returns-clause-fusion_whole : goal.returns-clause-fusion_whole
unfolding partitions_within
returns-clause-fusion_whole c = λ label. refl

pub returns-clause-fusion_sign : goal.returns-clause-fusion_sign
unfolding partitions_within
returns-clause-fusion_sign c = refl

pub returns-clause-coefficient_of_product : goal.returns-clause-coefficient_of_product
returns-clause-coefficient_of_product c = refl

pub returns-clause-coefficient_nothing : goal.returns-clause-coefficient_nothing
returns-clause-coefficient_nothing c = refl

pub returns-clause-coproduct : goal.returns-clause-coproduct
returns-clause-coproduct c = refl

pub returns-clause-pair_in_no_variables : goal.returns-clause-pair_in_no_variables
returns-clause-pair_in_no_variables c = refl

pub returns-clause-pair_that_vanishes : goal.returns-clause-pair_that_vanishes
returns-clause-pair_that_vanishes c = refl

pub returns-clause-denominator_zero : goal.returns-clause-denominator_zero
returns-clause-denominator_zero c = λ represents. let h = represents.positive in omega arith

pub returns-clause-pair_weight : goal.returns-clause-pair_weight
returns-clause-pair_weight c = refl

pub returns-clause-pair_with_identity : goal.returns-clause-pair_with_identity
returns-clause-pair_with_identity c = refl

pub returns-clause-weight_of_fractions : goal.returns-clause-weight_of_fractions
returns-clause-weight_of_fractions c = refl

pub returns-clause-weight_of_whole : goal.returns-clause-weight_of_whole
returns-clause-weight_of_whole c = refl

pub returns-clause-weight_of_small : goal.returns-clause-weight_of_small
returns-clause-weight_of_small c = refl

pub returns-clause-past : goal.returns-clause-past
returns-clause-past c = refl

pub returns-clause-not_past : goal.returns-clause-not_past
returns-clause-not_past c = refl
