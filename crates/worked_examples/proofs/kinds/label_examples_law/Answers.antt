use Rattle.std.proofs.Common.{refl}
use Rattle.worked_examples.proofs.kinds.label_examples_law.Goals as goal

pub returns-clause-first_partition : goal.returns-clause-first_partition
returns-clause-first_partition c = refl

pub returns-clause-second_partition : goal.returns-clause-second_partition
returns-clause-second_partition c = refl

pub returns-clause-same_pair : goal.returns-clause-same_pair
returns-clause-same_pair c = refl

pub returns-clause-lesser_power : goal.returns-clause-lesser_power
returns-clause-lesser_power c = refl

pub returns-clause-same_power : goal.returns-clause-same_power
returns-clause-same_power c = refl

pub returns-clause-fewer_inversions : goal.returns-clause-fewer_inversions
returns-clause-fewer_inversions c = refl

pub returns-clause-first_letter : goal.returns-clause-first_letter
returns-clause-first_letter c = refl

pub returns-clause-fixed_letters_go_on : goal.returns-clause-fixed_letters_go_on
returns-clause-fixed_letters_go_on c = refl

pub returns-clause-same_permutation : goal.returns-clause-same_permutation
returns-clause-same_permutation c = refl

pub returns-clause-lesser_degree : goal.returns-clause-lesser_degree
returns-clause-lesser_degree c = refl

pub returns-clause-later_exponent : goal.returns-clause-later_exponent
returns-clause-later_exponent c = refl

pub returns-clause-greatest_power : goal.returns-clause-greatest_power
returns-clause-greatest_power c = refl

pub returns-clause-power_too_great : goal.returns-clause-power_too_great
returns-clause-power_too_great c = refl

pub returns-clause-many_letters : goal.returns-clause-many_letters
returns-clause-many_letters c = refl

pub returns-clause-too_many_letters : goal.returns-clause-too_many_letters
returns-clause-too_many_letters c = refl

pub returns-clause-greatest_degree : goal.returns-clause-greatest_degree
returns-clause-greatest_degree c = refl

pub returns-clause-degree_too_great : goal.returns-clause-degree_too_great
returns-clause-degree_too_great c = refl

pub returns-clause-many_exponents : goal.returns-clause-many_exponents
returns-clause-many_exponents c = refl
