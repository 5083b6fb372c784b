use Rattle.std.proofs.Common.{refl}
use Rattle.std.specs.Fmt.{digits}
use Rattle.worked_examples.proofs.kinds.kind_examples_law.Goals as goal

pub returns-clause-pairs : goal.returns-clause-pairs
unfolding digits
returns-clause-pairs c = refl

pub returns-clause-reads_pairs : goal.returns-clause-reads_pairs
unfolding digits
returns-clause-reads_pairs c = refl

pub returns-clause-one_label_of_two : goal.returns-clause-one_label_of_two
unfolding digits
returns-clause-one_label_of_two c = refl

pub returns-clause-two_spaces_between : goal.returns-clause-two_spaces_between
unfolding digits
returns-clause-two_spaces_between c = refl

pub returns-clause-powers : goal.returns-clause-powers
unfolding digits
returns-clause-powers c = refl

pub returns-clause-reads_powers : goal.returns-clause-reads_powers
unfolding digits
returns-clause-reads_powers c = refl

pub returns-clause-powers_fall : goal.returns-clause-powers_fall
unfolding digits
returns-clause-powers_fall c = refl

pub returns-clause-power_with_zero : goal.returns-clause-power_with_zero
unfolding digits
returns-clause-power_with_zero c = refl

pub returns-clause-permutations : goal.returns-clause-permutations
unfolding digits
returns-clause-permutations c = refl

pub returns-clause-reads_permutations : goal.returns-clause-reads_permutations
unfolding digits
returns-clause-reads_permutations c = refl

pub returns-clause-identity : goal.returns-clause-identity
unfolding digits
returns-clause-identity c = refl

pub returns-clause-no_letter : goal.returns-clause-no_letter
unfolding digits
returns-clause-no_letter c = refl

pub returns-clause-fixed_letter : goal.returns-clause-fixed_letter
unfolding digits
returns-clause-fixed_letter c = refl

pub returns-clause-letter_twice : goal.returns-clause-letter_twice
unfolding digits
returns-clause-letter_twice c = refl

pub returns-clause-letter_past_the_end : goal.returns-clause-letter_past_the_end
unfolding digits
returns-clause-letter_past_the_end c = refl

pub returns-clause-polynomial : goal.returns-clause-polynomial
unfolding digits
returns-clause-polynomial c = refl

pub returns-clause-reads_polynomial : goal.returns-clause-reads_polynomial
unfolding digits
returns-clause-reads_polynomial c = refl

pub returns-clause-constant : goal.returns-clause-constant
unfolding digits
returns-clause-constant c = refl

pub returns-clause-zero_at_the_end : goal.returns-clause-zero_at_the_end
unfolding digits
returns-clause-zero_at_the_end c = refl

pub returns-clause-shifts : goal.returns-clause-shifts
unfolding digits
returns-clause-shifts c = refl

pub returns-clause-reads_shifts : goal.returns-clause-reads_shifts
unfolding digits
returns-clause-reads_shifts c = refl

pub returns-clause-shifts_fall : goal.returns-clause-shifts_fall
unfolding digits
returns-clause-shifts_fall c = refl

pub returns-clause-whole : goal.returns-clause-whole
unfolding digits
returns-clause-whole c = refl

pub returns-clause-fraction_in_product : goal.returns-clause-fraction_in_product
unfolding digits
returns-clause-fraction_in_product c = refl

pub returns-clause-fraction_in_expansion : goal.returns-clause-fraction_in_expansion
unfolding digits
returns-clause-fraction_in_expansion c = refl

pub returns-clause-unreduced : goal.returns-clause-unreduced
unfolding digits
returns-clause-unreduced c = refl

pub returns-clause-number : goal.returns-clause-number
unfolding digits
returns-clause-number c = refl

pub returns-clause-number_zero : goal.returns-clause-number_zero
unfolding digits
returns-clause-number_zero c = refl

pub returns-clause-reads_number : goal.returns-clause-reads_number
unfolding digits
returns-clause-reads_number c = refl

pub returns-clause-reads_number_zero : goal.returns-clause-reads_number_zero
unfolding digits
returns-clause-reads_number_zero c = refl

pub returns-clause-two_numbers : goal.returns-clause-two_numbers
unfolding digits
returns-clause-two_numbers c = refl

pub returns-clause-number_with_label : goal.returns-clause-number_with_label
unfolding digits
returns-clause-number_with_label c = refl
