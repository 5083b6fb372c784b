use Rattle.std.proofs.Common.{refl}
use Rattle.std.specs.Fmt.{digits}
use Rattle.worked_examples.proofs.polynomials.block_examples_law.Goals as goal

pub returns-clause-whole : goal.returns-clause-whole
unfolding digits
returns-clause-whole c = refl

pub returns-clause-fraction : goal.returns-clause-fraction
unfolding digits
returns-clause-fraction c = refl

pub returns-clause-empty_label : goal.returns-clause-empty_label
unfolding digits
returns-clause-empty_label c = refl

pub returns-clause-reads_fraction : goal.returns-clause-reads_fraction
unfolding digits
returns-clause-reads_fraction c = refl

pub returns-clause-reads_empty : goal.returns-clause-reads_empty
unfolding digits
returns-clause-reads_empty c = refl

pub returns-clause-reads_empty_label : goal.returns-clause-reads_empty_label
unfolding digits
returns-clause-reads_empty_label c = refl

pub returns-clause-unreduced : goal.returns-clause-unreduced
unfolding digits
returns-clause-unreduced c = refl

pub returns-clause-whole_over_one : goal.returns-clause-whole_over_one
unfolding digits
returns-clause-whole_over_one c = refl

pub returns-clause-out_of_order : goal.returns-clause-out_of_order
unfolding digits
returns-clause-out_of_order c = refl

pub returns-clause-twice : goal.returns-clause-twice
unfolding digits
returns-clause-twice c = refl

pub returns-clause-leading_zero : goal.returns-clause-leading_zero
unfolding digits
returns-clause-leading_zero c = refl

pub returns-clause-leading_zero_in_label : goal.returns-clause-leading_zero_in_label
unfolding digits
returns-clause-leading_zero_in_label c = refl

pub returns-clause-zero_coefficient : goal.returns-clause-zero_coefficient
unfolding digits
returns-clause-zero_coefficient c = refl

pub returns-clause-minus_zero : goal.returns-clause-minus_zero
unfolding digits
returns-clause-minus_zero c = refl

pub returns-clause-missing_line_feed : goal.returns-clause-missing_line_feed
unfolding digits
returns-clause-missing_line_feed c = refl

pub returns-clause-one_space : goal.returns-clause-one_space
unfolding digits
returns-clause-one_space c = refl

pub returns-clause-rising_label : goal.returns-clause-rising_label
unfolding digits
returns-clause-rising_label c = refl

pub returns-clause-past_128_bits : goal.returns-clause-past_128_bits
unfolding digits
returns-clause-past_128_bits c = refl

pub returns-clause-nothing : goal.returns-clause-nothing
unfolding digits
returns-clause-nothing c = refl
