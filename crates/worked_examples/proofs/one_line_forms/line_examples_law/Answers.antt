use Rattle.std.proofs.Common.{refl}
use Rattle.std.specs.Fmt.{digits}
use Rattle.worked_examples.proofs.one_line_forms.line_examples_law.Goals as goal

pub returns-clause-square : goal.returns-clause-square
unfolding digits
returns-clause-square c = refl

pub returns-clause-reads_square : goal.returns-clause-reads_square
unfolding digits
returns-clause-reads_square c = refl

pub returns-clause-fractions : goal.returns-clause-fractions
unfolding digits
returns-clause-fractions c = refl

pub returns-clause-reads_fractions : goal.returns-clause-reads_fractions
unfolding digits
returns-clause-reads_fractions c = refl

pub returns-clause-fractions_in_product : goal.returns-clause-fractions_in_product
unfolding digits
returns-clause-fractions_in_product c = refl

pub returns-clause-nothing : goal.returns-clause-nothing
unfolding digits
returns-clause-nothing c = refl

pub returns-clause-reads_nothing : goal.returns-clause-reads_nothing
unfolding digits
returns-clause-reads_nothing c = refl

pub returns-clause-negative_first : goal.returns-clause-negative_first
unfolding digits
returns-clause-negative_first c = refl

pub returns-clause-reads_negative_first : goal.returns-clause-reads_negative_first
unfolding digits
returns-clause-reads_negative_first c = refl

pub returns-clause-signs : goal.returns-clause-signs
unfolding digits
returns-clause-signs c = refl

pub returns-clause-reads_signs : goal.returns-clause-reads_signs
unfolding digits
returns-clause-reads_signs c = refl

pub returns-clause-coefficient_one : goal.returns-clause-coefficient_one
unfolding digits
returns-clause-coefficient_one c = refl

pub returns-clause-plus_in_front : goal.returns-clause-plus_in_front
unfolding digits
returns-clause-plus_in_front c = refl

pub returns-clause-other_letter : goal.returns-clause-other_letter
unfolding digits
returns-clause-other_letter c = refl

pub returns-clause-other_order : goal.returns-clause-other_order
unfolding digits
returns-clause-other_order c = refl

pub returns-clause-no_end_of_line : goal.returns-clause-no_end_of_line
unfolding digits
returns-clause-no_end_of_line c = refl

pub returns-clause-coefficient_zero : goal.returns-clause-coefficient_zero
unfolding digits
returns-clause-coefficient_zero c = refl

pub returns-clause-not_in_lowest_terms : goal.returns-clause-not_in_lowest_terms
unfolding digits
returns-clause-not_in_lowest_terms c = refl

pub returns-clause-two_signs : goal.returns-clause-two_signs
unfolding digits
returns-clause-two_signs c = refl

pub returns-clause-atom_alone : goal.returns-clause-atom_alone
unfolding digits
returns-clause-atom_alone c = refl

pub returns-clause-no_text : goal.returns-clause-no_text
unfolding digits
returns-clause-no_text c = refl
