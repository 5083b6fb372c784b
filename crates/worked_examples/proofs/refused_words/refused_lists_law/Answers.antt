-- Proofs of the examples of `refused_lists_law`, each of which is computed.
use Rattle.std.proofs.Common.{false, [], ◌∷◌, refl, None, rules}
use Rattle.std.specs.Prelude.{codes}
use Rattle.sym_model.specs.ExpressionOffence.{literal, range, shape}
use Rattle.sym_model.specs.Command.{mult, work}
use Rattle.sym_model.specs.Command.{stanley}
use Rattle.worked_examples.proofs.ComputedExamples.{said, offended}
use Rattle.worked_examples.proofs.refused_words.refused_lists_law.Goals as goal

pub returns-clause-rows_65 : goal.returns-clause-rows_65
returns-clause-rows_65 c = offended (codes "mult -r 65 1 - 1") (2, 0, range) refl

pub returns-clause-rows_64 : goal.returns-clause-rows_64
returns-clause-rows_64 c = search (rules, said)

pub returns-clause-rows_0 : goal.returns-clause-rows_0
returns-clause-rows_0 c = offended (codes "quantum 0 2 1 - 1") (1, 0, range) refl

pub returns-clause-level_65 : goal.returns-clause-level_65
returns-clause-level_65 c = offended (codes "fusion 2 65 1 - 1") (2, 0, range) refl

pub returns-clause-cells_513 : goal.returns-clause-cells_513
returns-clause-cells_513 c = offended (codes "mult 513 - 1") (1, 0, range) refl

pub returns-clause-cells_512 : goal.returns-clause-cells_512
returns-clause-cells_512 c = search (rules, said)

pub returns-clause-sum_513 : goal.returns-clause-sum_513
returns-clause-sum_513 c = offended (codes "coprod 300 212 1 1") (3, 0, range) refl

pub returns-clause-numbers_65 : goal.returns-clause-numbers_65
returns-clause-numbers_65 c = search (rules, offended)

pub returns-clause-numbers_64 : goal.returns-clause-numbers_64
returns-clause-numbers_64 c = search (rules, said)

pub returns-clause-rises : goal.returns-clause-rises
returns-clause-rises c = offended (codes "mult 1 2 - 1") (2, 0, shape) refl

pub returns-clause-rises_after_zero : goal.returns-clause-rises_after_zero
returns-clause-rises_after_zero c = offended (codes "mult 0 1 - 1") (2, 0, shape) refl

pub returns-clause-zeros : goal.returns-clause-zeros
returns-clause-zeros c = said (codes "mult 0 0 - 1") (mult None false ([] ∷ (1 ∷ []) ∷ [])) refl

pub returns-clause-two_hundred_zeros : goal.returns-clause-two_hundred_zeros
returns-clause-two_hundred_zeros c = search (rules, said)

pub returns-clause-wide_number : goal.returns-clause-wide_number
returns-clause-wide_number c =
    offended (codes "quantum 170141183460469231731687303715884105728 2 1 - 1") (1, 0, literal) refl

pub returns-clause-widest_number : goal.returns-clause-widest_number
returns-clause-widest_number c =
    offended (codes "quantum 170141183460469231731687303715884105727 2 1 - 1") (1, 0, range) refl

pub returns-clause-letter_17 : goal.returns-clause-letter_17
returns-clause-letter_17 c = offended (codes "schubert 1 17") (2, 0, range) refl

pub returns-clause-letter_5_of_2 : goal.returns-clause-letter_5_of_2
returns-clause-letter_5_of_2 c = offended (codes "schubert 1 5") (2, 0, shape) refl

pub returns-clause-letter_twice : goal.returns-clause-letter_twice
returns-clause-letter_twice c = offended (codes "schubert 1 1") (2, 0, shape) refl

pub returns-clause-seventeen_letters : goal.returns-clause-seventeen_letters
returns-clause-seventeen_letters c =
    offended (codes "schubert 1 2 3 4 5 6 7 8 9 10 11 12 13 14 15 16 17") (17, 0, range) refl

pub returns-clause-sixteen_letters : goal.returns-clause-sixteen_letters
returns-clause-sixteen_letters c = search (rules, said)

pub returns-clause-identity : goal.returns-clause-identity
returns-clause-identity c = search (rules, said)

pub returns-clause-letter_0 : goal.returns-clause-letter_0
returns-clause-letter_0 c = offended (codes "rsk 0") (1, 0, range) refl

pub returns-clause-letter_65536 : goal.returns-clause-letter_65536
returns-clause-letter_65536 c = offended (codes "rsk 65535 65536") (2, 0, range) refl

pub returns-clause-letters_257 : goal.returns-clause-letters_257
returns-clause-letters_257 c = search (rules, offended)

pub returns-clause-letters_256 : goal.returns-clause-letters_256
returns-clause-letters_256 c = search (rules, said)

pub returns-clause-no_lines : goal.returns-clause-no_lines
returns-clause-no_lines c = offended (codes "work 0 0") (1, 0, range) refl

pub returns-clause-most_work : goal.returns-clause-most_work
returns-clause-most_work c = said (codes "work 10000 65536") (work 10000 65536) refl

pub returns-clause-seed : goal.returns-clause-seed
returns-clause-seed c = offended (codes "work 10000 65537") (2, 0, range) refl

pub returns-clause-nine_factors : goal.returns-clause-nine_factors
returns-clause-nine_factors c = search (rules, offended)

pub returns-clause-nine_factors_on_one_line : goal.returns-clause-nine_factors_on_one_line
returns-clause-nine_factors_on_one_line c =
    offended (codes "mult -r 2 -m 1 - 1 - 1 - 1 - 1 - 1 - 1 - 1 - 1") (19, 0, range) refl

pub returns-clause-nine_reduced : goal.returns-clause-nine_reduced
returns-clause-nine_reduced c = search (rules, offended)

pub returns-clause-earlier_than_nine : goal.returns-clause-earlier_than_nine
returns-clause-earlier_than_nine c = search (rules, offended)

pub returns-clause-eight_factors : goal.returns-clause-eight_factors
returns-clause-eight_factors c = search (rules, said)

pub returns-clause-empty_factors : goal.returns-clause-empty_factors
returns-clause-empty_factors c = search (rules, said)

pub returns-clause-three_reduced : goal.returns-clause-three_reduced
returns-clause-three_reduced c = search (rules, said)

pub returns-clause-skew_on_one_line : goal.returns-clause-skew_on_one_line
returns-clause-skew_on_one_line c = search (rules, said)

pub returns-clause-letter_9 : goal.returns-clause-letter_9
returns-clause-letter_9 c = offended (codes "dschubmult 9 - 1") (1, 0, range) refl

pub returns-clause-nine_letters : goal.returns-clause-nine_letters
returns-clause-nine_letters c = search (rules, offended)

pub returns-clause-eight_letters : goal.returns-clause-eight_letters
returns-clause-eight_letters c = search (rules, said)

pub returns-clause-variables_65 : goal.returns-clause-variables_65
returns-clause-variables_65 c = offended (codes "stanley -r 65 2 1") (2, 0, range) refl

pub returns-clause-two_variables : goal.returns-clause-two_variables
returns-clause-two_variables c = said (codes "stanley -r 2 2 1") (stanley 2 (2 ∷ 1 ∷ [])) refl
