-- Proofs of the examples of `words_that_go_wrong_law`, each of which is computed.
use Rattle.std.proofs.Common.{[], ◌∷◌, ◌++◌, refl, arith}
use Rattle.std.specs.Prelude.{codes}
use Rattle.sym_model.specs.Grammar.{all_entries, line_entries}
use Rattle.sym_model.specs.BatchLine.{words_of_line}
use Rattle.worked_examples.proofs.ComputedExamples.{gone_wrong, can_be_all}
use Rattle.worked_examples.proofs.ComputedExamples.{can_be_line}
use Rattle.worked_examples.proofs.refused_words.words_that_go_wrong_law.Goals as goal
use Rattle.word_laws.proofs.EntryLists.{syntax_sound}

pub returns-clause-no_words : goal.returns-clause-no_words
returns-clause-no_words c = gone_wrong (codes "") 0 0 refl

pub returns-clause-number_for_minus : goal.returns-clause-number_for_minus
returns-clause-number_for_minus c = gone_wrong (codes "mult 1 -1") 2 0 refl

pub returns-clause-no_target : goal.returns-clause-no_target
returns-clause-no_target c = gone_wrong (codes "expand q p[1]") 1 0 refl

pub returns-clause-open_list : goal.returns-clause-open_list
returns-clause-open_list c = gone_wrong (codes "expand s p[2,1") 2 5 refl

pub returns-clause-too_early : goal.returns-clause-too_early
returns-clause-too_early c = gone_wrong (codes "mult 2 1") 3 0 refl

pub returns-clause-letter : goal.returns-clause-letter
returns-clause-letter c = gone_wrong (codes "mult 1 2 - x") 4 0 refl

pub returns-clause-two_slashes : goal.returns-clause-two_slashes
returns-clause-two_slashes c = gone_wrong (codes "expand m 1/2/3") 2 3 refl

pub returns-clause-two_minus : goal.returns-clause-two_minus
returns-clause-two_minus c = gone_wrong (codes "expand m --1") 2 1 refl

pub returns-clause-minus_inside : goal.returns-clause-minus_inside
returns-clause-minus_inside c = gone_wrong (codes "expand m 2*-1") 2 2 refl

pub returns-clause-past_ascii : goal.returns-clause-past_ascii
returns-clause-past_ascii c = gone_wrong (codes "expand m p[" ++ (195 ∷ 169 ∷ codes "]")) 2 2 refl

pub returns-clause-empty_word : goal.returns-clause-empty_word
returns-clause-empty_word c = syntax_sound all_entries can_be_all (omega arith) (codes "expand" ∷ codes "m" ∷ [] ∷ []) 2 0 refl

pub returns-clause-no_expression : goal.returns-clause-no_expression
returns-clause-no_expression c = gone_wrong (codes "expand m") 2 0 refl

pub returns-clause-a_word_more : goal.returns-clause-a_word_more
returns-clause-a_word_more c = gone_wrong (codes "expand m 1 1") 3 0 refl

pub returns-clause-slash_twice : goal.returns-clause-slash_twice
returns-clause-slash_twice c = gone_wrong (codes "skew / / 1") 2 0 refl

pub returns-clause-more_than_batch : goal.returns-clause-more_than_batch
returns-clause-more_than_batch c = gone_wrong (codes "batch x") 1 0 refl

pub returns-clause-no_batch_in_a_batch : goal.returns-clause-no_batch_in_a_batch
returns-clause-no_batch_in_a_batch c = syntax_sound line_entries can_be_line (omega arith) (words_of_line (codes "batch")) 0 0 refl

pub returns-clause-no_work_in_a_batch : goal.returns-clause-no_work_in_a_batch
returns-clause-no_work_in_a_batch c = syntax_sound line_entries can_be_line (omega arith) (words_of_line (codes "work 1 0")) 0 0 refl

pub returns-clause-byte_255 : goal.returns-clause-byte_255
returns-clause-byte_255 c = syntax_sound line_entries can_be_line (omega arith) (words_of_line (codes "mult 1 - " ++ (255 ∷ []))) 3 0 refl

pub returns-clause-form_before_rows : goal.returns-clause-form_before_rows
returns-clause-form_before_rows c = gone_wrong (codes "mult -m -r 2 1 - 1") 2 0 refl

pub returns-clause-form_twice : goal.returns-clause-form_twice
returns-clause-form_twice c = gone_wrong (codes "skew -m -m 1 /") 2 0 refl

pub returns-clause-form_behind_target : goal.returns-clause-form_behind_target
returns-clause-form_behind_target c = gone_wrong (codes "expand s -m 1") 2 2 refl

pub returns-clause-no_form : goal.returns-clause-no_form
returns-clause-no_form c = gone_wrong (codes "quantum -m 2 2 1 - 1") 1 0 refl

pub returns-clause-second_expression : goal.returns-clause-second_expression
returns-clause-second_expression c = gone_wrong (codes "plethysm s h[2] h[2") 3 3 refl

pub returns-clause-no_second_expression : goal.returns-clause-no_second_expression
returns-clause-no_second_expression c = gone_wrong (codes "plethysm s h[2]") 3 0 refl

pub returns-clause-first_expression : goal.returns-clause-first_expression
returns-clause-first_expression c = gone_wrong (codes "plethysm s h[2 h[2") 2 3 refl

pub returns-clause-no_rows : goal.returns-clause-no_rows
returns-clause-no_rows c = gone_wrong (codes "stanley 1") 1 0 refl
