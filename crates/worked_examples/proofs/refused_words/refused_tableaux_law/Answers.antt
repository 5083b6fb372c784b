-- Proofs of the examples of `refused_tableaux_law`, each of which is computed.
use Rattle.std.proofs.Common.{[], ◌∷◌, ◌++◌, refl, rules}
use Rattle.std.specs.Prelude.{codes}
use Rattle.sym_model.specs.ExpressionOffence.{range, shape}
use Rattle.sym_model.specs.Command.{unrsk, rect}
use Rattle.worked_examples.specs.Examples.{repeated}
use Rattle.worked_examples.proofs.ComputedExamples.{said, offended}
use Rattle.worked_examples.proofs.refused_words.refused_tableaux_law.Goals as goal

pub returns-clause-inner_outside : goal.returns-clause-inner_outside
returns-clause-inner_outside c = offended (codes "rect 1 / 2 - .") (3, 0, shape) refl

pub returns-clause-no_cells : goal.returns-clause-no_cells
returns-clause-no_cells c = said (codes "rect 1 / 1 - .") (rect (1 ∷ []) (1 ∷ []) ([] ∷ [])) refl

pub returns-clause-no_rows : goal.returns-clause-no_rows
returns-clause-no_rows c = said (codes "rect / - .") (rect [] [] []) refl

pub returns-clause-rectified : goal.returns-clause-rectified
returns-clause-rectified c = search (rules, said)

pub returns-clause-row_too_long : goal.returns-clause-row_too_long
returns-clause-row_too_long c = offended (codes "rect 2 2 / 1 - 1 1 / 1 2") (7, 0, shape) refl

pub returns-clause-ends_too_early : goal.returns-clause-ends_too_early
returns-clause-ends_too_early c = offended (codes "rect 2 2 / 1 - 1 / 1") (9, 0, shape) refl

pub returns-clause-falls : goal.returns-clause-falls
returns-clause-falls c = offended (codes "rect 2 2 / 1 - 1 / 3 2") (9, 0, shape) refl

pub returns-clause-column_stays : goal.returns-clause-column_stays
returns-clause-column_stays c = offended (codes "rect 2 2 / 1 - 2 / 1 2") (9, 0, shape) refl

pub returns-clause-shapes_differ : goal.returns-clause-shapes_differ
returns-clause-shapes_differ c = offended (codes "unrsk 1 2 / 3 - 1 2") (8, 0, shape) refl

pub returns-clause-pair : goal.returns-clause-pair
returns-clause-pair c = search (rules, said)

pub returns-clause-empty_pair : goal.returns-clause-empty_pair
returns-clause-empty_pair c = said (codes "unrsk . - .") (unrsk [] []) refl

pub returns-clause-dot_below : goal.returns-clause-dot_below
returns-clause-dot_below c = offended (codes "unrsk 1 / . - 1") (3, 0, shape) refl

pub returns-clause-row_grows : goal.returns-clause-row_grows
returns-clause-row_grows c = offended (codes "unrsk 1 / 2 3 - 1 / 2 3") (4, 0, shape) refl

pub returns-clause-recorded_twice : goal.returns-clause-recorded_twice
returns-clause-recorded_twice c = offended (codes "unrsk 1 2 - 1 1") (5, 0, shape) refl

pub returns-clause-past_the_cells : goal.returns-clause-past_the_cells
returns-clause-past_the_cells c = offended (codes "unrsk 1 2 - 1 3") (5, 0, shape) refl

pub returns-clause-not_in_the_list : goal.returns-clause-not_in_the_list
returns-clause-not_in_the_list c = search (rules, offended)

pub returns-clause-in_the_list : goal.returns-clause-in_the_list
returns-clause-in_the_list c = search (rules, said)

pub returns-clause-from_the_start : goal.returns-clause-from_the_start
returns-clause-from_the_start c = search (rules, said)

pub returns-clause-entry_65536 : goal.returns-clause-entry_65536
returns-clause-entry_65536 c = offended (codes "rect 1 / - 65536") (4, 0, range) refl

pub returns-clause-numbers_257 : goal.returns-clause-numbers_257
returns-clause-numbers_257 c =
    offended (codes "unrsk " ++ (repeated 257 (codes "1") ++ codes "- 1")) (257, 0, range) refl

pub returns-clause-numbers_257_in_rows : goal.returns-clause-numbers_257_in_rows
returns-clause-numbers_257_in_rows c =
    offended (codes "unrsk " ++ (repeated 256 (codes "1") ++ codes "/ 2 - 1")) (258, 0, range) refl

pub returns-clause-wide_entry : goal.returns-clause-wide_entry
returns-clause-wide_entry c = search (rules, offended)
