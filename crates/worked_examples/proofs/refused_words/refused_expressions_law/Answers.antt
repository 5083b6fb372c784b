-- Proofs of the examples of `refused_expressions_law`, each of which is computed.
use Rattle.std.proofs.Common.{true, [], refl, rules}
use Rattle.std.specs.Prelude.{codes}
use Rattle.sym_model.specs.Expansion.{schurs}
use Rattle.sym_model.specs.Expression.{number}
use Rattle.sym_model.specs.ExpressionOffence.{literal, range, shape}
use Rattle.sym_model.specs.Command.{expand}
use Rattle.worked_examples.proofs.ComputedExamples.{said, offended}
use Rattle.worked_examples.proofs.refused_words.refused_expressions_law.Goals as goal

pub returns-clause-rising_list : goal.returns-clause-rising_list
returns-clause-rising_list c = offended (codes "expand s p[1,2]") (2, 4, shape) refl

pub returns-clause-denominator_0 : goal.returns-clause-denominator_0
returns-clause-denominator_0 c = offended (codes "expand s 1/0") (2, 2, shape) refl

pub returns-clause-degree_16 : goal.returns-clause-degree_16
returns-clause-degree_16 c = offended (codes "expand p p[16]") (2, 5, range) refl

pub returns-clause-degree_15 : goal.returns-clause-degree_15
returns-clause-degree_15 c = search (rules, said)

pub returns-clause-degree_21 : goal.returns-clause-degree_21
returns-clause-degree_21 c = offended (codes "expand s m[21]") (2, 5, range) refl

pub returns-clause-degree_20 : goal.returns-clause-degree_20
returns-clause-degree_20 c = search (rules, said)

pub returns-clause-degree_of_a_product : goal.returns-clause-degree_of_a_product
returns-clause-degree_of_a_product c = offended (codes "expand p m[15]*m[1]") (2, 10, range) refl

pub returns-clause-wide_number : goal.returns-clause-wide_number
returns-clause-wide_number c =
    offended (codes "expand s 170141183460469231731687303715884105728*p[]") (2, 0, literal) refl

pub returns-clause-wide_after_minus : goal.returns-clause-wide_after_minus
returns-clause-wide_after_minus c =
    offended (codes "expand m -170141183460469231731687303715884105728") (2, 1, literal) refl

pub returns-clause-depth_65 : goal.returns-clause-depth_65
returns-clause-depth_65 c = search (rules, offended)

pub returns-clause-depth_64 : goal.returns-clause-depth_64
returns-clause-depth_64 c = search (rules, said)

pub returns-clause-entries_65 : goal.returns-clause-entries_65
returns-clause-entries_65 c = search (rules, offended)

pub returns-clause-entries_64 : goal.returns-clause-entries_64
returns-clause-entries_64 c = search (rules, said)

pub returns-clause-bytes_4096 : goal.returns-clause-bytes_4096
returns-clause-bytes_4096 c = search (rules, said)

pub returns-clause-bytes_4097 : goal.returns-clause-bytes_4097
returns-clause-bytes_4097 c = search (rules, offended)

pub returns-clause-widest_after_minus : goal.returns-clause-widest_after_minus
returns-clause-widest_after_minus c = search (rules, said)

pub returns-clause-rising_on_one_line : goal.returns-clause-rising_on_one_line
returns-clause-rising_on_one_line c = offended (codes "expand -m s s[1,2]") (3, 4, shape) refl

pub returns-clause-on_one_line : goal.returns-clause-on_one_line
returns-clause-on_one_line c = said (codes "expand -m s 1") (expand schurs true (number 1)) refl
