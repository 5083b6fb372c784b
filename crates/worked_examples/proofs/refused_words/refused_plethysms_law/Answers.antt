-- Proofs of the examples of `refused_plethysms_law`, each of which is computed.
use Rattle.std.proofs.Common.{refl, rules}
use Rattle.std.specs.Prelude.{codes}
use Rattle.sym_model.specs.ExpressionOffence.{range, shape}
use Rattle.worked_examples.proofs.ComputedExamples.{said, offended}
use Rattle.worked_examples.proofs.refused_words.refused_plethysms_law.Goals as goal

pub returns-clause-minus_inside : goal.returns-clause-minus_inside
returns-clause-minus_inside c = offended (codes "plethysm s h[2] h[1]-h[1]") (3, 4, shape) refl

pub returns-clause-fraction_inside : goal.returns-clause-fraction_inside
returns-clause-fraction_inside c = offended (codes "plethysm s h[2] 3*1/2") (3, 2, shape) refl

pub returns-clause-fraction_outside : goal.returns-clause-fraction_outside
returns-clause-fraction_outside c = search (rules, said)

pub returns-clause-degree_11 : goal.returns-clause-degree_11
returns-clause-degree_11 c = offended (codes "plethysm s h[11] 1-1") (2, 5, range) refl

pub returns-clause-degree_11_inside : goal.returns-clause-degree_11_inside
returns-clause-degree_11_inside c = offended (codes "plethysm s 2 h[11]") (3, 5, range) refl

pub returns-clause-product_12 : goal.returns-clause-product_12
returns-clause-product_12 c = offended (codes "plethysm s h[4] h[3]") (3, 4, range) refl

pub returns-clause-product_10 : goal.returns-clause-product_10
returns-clause-product_10 c = search (rules, said)
