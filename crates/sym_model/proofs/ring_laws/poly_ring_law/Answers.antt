use Rattle.sym_model.proofs.Polynomials.{plus_respects, times_respects, scale_respects}
use Rattle.sym_model.proofs.Polynomials.{restrict_respects, In_plus, In_times, In_negate}
use Rattle.sym_model.proofs.PolynomialLaws.{plus_comm, plus-negate, times_comm, times_assoc}
use Rattle.sym_model.proofs.PolynomialLaws.{one-times, times-plus, scale-times, restrict-times}
use Rattle.sym_model.proofs.PolynomialLaws.{restrict-one}
use Rattle.sym_model.proofs.ring_laws.poly_ring_law.Goals as goal

pub returns-clause-plus_commutative : goal.returns-clause-plus_commutative
returns-clause-plus_commutative c = plus_comm

pub returns-clause-plus_negate : goal.returns-clause-plus_negate
returns-clause-plus_negate c = plus-negate

pub returns-clause-times_associative : goal.returns-clause-times_associative
returns-clause-times_associative c = times_assoc

pub returns-clause-times_commutative : goal.returns-clause-times_commutative
returns-clause-times_commutative c = times_comm

pub returns-clause-times_one : goal.returns-clause-times_one
returns-clause-times_one c = one-times

pub returns-clause-distributive : goal.returns-clause-distributive
returns-clause-distributive c = times-plus

pub returns-clause-scale_times : goal.returns-clause-scale_times
returns-clause-scale_times c = scale-times

pub returns-clause-plus_respects : goal.returns-clause-plus_respects
returns-clause-plus_respects c = plus_respects

pub returns-clause-times_respects : goal.returns-clause-times_respects
returns-clause-times_respects c = times_respects

pub returns-clause-scale_respects : goal.returns-clause-scale_respects
returns-clause-scale_respects c = scale_respects

pub returns-clause-restrict_respects : goal.returns-clause-restrict_respects
returns-clause-restrict_respects c = restrict_respects

pub returns-clause-restrict_times : goal.returns-clause-restrict_times
returns-clause-restrict_times c = restrict-times

pub returns-clause-restrict_one : goal.returns-clause-restrict_one
returns-clause-restrict_one c = restrict-one

pub returns-clause-plus_in : goal.returns-clause-plus_in
returns-clause-plus_in c = In_plus

pub returns-clause-times_in : goal.returns-clause-times_in
returns-clause-times_in c = In_times

pub returns-clause-negate_in : goal.returns-clause-negate_in
returns-clause-negate_in c = In_negate
