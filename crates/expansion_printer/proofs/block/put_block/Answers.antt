use Rattle.std.proofs.Common.{ap}
use Rattle.sym_model.specs.Kind.{label_rules, expansion}
use Rattle.sym_model.specs.LabelLimits.{is_label, is_pair_label, is_power_label}
use Rattle.sym_model.specs.LabelLimits.{is_permutation_label, is_monomial_label, is_shifted_label}
use Rattle.sym_model.specs.PrintedBlock.{block_by}
use Rattle.sym_model.specs.PrintedOrder.{printed_order, pair_order, power_order, permutation_order}
use Rattle.sym_model.specs.PrintedOrder.{shifted_order}
use Rattle.sparse_polys.proofs.Tables.{terms-fractions}
use Rattle.expansion_printer.proofs.GatheringLaws.{Gathers-as}
use Rattle.expansion_printer.proofs.PrintableTerms.{whole-printable, fractions-printable}
use Rattle.expansion_printer.proofs.block.put_block.Goals as goal

pub returns-in-Expansion-clause-goes : goal.returns-in-Expansion-clause-goes
returns-in-Expansion-clause-goes g c =
    rw c.in-Expansion.is
    (Gathers-as (ap (block_by (label_rules expansion)) (terms-fractions c.in-Expansion.terms))
    c.put_terms.ensures.goes)

pub returns-in-Expansion-clause-printable : goal.returns-in-Expansion-clause-printable
returns-in-Expansion-clause-printable g c =
    let e = c.put_terms.ensures in
    rw c.in-Expansion.is (fractions-printable printed_order is_label c.in-Expansion.terms e.held
    e.canonical)

pub returns-in-Product-clause-printable : goal.returns-in-Product-clause-printable
returns-in-Product-clause-printable g c =
    let e = c.put_terms-in-Product.ensures in
    rw c.in-Product.is (whole-printable printed_order is_label c.in-Product.terms e.held
    e.canonical)

pub returns-in-Pairs-clause-printable : goal.returns-in-Pairs-clause-printable
returns-in-Pairs-clause-printable g c =
    let e = c.put_terms-in-Pairs.ensures in
    rw c.in-Pairs.is (whole-printable pair_order is_pair_label c.in-Pairs.terms e.held e.canonical)

pub returns-in-Powers-clause-printable : goal.returns-in-Powers-clause-printable
returns-in-Powers-clause-printable g c =
    let e = c.put_terms-in-Powers.ensures in
    rw c.in-Powers.is (whole-printable power_order is_power_label c.in-Powers.terms e.held
    e.canonical)

pub returns-in-Permutations-clause-printable : goal.returns-in-Permutations-clause-printable
returns-in-Permutations-clause-printable g c =
    let e = c.put_terms-in-Permutations.ensures in
    rw c.in-Permutations.is (whole-printable permutation_order is_permutation_label
    c.in-Permutations.terms e.held e.canonical)

pub returns-in-Polynomial-clause-printable : goal.returns-in-Polynomial-clause-printable
returns-in-Polynomial-clause-printable g c =
    let e = c.put_terms-in-Polynomial.ensures in
    rw c.in-Polynomial.is (whole-printable printed_order is_monomial_label c.in-Polynomial.terms
    e.held e.canonical)

pub returns-in-Shifts-clause-printable : goal.returns-in-Shifts-clause-printable
returns-in-Shifts-clause-printable g c =
    let e = c.put_terms-in-Shifts.ensures in
    rw c.in-Shifts.is (whole-printable shifted_order is_shifted_label c.in-Shifts.terms e.held
    e.canonical)
