use Rattle.std.proofs.Common.{◌++◌, ap, List, ℕ, subst}
use Rattle.calc_base.specs.Puts.{Prints}
use Rattle.expression_reading.specs.Trees.{basis_of}
use Rattle.sym_model.specs.LabelLimits.{is_label}
use Rattle.sym_model.specs.OneLine.{one_line}
use Rattle.sym_model.specs.PrintedOrder.{printed_order}
use Rattle.sparse_polys.proofs.Tables.{terms-fractions}
use Rattle.expansion_printer.proofs.PrintableTerms.{whole-printable, fractions-printable}
use Rattle.expansion_printer.proofs.line.print_one_line_after.Goals as goal

pub returns-in-Expansion-clause-prints : goal.returns-in-Expansion-clause-prints
returns-in-Expansion-clause-prints g c =
    let basis = basis_of c.args.basis in
    rw c.in-Expansion.is
    (subst (λ (text : List ℕ). Prints (g.K.Sink.seen c.args.sink.now)
    (g.K.Sink.seen c.print_terms.new.sink) (c.args.front.now ++ text) c.print_terms.result)
    (ap (one_line basis) (terms-fractions c.in-Expansion.terms)) c.print_terms.ensures.prints)

pub returns-in-Expansion-clause-printable : goal.returns-in-Expansion-clause-printable
returns-in-Expansion-clause-printable g c =
    let e = c.print_terms.ensures in
    rw c.in-Expansion.is (fractions-printable printed_order is_label c.in-Expansion.terms e.held
    e.canonical)

pub returns-in-Product-clause-printable : goal.returns-in-Product-clause-printable
returns-in-Product-clause-printable g c =
    let e = c.print_terms-in-Product.ensures in
    rw c.in-Product.is (whole-printable printed_order is_label c.in-Product.terms e.held
    e.canonical)
