use Rattle.std.proofs.Common.{◌≡◌, ◌++◌, length}
use Rattle.sym_model.specs.Canonical.{is_printable}
use Rattle.sym_model.specs.Kind.{label_rules, product}
use Rattle.sym_model.specs.PrintedBlock.{lines_by}
use Rattle.sym_model.specs.WholeTerms.{as_fractions}
use Rattle.calc_replies.proofs.written.text_of_terms.Given as goal

abbrev pub invariant-loop-text : goal.invariant-loop-text
invariant-loop-text l = record {
  lines : l.text ++ lines_by (label_rules product) (as_fractions l.lister)
      ≡ lines_by (label_rules product) (as_fractions l.fn.lister);
  fits : is_printable (as_fractions l.fn.lister) ≡ is_printable (as_fractions l.lister);
}

abbrev pub decreases-loop-text : goal.decreases-loop-text
decreases-loop-text l = length l.lister
