use Rattle.std.proofs.Common.{◌∙◌, ◌++◌, ap}
use Rattle.fraction_laws.specs.Fractions.{whole}
use Rattle.sym_model.specs.Kind.{label_rules, product}
use Rattle.sym_model.specs.PrintedBlock.{line_by}
use Rattle.expansion_printer.proofs.CollectedLines.{bytes_gathered, well_unless}
use Rattle.expansion_printer.proofs.line_text.LineText.push.Goals as goal

pub returns-clause-line : goal.returns-clause-line
returns-clause-line c =
    bytes_gathered c.self.inside.text c.put_line.new.text c.self.inside.sink c.put_line.new.sink _
    c.put_line.ensures.goes c.self.invariant
    (well_unless c.put_line.new.text.well _ c.has_failed.ensures c.if-has_failed.false)
    ∙ ap (λ b. b ++ line_by (label_rules product) (c.args.label.now, whole c.args.c))
    c.self.view_is
