use Rattle.std.proofs.Common.{◌∙◌}
use Rattle.expansion_printer.proofs.CollectedLines.{both_empty}
use Rattle.expansion_printer.proofs.line_text.LineText.is_empty.Goals as goal

pub returns-else-is_empty : goal.returns-else-is_empty
returns-else-is_empty c = (
  λ t. let f = c.if-is_empty.false in absurd (cc),
  λ e. c.is_empty.ensures.1 (both_empty _ _ (c.self.view_is ∙ e)).1,
)
