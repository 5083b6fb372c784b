-- The meaning of the text that a command writes: if the text is read back, the result is the list of terms that the
-- command asks for.
use Rattle.std.specs.Prelude.{◌≡◌, ℕ, List, Some}
use Rattle.sym_model.specs.Expansion.{Terms}
use Rattle.sym_model.specs.Kind.{Kind, Label, label_rules}
use Rattle.sym_model.specs.Canonical.{IsCanonicalBy}
use Rattle.sym_model.specs.PrintedForm.{printed_form, read_in}
use Rattle.sym_model.specs.Answer.{answer}
use Rattle.sym_model.specs.Command.{Command}
use Rattle.sym_model.specs.Target.{Meets}

-- if the text is read back in the printed form of the command, the result is a canonical list of terms (labels in the
-- printed order, coefficients in lowest terms and not 0), and this list is the answer that the command asks for
-- (`Meets`)
pub record ReadsBack (command : Command) (text : List ℕ) : Type 0 where
  pub kind : Kind
  pub terms : Terms (Label kind)
  pub reads : read_in (printed_form command) kind text ≡ Some terms
  pub canonical : IsCanonicalBy (label_rules kind) terms
  pub meets : Meets command (answer kind terms)
