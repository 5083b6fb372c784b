-- The printed forms of answers: a block of lines, or one line.
use Rattle.std.specs.Prelude.{Bool, cond}
use Rattle.calc_base.specs.declared.words.Basis.{Basis}
use Rattle.expression_reading.specs.Trees.{basis_of}
use Rattle.sym_model.specs.PrintedForm.{PrintedForm, as_block, as_line}
use Rattle.calc_replies.specs.declared.form.Form.{Form}
use Rattle.calc_replies.specs.declared.form.Form.TheVariants.{Block, Line}

-- the form as a value of the type `PrintedForm` of the crate `sym_model`
abbrev pub plain_form : Form → PrintedForm
plain_form Block = as_block
plain_form (Line basis) = as_line (basis_of basis)

-- the form that a command asks for: one line with elements of the basis, such as s[2,1], if the first argument is true, and otherwise the block, with
-- a line for each term
abbrev pub form_asked : Bool → Basis → Form
form_asked one_line basis = cond one_line (Line basis) Block
